-- Lists in order have each of their keys once.
use Rattle.std.proofs.Common.{◌≡◌, ℕ, ◌+◌, Bool, true, false, List, [], ◌∷◌, ◌++◌, Some, None, refl, sym, ap, ◌∙◌}
use Rattle.std.proofs.Common.{subst}
use Rattle.std.proofs.Common.{arith, inl, inr}
use Rattle.std.specs.Prelude.{◌||◌, map, filter, if◌then◌else◌, Option, unwrap_or, IsSome, is_some}
use Rattle.std.specs.declared.cmp.Ordering.TheVariants.{Less, Equal, Greater}
use Rattle.std.proofs.lemmas.Bool.{or_cases}
use Rattle.std.proofs.lemmas.Option.{same_Some}
use Rattle.route_values.specs.declared.key.Key.{Key}
use Rattle.route_values.specs.Caps.{Caps}
use Rattle.route_values.specs.Key.{same_key}
use Rattle.route_values.specs.Order.{key_cmp}
use Rattle.route_values.proofs.KeyLemmas.{same_key_is}
use Rattle.peer_history.specs.Batches.{opened, first_cut}
use Rattle.peer_history.specs.Cuts.{IsLegal}
use Rattle.peer_history.specs.Keys.{is_named, times_named}
use Rattle.peer_history.specs.Laws.{WantedAreListed, NodesAreListed}
use Rattle.peer_history.specs.Nodes.{is_targeted, is_held, is_node}
use Rattle.peer_history.specs.Ordered.{put_before, in_order, asked_for}
use Rattle.peer_history.specs.Sessions.{session, live, peer}
use Rattle.peer_history.specs.Steps.{Step, Static}
use Rattle.peer_history.specs.Steps.Step.{Announced, Withdrawn, Cleared, Placed, Kept, Vacated, Up, Down, Cut}
use Rattle.peer_history.specs.Steps.Answer.{Message}
use Rattle.peer_history.specs.Table.Owner.{Configuration, Helper}
use Rattle.peer_history.specs.Table.{want, static_at, is_of_helper, view}
use Rattle.peer_history.proofs.KeyLemmas.{is_named-append}
use Rattle.peer_history.proofs.MessageLemmas.{Grammar}
use Rattle.peer_history.proofs.NodeLemmas.{either, shown_wanted}
use Rattle.peer_history.proofs.SessionLemmas.{legal_tail, live_stands}
use Rattle.peer_history.proofs.VisibleLemmas.{peer_after}

-- how often one key is another
abbrev one : Key → Key → ℕ
one k key = if same_key k key then 1 else 0

put_times : (k : Key) (ks : List Key) (key : Key) → times_named (put_before k ks) key ≡ one k key + times_named ks key
put_times k [] key = refl
put_times k (j ∷ js) key =
    elim (key_cmp k j) as (λ o. times_named (elim o [
      | Less ↦ k ∷ j ∷ js
      | Equal ↦ j ∷ put_before k js
      | Greater ↦ j ∷ put_before k js
    ]) key ≡ one k key + (one j key + times_named js key)) [
      | Less ↦ refl
      | Equal ↦ let rest = put_times k js key in omega (arith, rest)
      | Greater ↦ let rest = put_times k js key in omega (arith, rest)
    ]

-- a key that another list names as that one does
same_named : (ks : List Key) (k key : Key) → same_key k key ≡ true → is_named ks key ≡ is_named ks k
same_named ks k key e = ap (is_named ks) (sym (same_key_is k key e))

in_order_times : (keys : List Key) (key : Key) → times_named (in_order keys) key ≡ (if is_named keys key then 1 else 0)
in_order_times [] key = refl
in_order_times (k ∷ ks) key =
    let rest = in_order_times ks key in
    elim (is_named ks k) as (λ n. is_named ks k ≡ n
    → times_named (if n then in_order ks else put_before k (in_order ks)) key
    ≡ (if same_key k key || is_named ks key then 1 else 0)) [
      | true ↦ λ e. elim (same_key k key) as (λ b. same_key k key ≡ b
          → times_named (in_order ks) key ≡ (if b || is_named ks key then 1 else 0)) [
            | true ↦ λ s. subst (λ n. times_named (in_order ks) key ≡ (if n then 1 else 0))
                (same_named ks k key s ∙ e) rest
            | false ↦ λ s. rest
          ] refl
      | false ↦ λ e. put_times k (in_order ks) key ∙ elim (same_key k key) as (λ b. same_key k key ≡ b
          → (if b then 1 else 0) + times_named (in_order ks) key ≡ (if b || is_named ks key then 1 else 0)) [
            | true ↦ λ s.
                let none : times_named (in_order ks) key ≡ 0 =
                subst (λ n. times_named (in_order ks) key ≡ (if n then 1 else 0)) (same_named ks k key s ∙ e) rest in
                omega (arith, none)
            | false ↦ λ s. omega (arith, rest)
          ] refl
    ] refl

-- of a key that passes a test as many are left, of any other none
filter_times : (test : Key → Bool) (keys : List Key) (key : Key)
    → times_named (filter test keys) key ≡ (if test key then times_named keys key else 0)
filter_times test [] key = elim (test key) as (λ b. times_named [] key ≡ (if b then times_named [] key else 0)) [
  | true ↦ refl
  | false ↦ refl
]
filter_times test (k ∷ ks) key =
    let rest = filter_times test ks key in
    elim (same_key k key) as (λ b. same_key k key ≡ b → times_named (filter test (k ∷ ks)) key
    ≡ (if test key then (if b then 1 else 0) + times_named ks key else 0)) [
      | true ↦ λ s.
          let is : k ≡ key = same_key_is k key s in
          let one_is : one k key ≡ 1 = ap (λ b. if b then 1 else 0) s in
          elim (test key) as (λ t. test key ≡ t → times_named (filter test (k ∷ ks)) key
          ≡ (if t then 1 + times_named ks key else 0)) [
            | true ↦ λ e.
                let passed : test k ≡ true = ap test is ∙ e in
                let left : times_named (filter test ks) key ≡ times_named ks key =
                subst (λ t. times_named (filter test ks) key ≡ (if t then times_named ks key else 0)) e rest in
                ap (λ t. times_named (if t then k ∷ filter test ks else filter test ks) key) passed
                ∙ ap (λ n. n + times_named (filter test ks) key) one_is ∙ ap (λ n. 1 + n) left
            | false ↦ λ e.
                let stopped : test k ≡ false = ap test is ∙ e in
                let left : times_named (filter test ks) key ≡ 0 =
                subst (λ t. times_named (filter test ks) key ≡ (if t then times_named ks key else 0)) e rest in
                ap (λ t. times_named (if t then k ∷ filter test ks else filter test ks) key) stopped ∙ left
          ] refl
      | false ↦ λ s.
          let one_is : one k key ≡ 0 = ap (λ b. if b then 1 else 0) s in
          let zero_first : 0 + times_named ks key ≡ times_named ks key = omega arith in
          let same : (if test key then times_named ks key else 0)
          ≡ (if test key then 0 + times_named ks key else 0) =
          ap (λ n. if test key then n else 0) (sym zero_first) in
          elim (test k) as (λ t. times_named (if t then k ∷ filter test ks else filter test ks) key
          ≡ (if test key then 0 + times_named ks key else 0)) [
            | true ↦ ap (λ n. n + times_named (filter test ks) key) one_is
                ∙ (let before : 0 + times_named (filter test ks) key ≡ times_named (filter test ks) key = omega arith in
                before ∙ rest ∙ same)
            | false ↦ rest ∙ same
          ]
    ] refl

-- a test that passes asked-for keys alone lists what it passes
listed : (test : Key → Bool) (keys : List Key) → ((key : Key) → test key ≡ true → is_named keys key ≡ true)
    → (key : Key) → times_named (filter test (in_order keys)) key ≡ (if test key then 1 else 0)
listed test keys within key =
    filter_times test (in_order keys) key ∙ elim (test key) as (λ t. test key ≡ t
    → (if t then times_named (in_order keys) key else 0) ≡ (if t then 1 else 0)) [
      | true ↦ λ e. in_order_times keys key ∙ ap (λ n. if n then 1 else 0) (within key e)
      | false ↦ λ e. refl
    ] refl

-- a static route was asked for
static_named : (statics : List Static) (key : Key) → IsSome (static_at statics key)
    → is_named (map (λ s. s.key) statics) key ≡ true
static_named [] key h = h
static_named (s ∷ ss) key h =
    elim (same_key s.key key) as (λ b. is_some (if b then Some (record { attrs = s.attrs; owner = Configuration })
    else static_at ss key) ≡ true → (b || is_named (map (λ t. t.key) ss) key) ≡ true) [
      | true ↦ λ e. refl
      | false ↦ λ e. static_named ss key e
    ] h

named_left : (xs ys : List Key) (key : Key) → is_named xs key ≡ true → is_named (xs ++ ys) key ≡ true
named_left xs ys key h = is_named-append xs ys key ∙ either _ _ (inl h)

named_right : (xs ys : List Key) (key : Key) → is_named ys key ≡ true → is_named (xs ++ ys) key ≡ true
named_right xs ys key h = is_named-append xs ys key ∙ either _ _ (inr h)

-- what is wanted was asked for
wanted_asked : (steps : List Step) (key : Key) → IsSome (want steps key) → is_named (asked_for steps) key ≡ true
wanted_asked [] key h = h
wanted_asked (Announced keys attrs ∷ steps) key h =
    elim (is_named keys key) as (λ b. is_named keys key ≡ b
    → is_some (if b then Some (record { attrs = attrs; owner = Helper }) else want steps key) ≡ true
    → is_named (keys ++ asked_for steps) key ≡ true) [
      | true ↦ λ e q. named_left keys (asked_for steps) key e
      | false ↦ λ e q. named_right keys (asked_for steps) key (wanted_asked steps key q)
    ] refl h
wanted_asked (Withdrawn keys ∷ steps) key h =
    elim (is_named keys key) as (λ b. is_some (if b then None else want steps key) ≡ true
    → is_named (asked_for steps) key ≡ true) [
      | true ↦ λ q. cc
      | false ↦ λ q. wanted_asked steps key q
    ] h
wanted_asked (Cleared ∷ steps) key h = cc
wanted_asked (Placed settings statics ∷ steps) key h =
    named_left (map (λ s. s.key) statics) (asked_for steps) key (static_named statics key h)
wanted_asked (Kept settings statics ∷ steps) key h =
    elim (is_of_helper (want steps key)) as (λ b. is_some (if b then want steps key else static_at statics key) ≡ true
    → is_named (map (λ s. s.key) statics ++ asked_for steps) key ≡ true) [
      | true ↦ λ q. named_right (map (λ s. s.key) statics) (asked_for steps) key (wanted_asked steps key q)
      | false ↦ λ q. named_left (map (λ s. s.key) statics) (asked_for steps) key (static_named statics key q)
    ] h
wanted_asked (Vacated ∷ steps) key h = cc
wanted_asked (step ∷ steps) key h = wanted_asked steps key h

pub shown_asked : (caps : Caps) (steps : List Step) (key : Key) → IsSome (view caps steps key)
    → is_named (asked_for steps) key ≡ true
shown_asked caps steps key h = wanted_asked steps key (shown_wanted caps steps key h)

-- a later history asks for all that an earlier one does
asked_later : (step : Step) (steps : List Step) (key : Key) → is_named (asked_for steps) key ≡ true
    → is_named (asked_for (step ∷ steps)) key ≡ true
asked_later (Announced keys attrs) steps key h = named_right keys (asked_for steps) key h
asked_later (Placed settings statics) steps key h = named_right (map (λ s. s.key) statics) (asked_for steps) key h
asked_later (Kept settings statics) steps key h = named_right (map (λ s. s.key) statics) (asked_for steps) key h
asked_later step steps key h = h

-- what the target of the open batch has was asked for
first_asked : (caps : Caps) (steps : List Step) (key : Key) → (start : List Step) → opened steps ≡ Some start
    → IsSome (view caps start key) → is_named (asked_for steps) key ≡ true
first_asked caps [] key start o h = cc
first_asked caps (Up c ∷ steps) key start o h = cc
first_asked caps (Down ∷ steps) key start o h = cc
first_asked caps (Cut (Message bytes true) ∷ steps) key start o h = cc
first_asked caps (Cut (Message bytes false) ∷ steps) key start o h =
    elim (opened steps) as (λ q. opened steps ≡ q → Some (unwrap_or q steps) ≡ Some start
    → is_named (asked_for steps) key ≡ true) [
      | None ↦ λ e f. shown_asked caps steps key (subst (λ s. IsSome (view caps s key)) (sym (same_Some _ _ f)) h)
      | Some earlier ↦ λ e f. first_asked caps steps key start (e ∙ f) h
    ] refl o
first_asked caps (step ∷ steps) key start o h = asked_later step steps key (first_asked caps steps key start o h)

target_asked : (caps : Caps) (steps : List Step) (key : Key) → IsSome (view caps (first_cut steps) key)
    → is_named (asked_for steps) key ≡ true
target_asked caps steps key h =
    elim (opened steps) as (λ q. opened steps ≡ q → IsSome (view caps (unwrap_or q steps) key)
    → is_named (asked_for steps) key ≡ true) [
      | None ↦ λ e shown. shown_asked caps steps key shown
      | Some start ↦ λ e shown. first_asked caps steps key start e shown
    ] refl h

-- what a peer has was asked for
pub peer_asked : Grammar → (steps : List Step) → IsLegal steps → (caps : Caps) → session steps ≡ Some caps → (key : Key)
    → IsSome (peer caps steps key) → is_named (asked_for steps) key ≡ true
peer_asked grammar [] legal caps at key h = cc
peer_asked grammar (Up c ∷ steps) legal caps at key h = cc
peer_asked grammar (Down ∷ steps) legal caps at key h = cc
peer_asked grammar (Cut (Message bytes last) ∷ steps) legal caps at key h =
    elim (peer_after grammar caps steps bytes last legal at key h) [
      | inl shown ↦ target_asked caps steps key shown
      | inr had ↦ peer_asked grammar steps legal.1 caps at key had
    ]
peer_asked grammar (step ∷ steps) legal caps at key h =
    asked_later step steps key (peer_asked grammar steps (legal_tail step steps legal) caps at key h)

held_asked : Grammar → (steps : List Step) → IsLegal steps → (key : Key) → (l : Option Caps) → live steps ≡ l
    → is_held l steps key ≡ true → is_named (asked_for steps) key ≡ true
held_asked grammar steps legal key None at h = cc
held_asked grammar steps legal key (Some caps) at h =
    elim (or_cases _ _ h) [
      | inl had ↦ peer_asked grammar steps legal caps (live_stands steps caps at) key had
      | inr shown ↦ elim (opened steps) as (λ q. opened steps ≡ q → is_targeted caps q key ≡ true
          → is_named (asked_for steps) key ≡ true) [
            | None ↦ λ e q. cc
            | Some start ↦ λ e q. first_asked caps steps key start e q
          ] refl shown
    ]

node_asked : Grammar → (steps : List Step) → IsLegal steps → (key : Key) → is_node steps key ≡ true
    → is_named (asked_for steps) key ≡ true
node_asked grammar steps legal key h =
    elim (or_cases _ _ h) [
      | inl wanted ↦ wanted_asked steps key wanted
      | inr held ↦ held_asked grammar steps legal key (live steps) refl held
    ]

pub wanted_are_listed : WantedAreListed
wanted_are_listed steps key = listed (λ k. is_some (want steps k)) (asked_for steps) (wanted_asked steps) key

pub nodes_are_listed : Grammar → NodesAreListed
nodes_are_listed grammar steps legal key =
    listed (is_node steps) (asked_for steps) (node_asked grammar steps legal) key
