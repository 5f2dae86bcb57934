-- Announcements: how many nodes there would be, and slots in which something stands ready.
use Rattle.std.proofs.Common.{◌≡◌, ℕ, ◌<◌, ◌≤◌, ◌+◌, suc, Bool, true, false, List, [], ◌∷◌, ◌++◌, length, Some, None}
use Rattle.std.proofs.Common.{Ok, Err, refl, sym, ap, ◌∙◌, subst, arith, eq-eqb, eqb-true}
use Rattle.std.proofs.lemmas.Bool.{eqb-false, ltb-false, ltb-true}
use Rattle.std.proofs.lemmas.List.{get_or-set_other, get_or-set_same}
use Rattle.std.proofs.lemmas.Option.{same_Some, slice_get_past}
use Rattle.std.specs.Prelude.{◌==◌, ◌||◌, nat_lt, get_or, slice_get, slice_set, if◌then◌else◌}
use Rattle.std.specs.Prelude.{IfOk, IfSome, Option, Result}
use Rattle.route_values.specs.declared.addr.Family.{Family}
use Rattle.route_values.specs.declared.attrs.Attrs.{Attrs}
use Rattle.route_values.specs.declared.attrs.Hop.{Hop}
use Rattle.route_values.specs.declared.key.Key.{Key}
use Rattle.route_values.specs.declared.settings.Settings.{Settings}
use Rattle.route_values.specs.declared.settings.Side.{Side}
use Rattle.route_values.specs.Addr.{family_of}
use Rattle.route_values.specs.Key.{family_of_key, same_key}
use Rattle.route_values.specs.Limits.{counts_written, IsWithinLimits}
use Rattle.route_values.specs.Sent.{hop_sent, sent}
use Rattle.route_values.specs.Settings.{side_of}
use Rattle.adj_rib_out.specs.State.{State, is_ready, value_at}
use Rattle.adj_rib_out.specs.Calls as table
use Rattle.adj_rib_out.specs.Calls.{Readies}
use Rattle.batch_cutter.specs.Heads.{IsRoute}
use Rattle.config_model.specs.Limits.{max_peers}
use Rattle.peer_book.specs.Slot.{Slot}
use Rattle.peer_book.specs.Stands.{Stands}
use Rattle.peer_book.specs.Tables.{AreReady}
use Rattle.peer_history.specs.Cuts.{IsLegal}
use Rattle.peer_history.specs.Keys.{is_named}
use Rattle.peer_history.specs.Ordered.{node_keys}
use Rattle.peer_history.specs.Steps.{Step}
use Rattle.peer_history.specs.Steps.Step.{Announced}
use Rattle.book_history.specs.PeerSteps.{step_if}
use Rattle.book_core.specs.declared.peering.Peering.{Peering}
use Rattle.book_core.specs.Announcing.{nodes_after, nodes_below, AreReadied, IsReadied, Takes}
use Rattle.book_core.specs.Carrying.{is_among}
use Rattle.book_core.specs.Moves.{Moves, MovesAll, MovesBelow, nothing}
use Rattle.book_core.proofs.HelperLemmas.{get_set_other, get_set_same}
use Rattle.book_core.proofs.SessionLemmas.{with_slot}
use Rattle.book_core.proofs.SumLemmas.{sum_last}

-- ---- nodes

-- those of a slot that the announcement isn't for
pub nodes_unchosen : (so : Bool) (own : ℕ) (keys : List Key) (written : Attrs) (steps : List Step) → so ≡ false
    → own ≡ length (node_keys steps) → own ≡ nodes_after (step_if so (Announced keys written ∷ [])) steps
nodes_unchosen false own keys written steps not_so is = is
nodes_unchosen true own keys written steps not_so is = absurd (let never : true ≡ false = not_so in cc)

-- those of a slot with those that the announcement adds
sum_told : (sum : Option ℕ) (own more : ℕ) (slot : Slot) (keys : List Key) → IfSome sum (λ s. s ≡ own + more)
    → ((steps : List Step) → IsLegal steps → Stands steps slot → own ≡ length (node_keys steps))
    → ((steps : List Step) (written : Attrs) → IsLegal steps → Stands steps slot
    → length (node_keys (Announced keys written ∷ steps)) ≡ length (node_keys steps) + more)
    → IfSome sum (λ nodes. (steps : List Step) (written : Attrs) → IsLegal steps → Stands steps slot
    → nodes ≡ length (node_keys (Announced keys written ∷ steps)))
sum_told None own more slot keys is owns adds = tt
sum_told (Some s) own more slot keys is owns adds = λ steps written legal stands.
    is ∙ ap (λ k. k + more) (owns steps legal stands) ∙ sym (adds steps written legal stands)

pub sum_chosen : (so : Bool) (sum : Option ℕ) (own more : ℕ) (slot : Slot) (keys : List Key) → so ≡ true
    → IfSome sum (λ s. s ≡ own + more)
    → ((steps : List Step) → IsLegal steps → Stands steps slot → own ≡ length (node_keys steps))
    → ((steps : List Step) (written : Attrs) → IsLegal steps → Stands steps slot
    → length (node_keys (Announced keys written ∷ steps)) ≡ length (node_keys steps) + more)
    → IfSome sum (λ nodes. (steps : List Step) (written : Attrs) → IsLegal steps → Stands steps slot
    → nodes ≡ nodes_after (step_if so (Announced keys written ∷ [])) steps)
sum_chosen true sum own more slot keys is_so is owns adds = sum_told sum own more slot keys is owns adds
sum_chosen false sum own more slot keys is_so is owns adds = absurd (let never : false ≡ true = is_so in cc)

-- those of one slot more
pub nodes_next : (more steps : ℕ → List Step) (n nodes own sum : ℕ) → nodes ≡ nodes_below n more steps
    → own ≡ nodes_after (more n) (steps n) → sum ≡ nodes + own → sum ≡ nodes_below (n + 1) more steps
nodes_next more steps n nodes own sum below here is =
    let f : ℕ → ℕ = λ m. nodes_after (more m) (steps m) in
    let last = sum_last f 0 n in
    let at : f (0 + n) ≡ f n = ap f (let e : 0 + n ≡ n = omega arith in e) in
    let next : nodes_below (n + 1) more steps ≡ nodes_below (suc n) more steps =
    ap (λ m. nodes_below m more steps) (let e : n + 1 ≡ suc n = omega arith in e) in
    omega (arith, last, at, next, below, here, is)

-- ---- slots in which something was stood ready

-- a slot to which nothing came
still : (was is : Peering) → was ≡ is → Moves [] was is
still was is same = record {
  slot = λ before stands. subst (λ (p : Peering). Stands before p.slot) same stands;
  names = ap (λ (p : Peering). p.names) (sym same);
}

-- slots of which some had something stood ready
pub some_ready : (old new : List Peering) (place : ℕ) → MovesBelow place nothing old new → MovesAll nothing old new
some_ready old new place moved = record {
  count = moved.count;
  below = λ n was is within there here.
      elim (nat_lt n place) as (λ b. nat_lt n place ≡ b → Moves [] was is) [
        | true ↦ λ less. moved.below n was is (ltb-true n place less) there here
        | false ↦ λ past.
            still was is (same_Some was is (sym there ∙ sym (moved.above n (ltb-false n place past)) ∙ here))
      ] refl;
  above = λ n past. elim (nat_lt n place) as (λ b. nat_lt n place ≡ b → slice_get new n ≡ slice_get old n) [
    | true ↦ λ less. slice_get_past new n (subst (λ k. k ≤ n) (sym moved.count) past) ∙ sym (slice_get_past old n past)
    | false ↦ λ below. moved.above n (ltb-false n place below)
  ] refl;
}

-- the slot at a place that nothing came to yet
pub slot_yet : (place : ℕ) (steps : ℕ → List Step) (old new : List Peering) (is : Peering)
    → MovesBelow place steps old new → slice_get new place ≡ Some is → slice_get old place ≡ Some is
slot_yet place steps old new is moved at = sym (moved.above place (omega arith)) ∙ at

-- ---- one slot

-- a table and a history tell alike which keys are named
named_alike : (keys : List Key) (key : Key) → table.is_named keys key ≡ is_named keys key
named_alike [] key = refl
named_alike (k ∷ ks) key = ap (λ b. same_key k key || b) (named_alike ks key)

ready_named : (named ready : Bool) → named ≡ true → (named || ready) ≡ true
ready_named true ready is = refl
ready_named false ready is = absurd (let never : false ≡ true = is in cc)

are_ready : (old new : State) (keys : List Key) (written : Attrs) (number : ℕ) → Readies old new keys written number
    → AreReady new keys
are_ready old new keys written number readies = λ key named.
    readies.keys key
    ∙ ready_named (table.is_named keys key) (is_ready old key) (named_alike keys key ∙ named)

-- what stands ready in a chosen slot may be announced there
pub readied : (old new : Slot) (keys : List Key) (written : Attrs) (number : ℕ) (side : Side)
    (takes : Takes old keys written) → side ≡ side_of takes.own → new.settings ≡ old.settings
    → Readies old.table new.table keys written number
    → ((family : Family) → family_of (hop_sent written.hop side) ≡ family → IsWithinLimits (counts_written written)
    → IsRoute family (sent written side)) → IsReadied new keys written number
readied old new keys written number side takes own settings readies known =
    let routes : (key : Key) → is_named keys key ≡ true
    → IsRoute (family_of_key key) (sent written (side_of takes.own)) =
    λ key named. subst (λ (s : Side). IsRoute (family_of_key key) (sent written s)) own
    (known (family_of_key key)
    (ap (λ (s : Side). family_of (hop_sent written.hop s)) own ∙ takes.hop key named) takes.limits) in
    let value : value_at new.table number ≡ Some written =
    readies.value number
    ∙ ap (λ b. if b then Some written else value_at old.table number) (eq-eqb number number refl) in
    record {
      can = record {
        own = takes.own;
        written = written;
        placed = settings ∙ takes.placed;
        value = value;
        ready = are_ready old.table new.table keys written number readies;
        routes = routes;
      };
      value = value;
    }

-- what is told of a value, if there is one
pub ok_then : {A E : Type 0} {P Q : A → Type 0} (given : Result A E) → ((x : A) → P x → Q x) → IfOk given P
    → IfOk given Q
ok_then (Ok x) more is = more x is
ok_then (Err e) more is = tt

-- ---- one slot more

pub readied_next : (place : ℕ) (peers : List Peering) (was : Peering) (slot : Slot) (chosen : List Bool)
    (keys : List Key) (written : Attrs) (numbers : List ℕ) (number : ℕ) (so : Bool) → place < length numbers
    → so ≡ is_among chosen place → (so ≡ true → IsReadied slot keys written number)
    → AreReadied place peers chosen keys written numbers
    → AreReadied (place + 1) (slice_set peers place (with_slot was slot)) chosen keys written
    (slice_set numbers place number)
readied_next place peers was slot chosen keys written numbers number so within picked ready below =
    λ n is less at is_so.
    elim (place == n) as (λ b. (place == n) ≡ b
    → IsReadied is.slot keys written (get_or (slice_set numbers place number) n 0)) [
      | true ↦ λ same.
          let one : place ≡ n = eqb-true place n same in
          let put : with_slot was slot ≡ is =
          get_set_same peers place (with_slot was slot) is
          (ap (slice_get (slice_set peers place (with_slot was slot))) one ∙ at) in
          let told : get_or (slice_set numbers place number) n 0 ≡ number =
          ap (λ k. get_or (slice_set numbers place number) k 0) (sym one)
          ∙ get_or-set_same numbers place number 0 within in
          subst (IsReadied is.slot keys written) (sym told)
          (subst (λ (p : Peering). IsReadied p.slot keys written number) put
          (ready (picked ∙ ap (is_among chosen) one ∙ is_so)))
      | false ↦ λ other.
          let apart = eqb-false place n other in
          let told : get_or (slice_set numbers place number) n 0 ≡ get_or numbers n 0 =
          get_or-set_other numbers place n number 0 (λ same. apart (sym same)) in
          subst (IsReadied is.slot keys written) (sym told)
          (below n is (omega (arith, less, apart)) (sym (get_set_other peers place n (with_slot was slot) other) ∙ at)
          is_so)
    ] refl

pub all_readied : (place : ℕ) (peers : List Peering) (chosen : List Bool) (keys : List Key) (written : Attrs)
    (numbers : List ℕ) → place ≡ max_peers → AreReadied place peers chosen keys written numbers
    → AreReadied max_peers peers chosen keys written numbers
all_readied place peers chosen keys written numbers whole are =
    subst (λ k. AreReadied k peers chosen keys written numbers) whole are

-- a slot that nothing was announced in yet
pub ready_there : (n : ℕ) (steps : ℕ → List Step) (start peers : List Peering) (chosen : List Bool) (keys : List Key)
    (written : Attrs) (numbers : List ℕ) (number : ℕ) (so : Bool) → n < max_peers → so ≡ is_among chosen n
    → number ≡ get_or numbers n 0 → AreReadied max_peers start chosen keys written numbers
    → MovesBelow n steps start peers → (is : Peering) → slice_get peers n ≡ Some is → so ≡ true
    → IsReadied is.slot keys written number
ready_there n steps start peers chosen keys written numbers number so within picked told ready moved = λ is at is_so.
    subst (IsReadied is.slot keys written) (sym told)
    (ready n is within (slot_yet n steps start peers is moved at) (sym picked ∙ is_so))

-- ---- the step

-- a slot that the announcement isn't for does nothing
pub not_announced : (so : Bool) (keys : List Key) (written : Attrs) (steps : List Step) (slot : Slot) → so ≡ false
    → Stands steps slot → Stands (step_if so (Announced keys written ∷ []) ++ steps) slot
not_announced false keys written steps slot not_so stands = stands
not_announced true keys written steps slot not_so stands = absurd (let never : true ≡ false = not_so in cc)

pub is_announced : (so : Bool) (keys : List Key) (written : Attrs) (steps : List Step) (slot : Slot) → so ≡ true
    → Stands (Announced keys written ∷ steps) slot
    → Stands (step_if so (Announced keys written ∷ []) ++ steps) slot
is_announced true keys written steps slot is_so stands = stands
is_announced false keys written steps slot is_so stands = absurd (let never : false ≡ true = is_so in cc)
