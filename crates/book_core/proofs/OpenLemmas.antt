-- The opening.
use Rattle.std.proofs.Common.{◌≡◌, ℕ, ◌≤◌, ◌+◌, zero, suc, Bool, true, false, List, [], ◌∷◌, length, map, Some}
use Rattle.std.proofs.Common.{None, refl, sym, ap, ◌∙◌, subst, arith}
use Rattle.std.specs.Prelude.{filter, if◌then◌else◌, Option}
use Rattle.std.specs.List.{sum_by, IsDistinct}
use Rattle.std.specs.declared.cmp.Ordering.{Ordering}
use Rattle.std.specs.declared.cmp.Ordering.TheVariants.{Less, Equal, Greater}
use Rattle.std.proofs.lemmas.List.{length-append, length-map}
use Rattle.std.proofs.lemmas.List.Sums.{sum_by-cons}
use Rattle.route_values.specs.declared.key.Key.{Key}
use Rattle.route_values.specs.Order.{key_cmp}
use Rattle.route_values.specs.Key.{same_addr}
use Rattle.config_model.specs.declared.sections.Neighbor.{Neighbor}
use Rattle.config_model.specs.declared.sections.Process.{Process}
use Rattle.config_model.specs.Checked.{IsConfig}
use Rattle.config_model.specs.Limits.{max_helpers, max_peers}
use Rattle.config_model.specs.Sections.{Sections, same_name, routes_in}
use Rattle.peer_history.specs.Keys.{is_named}
use Rattle.peer_history.specs.Nodes.{is_node}
use Rattle.peer_history.specs.Ordered.{asked_for, in_order, node_keys, put_before}
use Rattle.peer_history.specs.Steps.{Static}
use Rattle.book_history.specs.Bounds.{max_nodes, numbers_from, peer_numbers}
use Rattle.book_history.specs.Nodes.{nodes}
use Rattle.book_history.specs.PeerSteps.{exchanged, statics_of, steps_of}
use Rattle.book_history.specs.Slots.{neighbor_at, slot}
use Rattle.book_core.specs.Seen.{Seen}
use Rattle.book_core.proofs.HeldLemmas.{at_most}
use Rattle.book_core.proofs.NodeLemmas.{sums_few}
use Rattle.book_core.specs.Stands.{AreSlots, HelpersStand, PeersStand, Stands, filled}

filled_some : {A : Type 0} (xs : List A) → filled (map Some xs) ≡ xs
filled_some [] = refl
filled_some (x ∷ xs) = ap (λ ys. x ∷ ys) (filled_some xs)

-- the slots of the opening are the file's places
pub slots_opened : (cfg : Sections) → IsConfig cfg → AreSlots cfg []
slots_opened cfg is = record {
  few_helpers = subst (λ n. n ≤ max_helpers) (sym (length-map cfg.processes Some)) is.draft.few_processes;
  few_peers = subst (λ n. n ≤ max_peers) (sym (length-map cfg.neighbors Some)) is.draft.few_neighbors;
  names = subst (λ (held : List Process). IsDistinct same_name (map (λ process. process.name.items) held))
      (sym (filled_some cfg.processes)) is.draft.names;
  addrs = subst (λ (held : List Neighbor). IsDistinct same_addr (map (λ neighbor. neighbor.settings.peer) held))
      (sym (filled_some cfg.neighbors)) is.draft.peers;
}

-- ---- the route nodes of the opening are static routes

-- a key put before another or behind it, by their order
abbrev put_by : Ordering → Key → Key → List Key → List Key → List Key
put_by Less key k ks rest = key ∷ k ∷ ks
put_by Equal key k ks rest = k ∷ rest
put_by Greater key k ks rest = k ∷ rest

put_longer : (o : Ordering) (key k : Key) (ks rest : List Key) → length rest ≡ length ks + 1
    → length (put_by o key k ks rest) ≡ length (k ∷ ks) + 1
put_longer Less key k ks rest more = omega arith
put_longer Equal key k ks rest more = omega (arith, more)
put_longer Greater key k ks rest more = omega (arith, more)

put_so : (o : Ordering) (key k : Key) (ks rest : List Key)
    → elim o as (λ o. List Key) [
      | Less ↦ key ∷ k ∷ ks
      | Equal ↦ k ∷ rest
      | Greater ↦ k ∷ rest
    ] ≡ put_by o key k ks rest
put_so Less key k ks rest = refl
put_so Equal key k ks rest = refl
put_so Greater key k ks rest = refl

put_long : (key : Key) (keys : List Key) → length (put_before key keys) ≡ length keys + 1
put_long key [] = refl
put_long key (k ∷ ks) =
    ap length (put_so (key_cmp key k) key k ks (put_before key ks))
    ∙ put_longer (key_cmp key k) key k ks (put_before key ks) (put_long key ks)

in_order_few : (keys : List Key) → length (in_order keys) ≤ length keys
in_order_few [] = omega arith
in_order_few (k ∷ ks) =
    let rest = in_order_few ks in
    let put = put_long k (in_order ks) in
    elim (is_named ks k) as (λ so. length (if so then in_order ks else put_before k (in_order ks)) ≤ length (k ∷ ks)) [
      | true ↦ omega (arith, rest)
      | false ↦ omega (arith, rest, put)
    ]

filter_short : (test : Key → Bool) (keys : List Key) → length (filter test keys) ≤ length keys
filter_short test [] = omega arith
filter_short test (k ∷ ks) =
    let rest = filter_short test ks in
    elim (test k) as (λ so. length (if so then k ∷ filter test ks else filter test ks) ≤ length (k ∷ ks)) [
      | true ↦ omega (arith, rest)
      | false ↦ omega (arith, rest)
    ]

-- how many static routes the section in a slot has
abbrev pub statics_in : Option Neighbor → ℕ
statics_in None = 0
statics_in (Some neighbor) = length neighbor.statics

slot_few : (held : Option Neighbor) → length (node_keys (exchanged None held)) ≤ statics_in held
slot_few None = omega arith
slot_few (Some neighbor) =
    let steps = exchanged None (Some neighbor) in
    let asked = asked_for steps in
    let few = filter_short (is_node steps) (in_order asked) in
    let once = in_order_few asked in
    let keys : List Key = map (λ (s : Static). s.key) (statics_of neighbor) in
    let all = length-append keys [] in
    let of_statics : length keys ≡ length (statics_of neighbor) = length-map (statics_of neighbor) _ in
    let of_section : length (statics_of neighbor) ≡ length neighbor.statics = length-map neighbor.statics _ in
    within_statics (length (node_keys steps)) (length (in_order asked)) (length asked) (length neighbor.statics) few
    once (all ∙ ap (λ n. n + 0) (of_statics ∙ of_section))
  where
    within_statics : (a b c d : ℕ) → a ≤ b → b ≤ c → c ≡ d + 0 → a ≤ d
    within_statics a b c d few once same = omega (arith, few, once, same)

-- a sum over slots from the second one on is that over slots from the first one on, each moved by one
shifted : (f : ℕ → ℕ) (k m : ℕ) → sum_by f (numbers_from (suc k) m) ≡ sum_by (λ n. f (suc n)) (numbers_from k m)
shifted f k zero = refl
shifted f k (suc m) =
    sum_by-cons f (suc k) (numbers_from (suc (suc k)) m) ∙ ap (λ s. f (suc k) + s) (shifted f (suc k) m)
    ∙ sym (sum_by-cons (λ n. f (suc n)) k (numbers_from (suc k) m))

none_there : (ns : List ℕ) → sum_by (λ n. 0) ns ≡ 0
none_there [] = refl
none_there (n ∷ ns) =
    let step = sum_by-cons (λ _. 0) n ns in
    let rest = none_there ns in
    omega (arith, step, rest)

add_up : (whole first later rest section total : ℕ) → whole ≡ first + later → later ≡ rest → rest ≤ section
    → total ≡ first + section → whole ≤ total
add_up whole first later rest section total split moved few all = omega (arith, split, moved, few, all)

-- how many static routes the sections of so many slots have
abbrev statics_below : List Neighbor → ℕ → ℕ
statics_below xs m = sum_by (λ n. statics_in (slot (map Some xs) n)) (numbers_from 0 m)

slots_few : (xs : List Neighbor) (m : ℕ) → statics_below xs m ≤ routes_in xs
slots_few xs zero = omega arith
slots_few [] (suc m) =
    let none : statics_below [] (suc m) ≡ 0 = none_there (numbers_from 0 (suc m)) in
    subst (λ k. k ≤ 0) (sym none) (omega arith)
slots_few (x ∷ xs) (suc m) =
    let f : ℕ → ℕ = λ n. statics_in (slot (map Some (x ∷ xs)) n) in
    let split : statics_below (x ∷ xs) (suc m) ≡ length x.statics + sum_by f (numbers_from 1 m) =
    sum_by-cons f 0 (numbers_from 1 m) in
    let moved : sum_by f (numbers_from 1 m) ≡ statics_below xs m = shifted f 0 m in
    let all : routes_in (x ∷ xs) ≡ length x.statics + routes_in xs =
    sum_by-cons (λ (neighbor : Neighbor). length neighbor.statics) x xs in
    add_up (statics_below (x ∷ xs) (suc m)) (length x.statics) (sum_by f (numbers_from 1 m)) (statics_below xs m)
    (routes_in xs) (routes_in (x ∷ xs)) split moved (slots_few xs m) all

-- no more route nodes stand at the opening than there may be
pub opened_within : (cfg : Sections) → IsConfig cfg → nodes cfg [] ≤ max_nodes
opened_within cfg is =
    let few = sums_few (λ n. length (node_keys (steps_of cfg n []))) (λ n. statics_in (neighbor_at cfg [] n))
    (λ n. slot_few (neighbor_at cfg [] n)) peer_numbers in
    let all = slots_few cfg.neighbors max_peers in
    at_most (nodes cfg []) (sum_by (λ n. statics_in (neighbor_at cfg [] n)) peer_numbers) max_nodes few
    (at_most (sum_by (λ n. statics_in (neighbor_at cfg [] n)) peer_numbers) (routes_in cfg.neighbors) max_nodes all
    is.draft.few_routes)

-- the book at the opening
pub opened : (cfg : Sections) (book : Seen) → IsConfig cfg → HelpersStand cfg [] book.helpers
    → PeersStand cfg [] book.peers → book.stopping ≡ false → book.reload_due ≡ false → Stands cfg [] book
opened cfg book is helpers peers on due = record {
  helpers = helpers;
  peers = peers;
  daemon = record { stopping = on; reload_due = due };
  held = record { legal = tt; bounded = opened_within cfg is; slots = slots_opened cfg is };
}
