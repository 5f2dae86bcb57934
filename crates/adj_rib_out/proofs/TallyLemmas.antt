-- How often written values and wire attributes are used, as the calls of a table change it.
use Rattle.std.proofs.Common.{◌≡◌, ◌==◌, ℕ, ◌+◌, ◌<◌, ◌≤◌, Bool, true, false, List, [], ◌∷◌, cond, suc, take}
use Rattle.std.proofs.Common.{Option, Some, None, length, refl, sym, ap, subst, arith}
use Rattle.std.specs.Prelude.{slice_set, nat_lt, ◌&&◌, ◌-◌, ◌/◌}
use Rattle.std.specs.List.{sum_by}
use Rattle.std.proofs.lemmas.Bool.{eq-eqb}
use Rattle.std.proofs.lemmas.List.{take_all}
use Rattle.std.proofs.lemmas.List.Sums.{sum_by-cons, sum_by-set, sum_by_more, sum_by_more_le, get_or-le-sum_by}
use Rattle.linked_pending.specs.Links.{link}
use Rattle.route_values.specs.declared.attrs.Attrs.{Attrs}
use Rattle.adj_rib_out.specs.declared.chosen.Chosen.{Chosen}
use Rattle.adj_rib_out.specs.Counts.{of_value, with_wire, for_wire, RoutesCounted, UsesCounted}
use Rattle.adj_rib_out.specs.Kept.{chosen_at}
use Rattle.adj_rib_out.proofs.NumberLemmas.{not_above}

-- ---- sums of ones

small_sum : {X : Type 0} (f : X → ℕ) → ((x : X) → f x ≤ 1) → (xs : List X) → sum_by f xs ≤ length xs
small_sum f small [] = omega arith
small_sum f small (x ∷ xs) =
    let one = small x in
    let rest = small_sum f small xs in
    let both = sum_by-cons f x xs in
    omega arith

one_if : (test : Bool) → cond test 1 0 ≤ 1
one_if true = omega arith
one_if false = omega arith

value_small : (value : ℕ) (o : Option Chosen) → of_value value o ≤ 1
value_small value None = omega arith
value_small value (Some c) = one_if (c.value == value)

with_small : (wire : ℕ) (o : Option (Attrs × ℕ)) → with_wire wire o ≤ 1
with_small wire None = omega arith
with_small wire (Some value) = one_if (value.1 == wire)

for_small : (wire number : ℕ) → for_wire wire number ≤ 1
for_small wire number = one_if (nat_lt 1 number && (number / 2 - 1 == wire))

-- ---- routes

pub own_value : (chosen : Chosen) → of_value chosen.value (Some chosen) ≡ 1
own_value chosen = ap (λ (t : Bool). cond t 1 0) (eq-eqb chosen.value chosen.value refl)

module _ (routes : List (Option Chosen)) (counts : List ℕ) (counted : RoutesCounted routes counts) where
  pub routes_small : (value : ℕ) → link counts value ≤ length routes
  routes_small value = subst (λ n. n ≤ length routes) (sym (counted value))
      (small_sum (of_value value) (value_small value) routes)

  module _ (place : ℕ) (within : place < length routes) where
    -- what stands at a place is counted
    pub is_counted : (value : ℕ) → of_value value (chosen_at routes place) ≤ link counts value
    is_counted value = subst (λ n. of_value value (chosen_at routes place) ≤ n) (sym (counted value))
        (get_or-le-sum_by (of_value value) routes place None within)

    pub given_counted : (released held : List ℕ) (r : Option Chosen)
        → ((value : ℕ) → link released value + of_value value (chosen_at routes place) ≡ link counts value)
        → ((value : ℕ) → link held value ≡ link released value + of_value value r)
        → RoutesCounted (slice_set routes place r) held
    given_counted released held r less more value =
        let changed = sum_by-set (of_value value) routes place r None within in
        let total = counted value in
        let less_one = less value in
        let more_one = more value in
        omega arith

-- ---- wire attributes

module _ (written : List (Option (Attrs × ℕ))) (sents uses : List ℕ) (counted : UsesCounted written sents uses) where
  pub uses_small : (wire : ℕ) → link uses wire ≤ length written + length sents
  uses_small wire =
      let total = counted wire in
      let values = small_sum (with_wire wire) (with_small wire) written in
      let slots = small_sum (for_wire wire) (for_small wire) sents in
      omega arith

  pub sents_counted : (wire : ℕ) → sum_by (for_wire wire) sents ≤ link uses wire
  sents_counted wire = let total = counted wire in omega arith

  module _ (place : ℕ) (within : place < length sents) where
    pub is_used : (wire : ℕ) → for_wire wire (link sents place) ≤ link uses wire
    is_used wire =
        let total = counted wire in
        let part = get_or-le-sum_by (for_wire wire) sents place 0 within in
        omega arith

    -- a slot was sent one number in place of another
    pub exchanged_by : (number : ℕ) (later : List ℕ)
        → ((wire : ℕ) → link later wire + for_wire wire (link sents place) ≡ link uses wire + for_wire wire number)
        → UsesCounted written (slice_set sents place number) later
    exchanged_by number later both wire =
        let changed = sum_by-set (for_wire wire) sents place number 0 within in
        let total = counted wire in
        let exchange = both wire in
        omega arith

  -- nothing is sent any more
  pub restarted_counted : (later less : List ℕ)
      → ((wire : ℕ) → link less wire + sum_by (for_wire wire) sents ≡ link uses wire)
      → ((place : ℕ) → link later place < 2) → UsesCounted written later less
  restarted_counted later less lost none wire =
      let total = counted wire in
      let gone = lost wire in
      let nothing = none_sent later none wire in
      omega arith
    where
      none_sent : (ns : List ℕ) → ((place : ℕ) → link ns place < 2) → (w : ℕ) → sum_by (for_wire w) ns ≡ 0
      none_sent [] each w = refl
      none_sent (n ∷ ns) each w =
          let first : for_wire w n ≡ 0 = ap (λ (t : Bool). cond (t && (n / 2 - 1 == w)) 1 0) (not_above n (each 0)) in
          let rest = none_sent ns (λ i. each (suc i)) w in
          let both = sum_by-cons (for_wire w) n ns in
          omega arith

-- ---- what was sent is taken off, one slot after another

-- the slots below a place count no more
abbrev pub HasLost : List ℕ → List ℕ → List ℕ → ℕ → Type 0
HasLost sents uses less place =
    (wire : ℕ) → link less wire + sum_by (for_wire wire) (take place sents) ≡ link uses wire

module _ (sents uses : List ℕ) (sent_counted : (wire : ℕ) → sum_by (for_wire wire) sents ≤ link uses wire) where
  pub none_lost : HasLost sents uses uses 0
  none_lost wire = omega arith

  module _ (place : ℕ) (within : place < length sents) (less : List ℕ) (lost : HasLost sents uses less place)
    where
      pub can_lose : (wire : ℕ) → for_wire wire (link sents place) ≤ link less wire
      can_lose wire =
          let all = sent_counted wire in
          let part = sum_by_more_le (for_wire wire) sents place 0 within in
          let so_far = lost wire in
          omega arith

      pub next_lost : (fewer : List ℕ) → ((wire : ℕ) → link fewer wire + for_wire wire (link sents place) ≡ link less
          wire)
          → HasLost sents uses fewer (place + 1)
      next_lost fewer one wire =
          let more = sum_by_more (for_wire wire) sents place 0 within in
          let so_far = lost wire in
          let this = one wire in
          omega arith

  pub all_lost : (place : ℕ) (less : List ℕ) → length sents ≤ place → HasLost sents uses less place
      → (wire : ℕ) → link less wire + sum_by (for_wire wire) sents ≡ link uses wire
  all_lost place less through lost wire =
      let so_far = lost wire in
      let same = ap (sum_by (for_wire wire)) (take_all place sents through) in
      omega arith
