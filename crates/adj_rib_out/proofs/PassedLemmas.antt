-- An item of the open batch is passed: what the table is then, with its notes and counts.
use Rattle.std.proofs.Common.{◌≡◌, ℕ, ◌+◌, ◌<◌, ◌≤◌, Bool, List, [], ◌∷◌, cond, Option, Some, length}
use Rattle.std.proofs.Common.{refl, sym, ap, subst, ◌∙◌, arith}
use Rattle.std.specs.Prelude.{is_some, IsSome, slice_get, ◌&&◌, not, ◌-◌, ◌/◌, ◌^◌}
use Rattle.linked_pending.specs.Links.{link}
use Rattle.value_pool.specs.Pool.{noted}
use Rattle.route_values.specs.declared.key.Key.{Key}
use Rattle.slot_batches.specs.Slots.{Slots}
use Rattle.slot_batches.specs.declared.slots.Item.{Item as SlotItem}
use Rattle.adj_rib_out.specs.State.{State}
use Rattle.adj_rib_out.specs.Calls.{Passes}
use Rattle.adj_rib_out.specs.Counts.{IsWhole, for_wire}
use Rattle.adj_rib_out.specs.Kept.{Parts, Values, IsLeft, AreLeft, seen, wire_under}
use Rattle.adj_rib_out.specs.Nodes.{nodes}
use Rattle.adj_rib_out.specs.Places.{key_at}
use Rattle.adj_rib_out.proofs.NumberLemmas.{some_is_some}
use Rattle.adj_rib_out.proofs.PassLemmas as pass_of
use Rattle.adj_rib_out.proofs.PassLemmas.{HasPassed}
use Rattle.adj_rib_out.proofs.PlaceLemmas as place_of
use Rattle.adj_rib_out.proofs.PlaceLemmas.{stands_by}
use Rattle.adj_rib_out.proofs.RowLemmas.{within, none_some, some_is}
use Rattle.adj_rib_out.proofs.TallyLemmas as tally
use Rattle.adj_rib_out.proofs.WholeLemmas as whole_of

first_left : (keys : List (Option Key)) (values : Values) (left : List SlotItem) → AreLeft keys values left
    → (item : SlotItem) → slice_get left 0 ≡ Some item → IsLeft keys values item
first_left keys values [] each item is = absurd (none_some is)
first_left keys values (first ∷ rest) each item is = subst (IsLeft keys values) (some_is is) each.0

module _ (p : Parts) (places routes uses : List ℕ) (whole : IsWhole p places routes uses) (item : SlotItem)
    (here : slice_get p.slots.left 0 ≡ Some item) where
  is_left : IsLeft p.keys p.values item
  is_left = first_left p.keys p.values p.slots.left whole.table.left item here

  within_sents : item.slot < length p.slots.sents
  within_sents = subst (λ n. item.slot < n) (sym whole.table.sents_length)
      (within p.keys is_left.key item.slot is_left.stands)

  pub stands : (keys : List (Option Key)) → keys ≡ p.keys → IsSome (key_at keys item.slot)
  stands keys same = some_is_some (key_at keys item.slot) is_left.key
      (ap (λ (ks : List (Option Key)). key_at ks item.slot) same ∙ is_left.stands)

  -- ---- the number that was sent is exchanged

  pub can_lose : (lost : ℕ) → lost ≡ link p.slots.sents item.slot → (wire : ℕ)
      → for_wire wire lost ≤ link uses wire
  can_lose lost is wire = subst (λ n. for_wire wire n ≤ link uses wire) (sym is)
      (tally.is_used p.values.written p.slots.sents uses whole.uses_counted item.slot within_sents wire)

  pub lost_stands : (lost : ℕ) → lost ≡ link p.slots.sents item.slot → 1 < lost
      → IsSome (wire_under p.values (lost / 2 - 1))
  lost_stands lost is above = subst (λ n. IsSome (wire_under p.values (n / 2 - 1))) (sym is)
      (whole_of.sent_stands p whole.table item.slot (subst (λ n. 1 < n) is above))

  pub can_gain : 1 < item.value → IsSome (wire_under p.values (item.value / 2 - 1))
  can_gain above = is_left.number.stands above

  pub uses_small : length p.routes < 2 ^ 63 → (wire : ℕ) → link uses wire < length p.values.written + 2 ^ 63
  uses_small small wire =
      let most = tally.uses_small p.values.written p.slots.sents uses whole.uses_counted wire in
      let sents = whole.table.sents_length in
      let rows = whole.table.routes_length in
      omega arith

  module _ (slots : Slots) (pass : HasPassed p.slots slots) (keys : List (Option Key)) (values : Values)
      (same_keys : keys ≡ p.keys) (same_values : values ≡ p.values) (state : State) (view : seen p ≡ state) where
    abbrev made : Parts
    made = pass_of.made p whole.table state view slots pass (ap is_some here)

    abbrev pub after : Parts
    after = record p { keys = keys; values = values; slots = slots }

    pub after_passes : Passes state (seen after)
    after_passes = whole_of.move made keys values same_keys same_values (λ (q : Parts). Passes state (seen q))
        (pass_of.made_passes p whole.table state view slots pass (ap is_some here))

    pub after_counts : (was now gone : Bool) → was ≡ stands_by p item.slot → now ≡ stands_by made item.slot
        → gone ≡ (was && not now) → nodes (seen after) + cond gone 1 0 ≡ nodes state
    after_counts was now gone was_is now_is gone_is = whole_of.move made keys values same_keys same_values
        (λ (q : Parts). nodes (seen q) + cond gone 1 0 ≡ nodes state)
        (place_of.after_counts p whole.table state view slots pass item here was now gone was_is now_is gone_is)

    pub after_whole : (stays : Bool) → stays ≡ stands_by made item.slot → (lost : ℕ)
        → lost ≡ link p.slots.sents item.slot → (uses_now places_now routes_now : List ℕ)
        → ((wire : ℕ) → link uses_now wire + for_wire wire lost ≡ link uses wire + for_wire wire item.value)
        → places_now ≡ cond stays places (noted item.slot places) → routes_now ≡ routes
        → IsWhole after places_now routes_now uses_now
    after_whole stays stays_is lost lost_is uses_now places_now routes_now counts places_are routes_are =
        whole_of.whole_moved made keys values same_keys same_values (cond stays places (noted item.slot places)) routes
        uses_now places_now routes_now uses_now places_are routes_are refl
        (whole_of.passed_whole p places routes uses whole slots pass item here within_sents
        (pass_of.made_kept p whole.table state view slots pass (ap is_some here)) stays stays_is uses_now
        (tally.exchanged_by p.values.written p.slots.sents uses whole.uses_counted item.slot within_sents item.value
        uses_now (λ wire. subst (λ n. link uses_now wire + for_wire wire n ≡ link uses wire + for_wire wire item.value)
        lost_is (counts wire))))
