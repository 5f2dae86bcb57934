-- What a table uses of its values stays where written values or wire attributes come, and where those go that nothing
-- uses.
use Rattle.std.proofs.Common.{◌≡◌, ◌==◌, ◌⊎◌, ℕ, ◌-◌, ◌/◌, ◌<◌, ◌≤◌, Bool, true}
use Rattle.std.proofs.Common.{List, [], ◌∷◌, cond, zero, suc, Option, Some, None, length, refl, sym, ap, subst, ◌∙◌}
use Rattle.std.proofs.Common.{inl, inr, arith}
use Rattle.std.specs.Prelude.{IsSome, ◌&&◌, ◌||◌, slice_index_or}
use Rattle.std.specs.List.{sum_by}
use Rattle.std.proofs.lemmas.Bool.{cases_eq, eq-eqb, ne_eqb, false≢true, lt-ltb}
use Rattle.std.proofs.lemmas.List.Sums.{get_or-le-sum_by}
use Rattle.linked_pending.specs.Links.{link}
use Rattle.linked_pending.specs.Listing.{has}
use Rattle.route_values.specs.declared.attrs.Attrs.{Attrs}
use Rattle.route_values.specs.declared.attrs.WireAttrs.{WireAttrs}
use Rattle.route_values.specs.declared.key.Key.{Key}
use Rattle.slot_batches.specs.Left.{values_of as values_left}
use Rattle.slot_batches.specs.declared.slots.Item.{Item as SlotItem}
use Rattle.adj_rib_out.specs.declared.chosen.Chosen.{Chosen}
use Rattle.adj_rib_out.specs.Counts.{of_value, with_wire, for_wire, RoutesCounted, UsesCounted}
use Rattle.adj_rib_out.specs.Places.{key_at}
use Rattle.adj_rib_out.specs.Kept.{Parts, Values, AreKept, AreLeft, IsTable, chosen_at, wire_under, written_under}
use Rattle.adj_rib_out.proofs.RowLemmas.{none_some}
use Rattle.adj_rib_out.proofs.NumberLemmas.{under_within, some_of}
use Rattle.adj_rib_out.proofs.KeptLemmas.{kept_fewer, kept_fewer_wires}
use Rattle.adj_rib_out.proofs.RevaluedLemmas.{StaysUsed}

-- ---- the numbers that a table uses stand for wire attributes

left_stands : (keys : List (Option Key)) (values : Values) (items : List SlotItem) → AreLeft keys values items
    → (number : ℕ) → has number (values_left items) ≡ true → 1 < number → IsSome (wire_under values (number / 2 - 1))
left_stands keys values [] left number there above = absurd (false≢true there)
left_stands keys values (item ∷ items) left number there above = elim (cases_eq number item.value) [
  | inl same ↦ subst (λ (n : ℕ). 1 < n → IsSome (wire_under values (n / 2 - 1))) (sym same) left.0.number.stands above
  | inr differs ↦ left_stands keys values items left.1 number
      (sym (ap (λ (t : Bool). t || has number (values_left items)) (ne_eqb number item.value differs)) ∙ there) above
]

link_within : (links : List ℕ) (place : ℕ) → 1 < link links place → place < length links
link_within [] place above = absurd (omega arith)
link_within (first ∷ rest) zero above = omega arith
link_within (first ∷ rest) (suc place) above = let inside = link_within rest place above in omega arith

module _ (p : Parts) (table : IsTable p) where
  sent_stands : (place : ℕ) → 1 < link p.slots.sents place
      → IsSome (wire_under p.values (link p.slots.sents place / 2 - 1))
  sent_stands place above = elim (key_at p.keys place) as (λ (o : Option Key). key_at p.keys place ≡ o
      → IsSome (wire_under p.values (link p.slots.sents place / 2 - 1))) [
        | None ↦ λ free. let vacant = table.vacant place free in
            let now = vacant.now in
            let same = vacant.sent in
            absurd (omega arith)
        | Some key ↦ λ here. (table.taken place key here).sent.stands above
      ] refl

  -- ---- what stood still does

  module _ (values : Values) (kept : AreKept values) (side : values.side ≡ p.values.side) where
    pub more_stays : ((n : ℕ) (value : Attrs × ℕ) → written_under p.values n ≡ Some value
        → written_under values n ≡ Some value)
        → ((w : ℕ) (attrs : WireAttrs) → wire_under p.values w ≡ Some attrs → wire_under values w ≡ Some attrs)
        → StaysUsed p values
    more_stays written wires =
        let same : (w : ℕ) → IsSome (wire_under p.values w) → wire_under values w ≡ wire_under p.values w = λ w stands.
        let attrs = some_of (wire_under p.values w) stands in
        wires w attrs.0 attrs.1 ∙ sym attrs.1 in
        record {
          side = side;
          kept = kept;
          chosen = λ place chosen is.
              let value = some_of (written_under p.values chosen.value) (table.chosen place chosen is) in
              written chosen.value value.0 value.1 ∙ sym value.1;
          sent = λ place above. same (link p.slots.sents place / 2 - 1) (sent_stands place above);
          left = λ number there above. same (number / 2 - 1)
              (left_stands p.keys p.values p.slots.left table.left number there above);
        }

  -- ---- a written value that no place was given goes

  pub given_counts : (value place : ℕ) (chosen : Chosen) → chosen_at p.routes place ≡ Some chosen → chosen.value ≡ value
      → 1 ≤ sum_by (of_value value) p.routes
  given_counts value place chosen is same =
      let one : of_value value (chosen_at p.routes place) ≡ 1 = ap (of_value value) is
      ∙ ap (λ (t : Bool). cond t 1 0) (eq-eqb chosen.value value same) in
      subst (λ (n : ℕ). n ≤ sum_by (of_value value) p.routes) one
      (get_or-le-sum_by (of_value value) p.routes place None (under_within p.routes place chosen is))

  pub fewer_stays : (counts : List ℕ) (later : List (Option (Attrs × ℕ))) → RoutesCounted p.routes counts
      → ((v : ℕ) → (slice_index_or later v None ≡ written_under p.values v)
      ⊎ ((slice_index_or later v None ≡ None) × (link counts v ≡ 0)))
      → StaysUsed p (record p.values { written = later })
  fewer_stays counts later counted values = record {
    side = refl;
    kept = kept_fewer p.values table.kept later (λ n value is. elim (values n) [
      | inl same ↦ sym same ∙ is
      | inr gone ↦ absurd (none_some (sym gone.0 ∙ is))
    ]);
    chosen = λ place chosen is. elim (values chosen.value) [
      | inl same ↦ same
      | inr gone ↦
          let given = given_counts chosen.value place chosen is refl in
          let whole = counted chosen.value in
          let none = gone.1 in
          absurd (omega arith)
    ];
    sent = λ place above. refl;
    left = λ number there above. refl;
  }

  -- ---- wire attributes go that no value has and of which no slot was sent, where nothing is left of a batch

  sent_counts : (wire place : ℕ) → 1 < link p.slots.sents place → link p.slots.sents place / 2 - 1 ≡ wire
      → 1 ≤ sum_by (for_wire wire) p.slots.sents
  sent_counts wire place above same =
      let number = link p.slots.sents place in
      let one : for_wire wire number ≡ 1 = ap (λ (t : Bool). cond (t && (number / 2 - 1 == wire)) 1 0)
      (lt-ltb 1 number above) ∙ ap (λ (t : Bool). cond t 1 0) (eq-eqb (number / 2 - 1) wire same) in
      subst (λ (n : ℕ). n ≤ sum_by (for_wire wire) p.slots.sents) one
      (get_or-le-sum_by (for_wire wire) p.slots.sents place 0 (link_within p.slots.sents place above))

  value_counts : (wire n : ℕ) (written : Attrs) → written_under p.values n ≡ Some (written, wire)
      → 1 ≤ sum_by (with_wire wire) p.values.written
  value_counts wire n written is =
      let one : with_wire wire (written_under p.values n) ≡ 1 = ap (with_wire wire) is
      ∙ ap (λ (t : Bool). cond t 1 0) (eq-eqb wire wire refl) in
      subst (λ (n : ℕ). n ≤ sum_by (with_wire wire) p.values.written) one
      (get_or-le-sum_by (with_wire wire) p.values.written n None (under_within p.values.written n (written, wire) is))

  pub fewer_wires_stay : (counts : List ℕ) (later : List (Option WireAttrs))
      → UsesCounted p.values.written p.slots.sents counts → p.slots.left ≡ []
      → ((w : ℕ) → (slice_index_or later w None ≡ wire_under p.values w)
      ⊎ ((slice_index_or later w None ≡ None) × (link counts w ≡ 0)))
      → StaysUsed p (record p.values { wires = later })
  fewer_wires_stay counts later counted closed wires = record {
    side = refl;
    kept = kept_fewer_wires p.values table.kept later
        (λ w attrs is. elim (wires w) [
          | inl same ↦ sym same ∙ is
          | inr gone ↦ absurd (none_some (sym gone.0 ∙ is))
        ])
        (λ n w written is. elim (wires w) [
          | inl same ↦ same
          | inr gone ↦
              let one = value_counts w n written is in
              let whole = counted w in
              let none = gone.1 in
              absurd (omega arith)
        ]);
    chosen = λ place chosen is. refl;
    sent = λ place above.
        let wire = link p.slots.sents place / 2 - 1 in
        elim (wires wire) [
          | inl same ↦ same
          | inr gone ↦
              let one = sent_counts wire place above refl in
              let whole = counted wire in
              let none = gone.1 in
              absurd (omega arith)
        ];
    left = λ number there above. absurd (false≢true (sym (ap (λ (items : List SlotItem). has number (values_left items))
        closed) ∙ there));
  }
