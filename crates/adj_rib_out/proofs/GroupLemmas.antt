-- Items of one kind stand together where numbers do.
use Rattle.std.proofs.Common.{◌≡◌, ◌==◌, ℕ, ◌%◌, Bool, true, false, List, [], ◌∷◌}
use Rattle.std.proofs.Common.{Option, Some, None, refl, sym, ap, subst, ◌∙◌, arith, inl, inr}
use Rattle.std.specs.Prelude.{is_some, ◌||◌}
use Rattle.std.proofs.lemmas.Bool.{false≢true, eq-eqb}
use Rattle.linked_pending.specs.Listing.{has, AreApart}
use Rattle.route_values.specs.declared.addr.Family.{Family}
use Rattle.route_values.specs.declared.addr.Family.TheVariants.{Ipv4, Ipv6}
use Rattle.route_values.specs.declared.attrs.WireAttrs.{WireAttrs}
use Rattle.route_values.specs.declared.key.Key.{Key}
use Rattle.route_values.specs.Key.{family_of_key}
use Rattle.slot_batches.specs.Left.{slots_of, value_left}
use Rattle.slot_batches.specs.Left.{values_of as values_left}
use Rattle.slot_batches.specs.Left.{ComesNextOrNever as NumberComes}
use Rattle.slot_batches.specs.Left.{AreTogether as NumbersTogether}
use Rattle.slot_batches.specs.declared.slots.Item.{Item as SlotItem}
use Rattle.adj_rib_out.specs.State.{Item}
use Rattle.adj_rib_out.specs.Batch.{attrs_said, AreOnce, AreTogether, ComesNextOrNever, HasNoOther, IsOfKind}
use Rattle.adj_rib_out.specs.Batch.{AreNumberedAlike}
use Rattle.adj_rib_out.specs.Places.{StandOnce}
use Rattle.adj_rib_out.specs.Kept.{Values, AreKept, IsNumber, IsLeft, AreLeft, attrs_under, parity, parity_of}
use Rattle.adj_rib_out.specs.Kept.{items_seen, item_for, says_by}
use Rattle.adj_rib_out.proofs.RowLemmas.{stands, some_is, none_some}
use Rattle.adj_rib_out.proofs.NumberLemmas.{same_number}
use Rattle.adj_rib_out.proofs.PartLemmas.{item_seen, is_left_item, left_slot, left_by}
use Rattle.adj_rib_out.proofs.PassLemmas.{said_attrs}

-- what is said of a key by a number
abbrev pub numbered : Values → Key → ℕ → Item
numbered values key number = record { key = key; says = says_by number (attrs_under values number) }

same_family : (a b : Family) → parity_of a ≡ parity_of b → a ≡ b
same_family Ipv4 Ipv4 same = refl
same_family Ipv4 Ipv6 same = absurd (omega arith)
same_family Ipv6 Ipv4 same = absurd (omega arith)
same_family Ipv6 Ipv6 same = refl

or_false : (a b : Bool) → (a || b) ≡ false → b ≡ false
or_false true b is = absurd (false≢true (sym is))
or_false false b is = is

module _ (values : Values) (kept : AreKept values) where
  module _ (j k : Key) (m n : ℕ) (is_m : IsNumber values (parity j) m) (is_n : IsNumber values (parity k) n) where
    pub kind_of : m ≡ n → IsOfKind (numbered values j m) (numbered values k n)
    kind_of same = record {
      family = same_family (family_of_key j) (family_of_key k)
          (sym is_m.parity_is ∙ ap (λ (i : ℕ). i % 2) same ∙ is_n.parity_is);
      attrs = ap (λ (i : ℕ). attrs_said (says_by i (attrs_under values i))) same;
    }

    pub number_of_kind : IsOfKind (numbered values j m) (numbered values k n) → m ≡ n
    number_of_kind kind = same_number values kept (parity j) m n is_m
        (subst (λ (f : Family). IsNumber values (parity_of f) n) (sym kind.family) is_n)
        (sym (said_attrs m (attrs_under values m)) ∙ kind.attrs ∙ said_attrs n (attrs_under values n))

  module _ (keys : List (Option Key)) (once : StandOnce keys) where
    pub seen_by : (item : SlotItem) (rest : List SlotItem) (left : IsLeft keys values item)
        → items_seen keys values (item ∷ rest) ≡ item_for values item left.key ∷ items_seen keys values rest
    seen_by item rest left = ap (λ (o : Option Key). elim o [
      | Some k ↦ item_for values item k ∷ items_seen keys values rest
      | None ↦ items_seen keys values rest
    ]) left.stands

    left_some : (key : Key) (o : Option ℕ) → is_some (left_by values key o) ≡ is_some o
    left_some key None = refl
    left_some key (Some n) = refl

    pub once_seen : (items : List SlotItem) → AreLeft keys values items → AreApart (slots_of items)
        → AreOnce (items_seen keys values items)
    once_seen [] left apart = tt
    once_seen (item ∷ rest) left apart = subst AreOnce (sym (seen_by item rest left.0)) (
      is_left_item (items_seen keys values rest) left.0.key
          ∙ ap is_some (item_seen keys once values left.0.key item.slot
          (stands keys left.0.key item.slot once left.0.stands) rest left.1)
          ∙ left_some left.0.key (value_left rest item.slot) ∙ sym (left_slot rest item.slot) ∙ apart.0,
      once_seen rest left.1 apart.1,
    )

    no_other : (key : Key) (number : ℕ) → IsNumber values (parity key) number → (items : List SlotItem)
        → AreLeft keys values items → has number (values_left items) ≡ false
        → HasNoOther (numbered values key number) (items_seen keys values items)
    no_other key number is [] left none = tt
    no_other key number is (item ∷ rest) left none = subst (HasNoOther (numbered values key number))
        (sym (seen_by item rest left.0)) (
          λ kind. false≢true (sym none ∙ ap (λ (t : Bool). t || has number (values_left rest))
              (eq-eqb number item.value (number_of_kind key left.0.key number item.value is left.0.number kind))),
          no_other key number is rest left.1 (or_false (number == item.value) (has number (values_left rest)) none),
        )

    comes : (key : Key) (number : ℕ) → IsNumber values (parity key) number → (items : List SlotItem)
        → AreLeft keys values items → NumberComes number (values_left items)
        → ComesNextOrNever (numbered values key number) (items_seen keys values items)
    comes key number is [] left next = tt
    comes key number is (item ∷ rest) left next = subst (ComesNextOrNever (numbered values key number))
        (sym (seen_by item rest left.0)) (elim next [
          | inl same ↦ inl (kind_of key left.0.key number item.value is left.0.number (sym same))
          | inr never ↦ inr (subst (HasNoOther (numbered values key number)) (seen_by item rest left.0)
              (no_other key number is (item ∷ rest) left never))
        ])

    pub together_seen : (items : List SlotItem) → AreLeft keys values items → NumbersTogether (values_left items)
        → AreTogether (items_seen keys values items)
    together_seen [] left together = tt
    together_seen (item ∷ rest) left together = subst AreTogether (sym (seen_by item rest left.0)) (
      comes left.0.key item.value left.0.number rest left.1 together.0,
      together_seen rest left.1 together.1,
    )

  number_said : (n m : ℕ) (attrs : Option WireAttrs) (said : WireAttrs) → says_by n attrs ≡ Some (m, said) → n ≡ m
  number_said n m None said is = absurd (none_some is)
  number_said n m (Some a) said is = ap (λ (x : ℕ × WireAttrs). x.0) (some_is is)

  pub alike : (j k : Key) (m n : ℕ) → IsNumber values (parity j) m → IsNumber values (parity k) n
      → AreNumberedAlike (numbered values j m) (numbered values k n)
  alike j k m n is_m is_n u v a b says_a says_b =
      let first = number_said m u (attrs_under values m) a says_a in
      let second = number_said n v (attrs_under values n) b says_b in (
        λ same. kind_of j k m n is_m is_n (first ∙ same ∙ sym second),
        λ kind. sym first ∙ number_of_kind j k m n is_m is_n kind ∙ second,
      )
