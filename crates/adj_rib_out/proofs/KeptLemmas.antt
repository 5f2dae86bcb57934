-- Written values and wire attributes still belong together where one of them comes or goes.
use Rattle.std.proofs.Common.{◌≡◌, ◌≢◌, ◌==◌, ◌⊎◌, ℕ, Bool, List, Option, Some, None, cond}
use Rattle.std.proofs.Common.{refl, sym, ap, subst, ◌∙◌, inl, inr}
use Rattle.std.specs.Prelude.{slice_index_or}
use Rattle.std.specs.Option.{option_map}
use Rattle.std.proofs.lemmas.Bool.{cases_eq, eq-eqb, ne_eqb}
use Rattle.route_values.specs.declared.attrs.Attrs.{Attrs}
use Rattle.route_values.specs.declared.attrs.WireAttrs.{WireAttrs}
use Rattle.route_values.specs.Sent.{sent}
use Rattle.adj_rib_out.specs.Kept.{Values, AreKept, written_under, wire_under}
use Rattle.adj_rib_out.specs.Stock.{value_under}
use Rattle.adj_rib_out.proofs.RowLemmas.{none_some, some_is}

-- ---- one number changes

module _ {X : Type 0} (old new : ℕ → Option X) (number : ℕ) where
  pub at_number : (value : Option X) → ((n : ℕ) → new n ≡ cond (n == number) value (old n)) → new number ≡ value
  at_number value others = others number
      ∙ ap (λ (t : Bool). cond t value (old number)) (eq-eqb number number refl)

  pub elsewhere : (value : Option X) → ((n : ℕ) → new n ≡ cond (n == number) value (old n)) → (n : ℕ) → n ≢ number
      → new n ≡ old n
  elsewhere value others n differs = others n ∙ ap (λ (t : Bool). cond t value (old n)) (ne_eqb n number differs)

  -- what stands behind the change is what was put, or stood before
  pub which : (x : X) → ((n : ℕ) → new n ≡ cond (n == number) (Some x) (old n)) → (n : ℕ) (y : X) → new n ≡ Some y
      → ((n ≡ number) × (x ≡ y)) ⊎ (old n ≡ Some y)
  which x others n y is = elim (cases_eq n number) [
    | inl same ↦ inl (same, some_is (sym (at_number (Some x) others) ∙ ap new (sym same) ∙ is))
    | inr differs ↦ inr (sym (elsewhere (Some x) others n differs) ∙ is)
  ]

  -- what still stands stood before, under another number
  pub was : ((n : ℕ) → new n ≡ cond (n == number) None (old n)) → (n : ℕ) (y : X) → new n ≡ Some y → old n ≡ Some y
  was others n y is = elim (cases_eq n number) [
    | inl same ↦ absurd (none_some (sym (at_number None others) ∙ ap new (sym same) ∙ is))
    | inr differs ↦ sym (elsewhere None others n differs) ∙ is
  ]

  -- what stood stays where the number was free
  pub stays : (x : X) → ((n : ℕ) → new n ≡ cond (n == number) (Some x) (old n)) → old number ≡ None → (n : ℕ) (y : X)
      → old n ≡ Some y → new n ≡ Some y
  stays x others free n y is = elsewhere (Some x) others n (λ same. none_some (sym free ∙ ap old (sym same) ∙ is)) ∙ is

module _ (values : Values) (kept : AreKept values) where
  -- ---- a written value more

  module _ (later : List (Option (Attrs × ℕ))) (written : Attrs) (wire number : ℕ)
      (absent : (n : ℕ) → value_under values n ≢ Some written)
      (stands : wire_under values wire ≡ Some (sent written values.side))
      (others : (n : ℕ) → slice_index_or later n None
      ≡ cond (n == number) (Some (written, wire)) (written_under values n)) where
    from : (n : ℕ) (value : Attrs × ℕ) → slice_index_or later n None ≡ Some value
        → ((n ≡ number) × ((written, wire) ≡ value)) ⊎ (written_under values n ≡ Some value)
    from = which (written_under values) (λ (n : ℕ). slice_index_or later n None) number (written, wire) others

    other : (n w v : ℕ) (attrs : Attrs) → written_under values n ≡ Some (attrs, w)
        → ◌≡◌ {A = Attrs × ℕ} (written, wire) (attrs, v) → ⊥
    other n w v attrs is same = absent n (ap (option_map (λ (value : Attrs × ℕ). value.0)) is
        ∙ ap (λ (value : Attrs × ℕ). Some value.0) (sym same))

    pub kept_with : AreKept (record values { written = later })
    kept_with = record {
      wired = λ n w attrs is. elim (from n (attrs, w) is) [
        | inl same ↦ subst (λ (value : Attrs × ℕ). wire_under values value.1 ≡ Some (sent value.0 values.side))
            same.1 stands
        | inr before ↦ kept.wired n w attrs before
      ];
      written_once = λ m n v w attrs at_m at_n. elim (from m (attrs, v) at_m) [
        | inl first ↦ elim (from n (attrs, w) at_n) [
          | inl second ↦ first.0 ∙ sym second.0
          | inr before ↦ absurd (other n w v attrs before first.1)
        ]
        | inr first ↦ elim (from n (attrs, w) at_n) [
          | inl second ↦ absurd (other m v w attrs first second.1)
          | inr before ↦ kept.written_once m n v w attrs first before
        ]
      ];
      wires_once = kept.wires_once;
    }

  -- ---- wire attributes more

  module _ (later : List (Option WireAttrs)) (attrs : WireAttrs) (wire : ℕ)
      (absent : (v : ℕ) → wire_under values v ≢ Some attrs) (free : wire_under values wire ≡ None)
      (others : (v : ℕ) → slice_index_or later v None ≡ cond (v == wire) (Some attrs) (wire_under values v)) where
    wire_from : (v : ℕ) (a : WireAttrs) → slice_index_or later v None ≡ Some a
        → ((v ≡ wire) × (attrs ≡ a)) ⊎ (wire_under values v ≡ Some a)
    wire_from = which (wire_under values) (λ (v : ℕ). slice_index_or later v None) wire attrs others

    pub wire_stays : (v : ℕ) (a : WireAttrs) → wire_under values v ≡ Some a → slice_index_or later v None ≡ Some a
    wire_stays = stays (wire_under values) (λ (v : ℕ). slice_index_or later v None) wire attrs others free

    pub kept_with_wire : AreKept (record values { wires = later })
    kept_with_wire = record {
      wired = λ n w written is. wire_stays w (sent written values.side) (kept.wired n w written is);
      written_once = kept.written_once;
      wires_once = λ v w a at_v at_w. elim (wire_from v a at_v) [
        | inl first ↦ elim (wire_from w a at_w) [
          | inl second ↦ first.0 ∙ sym second.0
          | inr before ↦ absurd (absent w (before ∙ ap (λ (b : WireAttrs). Some b) (sym first.1)))
        ]
        | inr first ↦ elim (wire_from w a at_w) [
          | inl second ↦ absurd (absent v (first ∙ ap (λ (b : WireAttrs). Some b) (sym second.1)))
          | inr before ↦ kept.wires_once v w a first before
        ]
      ];
    }

  -- ---- fewer written values

  pub kept_fewer : (later : List (Option (Attrs × ℕ)))
      → ((n : ℕ) (value : Attrs × ℕ) → slice_index_or later n None ≡ Some value → written_under values n ≡ Some value)
      → AreKept (record values { written = later })
  kept_fewer later before = record {
    wired = λ n w written is. kept.wired n w written (before n (written, w) is);
    written_once = λ m n v w written at_m at_n. kept.written_once m n v w written (before m (written, v) at_m)
        (before n (written, w) at_n);
    wires_once = kept.wires_once;
  }

  -- ---- fewer wire attributes, but all that values have

  pub kept_fewer_wires : (later : List (Option WireAttrs))
      → ((w : ℕ) (attrs : WireAttrs) → slice_index_or later w None ≡ Some attrs → wire_under values w ≡ Some attrs)
      → ((n w : ℕ) (written : Attrs) → written_under values n ≡ Some (written, w)
      → slice_index_or later w None ≡ wire_under values w)
      → AreKept (record values { wires = later })
  kept_fewer_wires later before same = record {
    wired = λ n w written is. same n w written is ∙ kept.wired n w written is;
    written_once = kept.written_once;
    wires_once = λ v w attrs at_v at_w. kept.wires_once v w attrs (before v attrs at_v) (before w attrs at_w);
  }
