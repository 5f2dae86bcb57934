-- A stock from which a written value goes that no place was given, and the noted number that goes first.
use Rattle.std.proofs.Common.{◌≡◌, ◌==◌, ℕ, ◌+◌, ◌<◌, Bool, List, [], ◌∷◌, cond}
use Rattle.std.proofs.Common.{Option, Some, None, length, refl, sym, ap, subst, ◌∙◌, inl, inr, arith}
use Rattle.std.specs.Prelude.{IfSome, MatchOption, slice_get}
use Rattle.std.proofs.lemmas.Bool.{cases_eq, eq-eqb, ne_eqb}
use Rattle.linked_pending.specs.Links.{link}
use Rattle.linked_pending.specs.Listing.{without}
use Rattle.route_values.specs.declared.attrs.Attrs.{Attrs}
use Rattle.value_pool.proofs.ListLemmas.{at_set_none}
use Rattle.adj_rib_out.specs.Counts.{with_wire}
use Rattle.adj_rib_out.specs.Kept.{written_under}
use Rattle.adj_rib_out.specs.Stock.{Stock, without_value}
use Rattle.adj_rib_out.specs.Trimmed.{AreUsed, LosesValues}
use Rattle.adj_rib_out.proofs.ColumnLemmas.{without_shorter}
use Rattle.adj_rib_out.proofs.RowLemmas.{none_some, some_is}
use Rattle.adj_rib_out.proofs.UseLemmas.{sum_without, counted_in}

-- the noted number that stands first goes
pub first_goes : (idle : List ℕ) (number : ℕ) → Some number ≡ slice_get idle 0
    → length (without number idle) < length idle
first_goes [] number first = absurd (none_some (sym first))
first_goes (here ∷ rest) number first =
    let shorter = without_shorter number rest in
    let gone : without number (here ∷ rest) ≡ without number rest =
    ap (λ (t : Bool). cond t (without number rest) (here ∷ without number rest)) (eq-eqb number here (some_is first)) in
    subst (λ (xs : List ℕ). length xs < length (here ∷ rest)) (sym gone) (omega arith)

module _ (s : Stock) (used : AreUsed s) (value : ℕ) where
  -- its wire attributes are in use
  uses_some : (held : Attrs × ℕ) → written_under s.seen value ≡ Some held → 0 < link s.uses held.1
  uses_some held here =
      let counted = counted_in (with_wire held.1) refl s.seen.written value held here in
      let one : with_wire held.1 (Some held) ≡ 1 = ap (λ (t : Bool). cond t 1 0) (eq-eqb held.1 held.1 refl) in
      let all = used held.1 in
      omega arith

  loses_dropped : (held : Attrs × ℕ) → written_under s.seen value ≡ Some held → (new : Stock)
      → new ≡ without_value s value held
      → ((wire : ℕ) → link new.uses wire + cond (held.1 == wire) 1 0 ≡ link s.uses wire)
      → link s.routes value ≡ 0 → LosesValues s new
  loses_dropped held here new is counts none = subst (LosesValues s) (sym is) (record {
    values = λ v. elim (cases_eq v value) [
      | inl same ↦ inr (
        at_set_none s.seen.written value v
            ∙ ap (λ (t : Bool). cond t None (written_under s.seen v)) (eq-eqb v value same),
        ap (link s.routes) same ∙ none,
      )
      | inr differs ↦ inl (at_set_none s.seen.written value v
          ∙ ap (λ (t : Bool). cond t None (written_under s.seen v)) (ne_eqb v value differs))
    ];
    uses = λ wire.
        let fewer_uses = subst (λ (n : Stock). link n.uses wire + cond (held.1 == wire) 1 0 ≡ link s.uses wire) is
        (counts wire) in
        let fewer_values = sum_without (with_wire wire) refl s.seen.written value held here in
        omega arith;
    rest = refl;
  })

  pub loses_if : (held : Attrs × ℕ) → written_under s.seen value ≡ Some held → (new : Stock)
      → MatchOption (written_under s.seen value) (new ≡ s) (λ v. new ≡ without_value s value v)
      → IfSome (written_under s.seen value) (λ v. (wire : ℕ)
      → link new.uses wire + cond (v.1 == wire) 1 0 ≡ link s.uses wire)
      → link s.routes value ≡ 0 → LosesValues s new
  loses_if held here new is counts = loses_dropped held here new
      (subst (λ (o : Option (Attrs × ℕ)). MatchOption o (new ≡ s) (λ v. new ≡ without_value s value v)) here is)
      (subst (λ (o : Option (Attrs × ℕ)). IfSome o (λ v. (wire : ℕ)
      → link new.uses wire + cond (v.1 == wire) 1 0 ≡ link s.uses wire)) here counts)
