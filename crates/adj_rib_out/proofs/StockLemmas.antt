-- What holds of a stock where counts and notes change.
use Rattle.std.proofs.Common.{◌≡◌, ◌≢◌, ◌==◌, ℕ, ◌+◌, ◌-◌, ◌<◌, Bool, true, false, List, None}
use Rattle.std.proofs.Common.{cond, length, refl, sym, ap, subst, ◌∙◌, inl, inr, arith}
use Rattle.std.specs.Prelude.{IsSome, slice_index_or}
use Rattle.std.proofs.lemmas.Bool.{cases_eq, eq-eqb, ne_eqb, false≢true}
use Rattle.std.proofs.lemmas.List.{length-set}
use Rattle.linked_pending.specs.Links.{link}
use Rattle.linked_pending.specs.Listing.{has, without}
use Rattle.pooled_attrs.specs.declared.wire.Wire.{Wire}
use Rattle.pooled_attrs.specs.declared.written.Written.{Written}
use Rattle.route_values.specs.declared.settings.Side.{Side}
use Rattle.value_pool.specs.Pool.{Pool, noted}
use Rattle.adj_rib_out.specs.Kept.{written_under, wire_under}
use Rattle.adj_rib_out.specs.Stock.{Stock, IsStock, stock_of, written_in, more, fewer, noted_last}
use Rattle.adj_rib_out.proofs.ColumnLemmas.{link_more, link_fewer, still_has, has_noted, noted_has}
use Rattle.adj_rib_out.proofs.NumberLemmas.{under_within, some_of}

-- a count that is one more isn't 0
one_more : (count : ℕ) → count + 1 ≡ 0 → ⊥
one_more count is = omega arith

one_at_least : (count : ℕ) → 0 < count → count ≡ 0 → ⊥
one_at_least count some none = omega arith

none_before : (count extra : ℕ) → count + extra ≡ 0 → count ≡ 0
none_before count extra is = omega arith

module _ (s : Stock) (stock : IsStock s) where
  pub within_routes : (value : ℕ) → IsSome (written_under s.seen value) → value < length s.routes
  within_routes value stands =
      let held = some_of (written_under s.seen value) stands in
      subst (λ (n : ℕ). value < n) (sym stock.routes_length) (under_within s.seen.written value held.0 held.1)

  pub within_uses : (wire : ℕ) → IsSome (wire_under s.seen wire) → wire < length s.uses
  within_uses wire stands =
      let held = some_of (wire_under s.seen wire) stands in
      subst (λ (n : ℕ). wire < n) (sym stock.uses_length) (under_within s.seen.wires wire held.0 held.1)

  -- ---- a count of a written value

  module _ (value : ℕ) (stands : IsSome (written_under s.seen value)) where
    abbrev pub holding : Stock
    holding = record s { routes = more s.routes value; idle_values = without value s.idle_values }

    held_noted : (v : ℕ) → IsSome (written_under s.seen v) → link (more s.routes value) v ≡ 0
        → has v (without value s.idle_values) ≡ true
    held_noted v some none =
        let count = sym (link_more s.routes value (within_routes value stands) v) ∙ none in
        elim (cases_eq value v) [
          | inl same ↦ absurd (one_more (link s.routes v)
              (sym (ap (λ (t : Bool). link s.routes v + cond t 1 0) (eq-eqb value v same)) ∙ count))
          | inr differs ↦ still_has v value s.idle_values (λ same. differs (sym same))
              (stock.noted v some (none_before (link s.routes v) (cond (value == v) 1 0) count))
        ]

    pub is_held : IsStock holding
    is_held = record {
      kept = stock.kept;
      routes_length = length-set s.routes value (link s.routes value + 1) ∙ stock.routes_length;
      uses_length = stock.uses_length;
      noted = held_noted;
    }

    module _ (some : 0 < link s.routes value) where
      abbrev pub releasing : Stock
      releasing = record s { routes = fewer s.routes value; idle_values = noted_last s.routes value s.idle_values }

      none_left : (v : ℕ) → value ≢ v → link (fewer s.routes value) v ≡ 0 → link s.routes v ≡ 0
      none_left v differs none = sym (link_fewer s.routes value (within_routes value stands) some v)
          ∙ ap (λ (t : Bool). link (fewer s.routes value) v + cond t 1 0) (ne_eqb value v differs)
          ∙ ap (λ n. n + 0) none

      one_left : (v : ℕ) → value ≡ v → link (fewer s.routes value) v ≡ 0 → link s.routes value ≡ 1
      one_left v same none =
          ap (link s.routes) same ∙ sym (link_fewer s.routes value (within_routes value stands) some v)
          ∙ ap (λ (t : Bool). link (fewer s.routes value) v + cond t 1 0) (eq-eqb value v same)
          ∙ ap (λ n. n + 1) none

      released_noted : (t : Bool) → (link s.routes value == 1) ≡ t → (v : ℕ) → IsSome (written_under s.seen v)
          → link (fewer s.routes value) v ≡ 0 → has v (cond t (noted value s.idle_values) s.idle_values) ≡ true
      released_noted true last v stands_v none = elim (cases_eq value v) [
        | inl same ↦ subst (λ (w : ℕ). has w (noted value s.idle_values) ≡ true) same (noted_has value s.idle_values)
        | inr differs ↦ has_noted v value s.idle_values (stock.noted v stands_v (none_left v differs none))
      ]
      released_noted false more_left v stands_v none = elim (cases_eq value v) [
        | inl same ↦ absurd (false≢true (sym more_left ∙ eq-eqb (link s.routes value) 1 (one_left v same none)))
        | inr differs ↦ stock.noted v stands_v (none_left v differs none)
      ]

      pub is_released : IsStock releasing
      is_released = record {
        kept = stock.kept;
        routes_length = length-set s.routes value (link s.routes value - 1) ∙ stock.routes_length;
        uses_length = stock.uses_length;
        noted = released_noted (link s.routes value == 1) refl;
      }

  -- a value that places were given needs no note
  pub is_forgotten : (value : ℕ) → 0 < link s.routes value
      → IsStock (record s { idle_values = without value s.idle_values })
  is_forgotten value some = record {
    kept = stock.kept;
    routes_length = stock.routes_length;
    uses_length = stock.uses_length;
    noted = λ v stands none. still_has v value s.idle_values
        (λ same. one_at_least (link s.routes value) some (ap (link s.routes) (sym same) ∙ none))
        (stock.noted v stands none);
  }

-- ---- the same of the pools

module _ (side : Side) (written : Pool Written) (wires : Pool Wire) (routes uses : List ℕ)
    (stock : IsStock (stock_of side written wires routes uses)) (value : ℕ) where
  abbrev noting : List ℕ → List ℕ → Type 0
  noting counts idle = IsStock (stock_of side (record written { idle = idle }) wires counts uses)

  noted_as : (pool : Pool Written) (counts idle : List ℕ) → pool ≡ record written { idle = idle }
      → noting counts idle → IsStock (stock_of side pool wires counts uses)
  noted_as pool counts idle pool_is = subst (λ (p : Pool Written). IsStock (stock_of side p wires counts uses))
      (sym pool_is)

  pub held_as : (pool : Pool Written) (counts : List ℕ) → IsSome (slice_index_or (written_in written.items) value None)
      → pool ≡ record written { idle = without value written.idle } → counts ≡ more routes value
      → IsStock (stock_of side pool wires counts uses)
  held_as pool counts stands pool_is counts_is = noted_as pool counts (without value written.idle) pool_is
      (subst (λ (ns : List ℕ). noting ns (without value written.idle)) (sym counts_is)
      (is_held (stock_of side written wires routes uses) stock value stands))

  pub released_as : (pool : Pool Written) (counts : List ℕ)
      → IsSome (slice_index_or (written_in written.items) value None) → 0 < link routes value
      → pool ≡ record written { idle = noted_last routes value written.idle } → counts ≡ fewer routes value
      → IsStock (stock_of side pool wires counts uses)
  released_as pool counts stands some pool_is counts_is =
      noted_as pool counts (noted_last routes value written.idle) pool_is
      (subst (λ (ns : List ℕ). noting ns (noted_last routes value written.idle)) (sym counts_is)
      (is_released (stock_of side written wires routes uses) stock value stands some))

  pub last_as : (pool : Pool Written) → (link routes value == 1) ≡ true
      → pool ≡ record written { idle = noted value written.idle }
      → pool ≡ record written { idle = noted_last routes value written.idle }
  last_as pool last is = is ∙ ap (λ (t : Bool). record written {
    idle = cond t (noted value written.idle)
        written.idle;
  })
      (sym last)

  pub forgotten_as : (pool : Pool Written) → 0 < link routes value
      → pool ≡ record written { idle = without value written.idle } → IsStock (stock_of side pool wires routes uses)
  forgotten_as pool some pool_is = noted_as pool routes (without value written.idle) pool_is
      (is_forgotten (stock_of side written wires routes uses) stock value some)
