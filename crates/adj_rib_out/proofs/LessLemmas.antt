-- The pools of a stock lose a written value, and wire attributes.
use Rattle.std.proofs.Common.{◌≡◌, ◌≢◌, ◌==◌, ℕ, ◌+◌, Bool, true, false, List, cond, Option, Some, None, length}
use Rattle.std.proofs.Common.{refl, sym, ap, ap₂, subst, ◌∙◌, inl, inr}
use Rattle.std.specs.Prelude.{IfSome, IsSome, MatchOption, is_some, slice_index_or, slice_set}
use Rattle.std.specs.Option.{option_map}
use Rattle.std.proofs.lemmas.Bool.{cases_eq, eq-eqb, false≢true}
use Rattle.std.proofs.lemmas.List.{length-set, map-set}
use Rattle.linked_pending.specs.Links.{link}
use Rattle.linked_pending.specs.Listing.{has, without}
use Rattle.pooled_attrs.specs.declared.wire.Wire.{Wire}
use Rattle.pooled_attrs.specs.declared.written.Written.{Written}
use Rattle.route_values.specs.declared.attrs.Attrs.{Attrs}
use Rattle.route_values.specs.declared.attrs.WireAttrs.{WireAttrs}
use Rattle.route_values.specs.declared.settings.Side.{Side}
use Rattle.value_pool.specs.Pool.{Pool, TakesOut, item_at}
use Rattle.adj_rib_out.specs.Kept.{wire_under, written_under}
use Rattle.adj_rib_out.specs.Stock.{IsStock, Stock, fewer, noted_last, stock_of, wires_in, without_value, without_wire}
use Rattle.adj_rib_out.specs.Stock.{written_in}
use Rattle.adj_rib_out.proofs.ColumnLemmas.{still_has}
use Rattle.adj_rib_out.proofs.KeptLemmas.{elsewhere, kept_fewer, kept_fewer_wires, was}
use Rattle.adj_rib_out.proofs.PooledLemmas.{attrs_of_item, value_of_item, wire_at, written_at}

mapped_gone : {A B : Type 0} (f : A → B) (t : Bool) (o : Option A)
    → option_map f (cond t None o) ≡ cond t None (option_map f o)
mapped_gone f true o = refl
mapped_gone f false o = refl

module _ (side : Side) (written : Pool Written) (wires : Pool Wire) (routes uses : List ℕ)
    (stock : IsStock (stock_of side written wires routes uses)) where
  abbrev before : Stock
  before = stock_of side written wires routes uses

  -- ---- a written value is taken out

  module _ (value : ℕ) (pool : Pool Written) (left : TakesOut written pool value) where
    left_others : (n : ℕ) → slice_index_or (written_in pool.items) n None
        ≡ cond (n == value) None (slice_index_or (written_in written.items) n None)
    left_others n = written_at pool.items n ∙ ap (option_map value_of_item) (left.others n)
        ∙ mapped_gone value_of_item (n == value) (item_at written.items n)
        ∙ ap (cond (n == value) None) (sym (written_at written.items n))

    left_list : written_in pool.items ≡ slice_set (written_in written.items) value None
    left_list = ap (λ (xs : List (Option (Written × ℕ))). written_in xs) left.items
        ∙ map-set (option_map value_of_item) written.items value None

    abbrev less : Stock
    less = stock_of side pool wires routes uses

    less_noted : (v : ℕ) → IsSome (written_under less.seen v) → link routes v ≡ 0 → has v pool.idle ≡ true
    less_noted v some none = ap (has v) left.idle ∙ elim (cases_eq v value) [
      | inl same ↦ absurd (false≢true (sym (ap is_some (left_others v
          ∙ ap (λ (t : Bool). cond t None (slice_index_or (written_in written.items) v None)) (eq-eqb v value same)))
          ∙ some))
      | inr differs ↦ still_has v value written.idle differs (stock.noted v
          (ap is_some (sym (elsewhere (written_under before.seen) (written_under less.seen) value None left_others v
          differs)) ∙ some) none)
    ]

    pub less_stocked : IsStock less
    less_stocked = record {
      kept = kept_fewer before.seen stock.kept (written_in pool.items)
          (was (written_under before.seen) (written_under less.seen) value left_others);
      routes_length = stock.routes_length ∙ sym (ap (λ (xs : List (Option (Attrs × ℕ))). length xs) left_list
          ∙ length-set (written_in written.items) value None);
      uses_length = stock.uses_length;
      noted = less_noted;
    }

    pub less_is : less ≡ record before {
      seen = record before.seen { written = slice_set before.seen.written value None };
      idle_values = without value before.idle_values;
    }
    less_is = ap₂ (λ (xs : List (Option (Attrs × ℕ))) (idle : List ℕ). record before {
      seen = record before.seen { written = xs };
      idle_values = idle;
    }) left_list left.idle

    module _ (wire : ℕ) (text : Attrs) (here : written_under before.seen value ≡ Some (text, wire)) (new : Stock) where
      pub dropped_as : new ≡ record less { uses = fewer uses wire; idle_wires = noted_last uses wire wires.idle }
          → MatchOption (written_under before.seen value) (new ≡ before)
          (λ held. new ≡ without_value before value held)
      dropped_as is = subst (λ (o : Option (Attrs × ℕ)). MatchOption o (new ≡ before)
          (λ held. new ≡ without_value before value held)) (sym here)
          (is ∙ ap (λ (s : Stock). record s { uses = fewer uses wire; idle_wires = noted_last uses wire wires.idle })
          less_is)

      pub counts_as : ((w : ℕ) → link new.uses w + cond (wire == w) 1 0 ≡ link uses w)
          → IfSome (written_under before.seen value) (λ held. (w : ℕ)
          → link new.uses w + cond (held.1 == w) 1 0 ≡ link uses w)
      counts_as counts = subst (λ (o : Option (Attrs × ℕ)). IfSome o (λ held. (w : ℕ)
          → link new.uses w + cond (held.1 == w) 1 0 ≡ link uses w)) (sym here) counts

  -- ---- wire attributes are taken out

  module _ (wire : ℕ) (pool : Pool Wire) (left : TakesOut wires pool wire)
      (unused : (n : ℕ) (text : Attrs) → written_under before.seen n ≢ Some (text, wire)) where
    wires_others : (v : ℕ) → slice_index_or (wires_in pool.items) v None
        ≡ cond (v == wire) None (slice_index_or (wires_in wires.items) v None)
    wires_others v = wire_at pool.items v ∙ ap (option_map attrs_of_item) (left.others v)
        ∙ mapped_gone attrs_of_item (v == wire) (item_at wires.items v)
        ∙ ap (cond (v == wire) None) (sym (wire_at wires.items v))

    wires_list : wires_in pool.items ≡ slice_set (wires_in wires.items) wire None
    wires_list = ap (λ (xs : List (Option (Wire × ℕ))). wires_in xs) left.items
        ∙ map-set (option_map attrs_of_item) wires.items wire None

    pub wires_less_stocked : IsStock (stock_of side written pool routes uses)
    wires_less_stocked = record {
      kept = kept_fewer_wires before.seen stock.kept (wires_in pool.items)
          (was (wire_under before.seen) (λ (v : ℕ). slice_index_or (wires_in pool.items) v None) wire wires_others)
          (λ n w text is. elsewhere (wire_under before.seen) (λ (v : ℕ). slice_index_or (wires_in pool.items) v None)
          wire None wires_others w (λ same. unused n text (is ∙ ap (λ (v : ℕ). Some (text, v)) same)));
      routes_length = stock.routes_length;
      uses_length = stock.uses_length ∙ sym (ap (λ (xs : List (Option WireAttrs)). length xs) wires_list
          ∙ length-set (wires_in wires.items) wire None);
      noted = stock.noted;
    }

    pub wires_less_is : stock_of side written pool routes uses ≡ without_wire before wire
    wires_less_is = ap₂ (λ (xs : List (Option WireAttrs)) (idle : List ℕ). record before {
      seen = record before.seen { wires = xs };
      idle_wires = idle;
    }) wires_list left.idle
