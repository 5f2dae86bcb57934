-- The pools of a stock grow by wire attributes, and by a written value.
use Rattle.std.proofs.Common.{◌≡◌, ◌≢◌, ◌==◌, ℕ, ◌+◌, ◌<◌, ◌≤◌, Bool, true, false, List, [], ◌∷◌, ◌++◌, cond}
use Rattle.std.proofs.Common.{Option, Some, None, length, refl, sym, ap, ap₂, subst, ◌∙◌, inl, inr, arith}
use Rattle.std.proofs.Common.{length-append}
use Rattle.std.specs.Prelude.{IsSome, is_some, nat_lt, slice_index_or, slice_set}
use Rattle.std.specs.Option.{option_map}
use Rattle.std.proofs.Math.ListN.{length-map}
use Rattle.std.proofs.lemmas.Bool.{cases_eq, eq-eqb, ne_eqb, ltb-true, ltb-false}
use Rattle.std.proofs.lemmas.List.{length-set, map-set, map-append}
use Rattle.linked_pending.specs.Links.{link}
use Rattle.linked_pending.specs.Listing.{has, without}
use Rattle.pooled_attrs.specs.declared.wire.Wire.{Wire}
use Rattle.pooled_attrs.specs.declared.written.Written.{Written}
use Rattle.route_values.specs.declared.attrs.Attrs.{Attrs}
use Rattle.route_values.specs.declared.attrs.WireAttrs.{WireAttrs}
use Rattle.route_values.specs.declared.settings.Side.{Side}
use Rattle.route_values.specs.Sent.{sent}
use Rattle.value_pool.specs.Pool.{Adds, Pool, item_at, noted, with_item}
use Rattle.adj_rib_out.specs.Kept.{AreKept, values_of, wire_under, written_under}
use Rattle.adj_rib_out.specs.Stock.{AddsWire, AddsWritten, IsStock, StandsWire, Stock, more, stock_of, value_under}
use Rattle.adj_rib_out.specs.Stock.{widened}
use Rattle.adj_rib_out.specs.Stock.{wires_in, written_in}
use Rattle.adj_rib_out.proofs.ColumnLemmas.{grown, has_noted, length_widened, link_more, link_widened, noted_has}
use Rattle.adj_rib_out.proofs.KeptLemmas.{at_number, elsewhere, kept_with, kept_with_wire}
use Rattle.adj_rib_out.proofs.NumberLemmas.{some_is_some}
use Rattle.adj_rib_out.proofs.PooledLemmas.{attrs_of_item, value_of_item, wire_at, written_at}
use Rattle.adj_rib_out.proofs.StockLemmas.{within_uses}

-- ---- lists with an item more

module _ {T : Type 0} (items : List (Option (T × ℕ))) (number : ℕ) (item : T × ℕ) (next : number ≤ length items) where
  pub length_with : length (with_item items number item) ≡ grown (length items) number
  length_with = elim (nat_lt number (length items)) as (λ (t : Bool). nat_lt number (length items) ≡ t
      → length (cond t (slice_set items number (Some item)) (items ++ Some item ∷ [])) ≡ grown (length items) number) [
        | true ↦ λ inside.
            let below = ltb-true number (length items) inside in
            length-set items number (Some item)
            ∙ not_grown (length items) (ne_eqb number (length items) (λ same. below_itself number (length items)
            below same))
        | false ↦ λ outside.
            let above = ltb-false number (length items) outside in
            length-append items (Some item ∷ [])
            ∙ ap (λ (t : Bool). length items + cond t 1 0) (sym (eq-eqb number (length items) (omega arith)))
      ] refl
    where
      not_grown : (count : ℕ) → (number == count) ≡ false → count ≡ grown count number
      not_grown count differs =
          let same : count ≡ count + 0 = omega arith in same ∙ ap (λ (t : Bool). count + cond t 1 0) (sym differs)

      below_itself : (a b : ℕ) → a < b → a ≡ b → ⊥
      below_itself a b below same = omega arith

  pub most_with : length (with_item items number item) ≤ length items + 1
  most_with = subst (λ (n : ℕ). n ≤ length items + 1) (sym length_with) (one_more (number == length items))
    where
      one_more : (t : Bool) → length items + cond t 1 0 ≤ length items + 1
      one_more true = omega arith
      one_more false = omega arith

module _ (items : List (Option (Written × ℕ))) (number : ℕ) (item : Written × ℕ) where
  list_by : (t : Bool) → written_in (cond t (slice_set items number (Some item)) (items ++ Some item ∷ []))
      ≡ cond t (slice_set (written_in items) number (Some (value_of_item item)))
      (written_in items ++ Some (value_of_item item) ∷ [])
  list_by true = map-set (option_map value_of_item) items number (Some item)
  list_by false = map-append (option_map value_of_item) items (Some item ∷ [])

  pub list_with : written_in (with_item items number item) ≡ with_item (written_in items) number (value_of_item item)
  list_with = list_by (nat_lt number (length items))
      ∙ ap (λ (n : ℕ). cond (nat_lt number n) (slice_set (written_in items) number (Some (value_of_item item)))
      (written_in items ++ Some (value_of_item item) ∷ [])) (sym (length-map items (option_map value_of_item)))

mapped_by : {A B : Type 0} (f : A → B) (t : Bool) (x : A) (o : Option A)
    → option_map f (cond t (Some x) o) ≡ cond t (Some (f x)) (option_map f o)
mapped_by f true x o = refl
mapped_by f false x o = refl

module _ (side : Side) (written : Pool Written) (wires : Pool Wire) (routes uses : List ℕ)
    (stock : IsStock (stock_of side written wires routes uses)) where
  abbrev before : Stock
  before = stock_of side written wires routes uses

  -- ---- wire attributes are added

  module _ (attrs : WireAttrs) (absent : (v : ℕ) → slice_index_or (wires_in wires.items) v None ≢ Some attrs)
      (pool final : Pool Wire) (number : ℕ) (adds : Adds wires pool number (record { attrs = attrs }, 0))
      (final_is : final ≡ record pool { idle = noted number pool.idle }) (counts : List ℕ)
      (counts_is : counts ≡ widened uses number) where
    items_are : final.items ≡ pool.items
    items_are = ap (λ (p : Pool Wire). p.items) final_is

    wire_free : slice_index_or (wires_in wires.items) number None ≡ None
    wire_free = wire_at wires.items number ∙ ap (option_map attrs_of_item) adds.free

    wire_others : (v : ℕ) → slice_index_or (wires_in final.items) v None
        ≡ cond (v == number) (Some attrs) (slice_index_or (wires_in wires.items) v None)
    wire_others v = ap (λ (xs : List (Option (Wire × ℕ))). slice_index_or (wires_in xs) v None) items_are
        ∙ wire_at pool.items v ∙ ap (option_map attrs_of_item) (adds.others v)
        ∙ mapped_by attrs_of_item (v == number) (record { attrs = attrs }, 0) (item_at wires.items v)
        ∙ ap (cond (v == number) (Some attrs)) (sym (wire_at wires.items v))

    wires_length : length (wires_in final.items) ≡ grown (length wires.items) number
    wires_length = length-map final.items (option_map attrs_of_item)
        ∙ ap (λ (xs : List (Option (Wire × ℕ))). length xs) (items_are ∙ adds.items)
        ∙ length_with wires.items number (record { attrs = attrs }, 0) adds.next

    pub wire_stocked : IsStock (stock_of side written final routes counts)
    wire_stocked = record {
      kept = kept_with_wire before.seen stock.kept (wires_in final.items) attrs number absent wire_free wire_others;
      routes_length = stock.routes_length;
      uses_length = ap (λ (ns : List ℕ). length ns) counts_is ∙ length_widened uses number
          ∙ ap (λ (n : ℕ). grown n number) (stock.uses_length ∙ length-map wires.items (option_map attrs_of_item))
          ∙ sym wires_length;
      noted = stock.noted;
    }

    pub wire_added : AddsWire before (stock_of side written final routes counts) attrs number
    wire_added = record {
      absent = absent;
      free = wire_free;
      others = wire_others;
      most = subst (λ (xs : List (Option (Wire × ℕ))). length (wires_in xs) ≤ length (wires_in wires.items) + 1)
          (sym (items_are ∙ adds.items))
          (let more_most = most_with wires.items number (record { attrs = attrs }, 0) adds.next in
          let new_length = length-map (with_item wires.items number (record { attrs = attrs }, 0))
          (option_map attrs_of_item) in
          let old_length = length-map wires.items (option_map attrs_of_item) in
          omega arith);
      rest = ap₂ (λ (ns idle : List ℕ). record before {
        seen = record before.seen { wires = wires_in final.items };
        uses = ns;
        idle_wires = idle;
      }) counts_is (ap (λ (p : Pool Wire). p.idle) final_is ∙ ap (noted number) adds.idle);
    }

    pub wire_stands : StandsWire before (stock_of side written final routes counts) attrs number
    wire_stands = record {
      stands = at_number (wire_under before.seen) (λ (v : ℕ). slice_index_or (wires_in final.items) v None) number
          (Some attrs) wire_others;
      change = inr wire_added;
    }

  -- ---- a written value is added

  module _ (text : Attrs) (wire : ℕ) (absent : (n : ℕ) → value_under before.seen n ≢ Some text)
      (stands : wire_under before.seen wire ≡ Some (sent text side)) (pool final : Pool Written) (wire_pool : Pool Wire)
      (number : ℕ) (adds : Adds written pool number (record { attrs = text }, wire))
      (final_is : final ≡ record pool { idle = noted number pool.idle })
      (wire_pool_is : wire_pool ≡ record wires { idle = without wire wires.idle })
      (places counts : List ℕ) (places_are : places ≡ widened routes number) (counts_is : counts ≡ more uses wire) where
    written_items : final.items ≡ pool.items
    written_items = ap (λ (p : Pool Written). p.items) final_is

    value_free : slice_index_or (written_in written.items) number None ≡ None
    value_free = written_at written.items number ∙ ap (option_map value_of_item) adds.free

    value_others : (n : ℕ) → slice_index_or (written_in final.items) n None
        ≡ cond (n == number) (Some (text, wire)) (slice_index_or (written_in written.items) n None)
    value_others n = ap (λ (xs : List (Option (Written × ℕ))). slice_index_or (written_in xs) n None) written_items
        ∙ written_at pool.items n ∙ ap (option_map value_of_item) (adds.others n)
        ∙ mapped_by value_of_item (n == number) (record { attrs = text }, wire) (item_at written.items n)
        ∙ ap (cond (n == number) (Some (text, wire))) (sym (written_at written.items n))

    value_list : written_in final.items ≡ with_item (written_in written.items) number (text, wire)
    value_list = ap (λ (xs : List (Option (Written × ℕ))). written_in xs) (written_items ∙ adds.items)
        ∙ list_with written.items number (record { attrs = text }, wire)

    values_length : length (written_in final.items) ≡ grown (length written.items) number
    values_length = length-map final.items (option_map value_of_item)
        ∙ ap (λ (xs : List (Option (Written × ℕ))). length xs) (written_items ∙ adds.items)
        ∙ length_with written.items number (record { attrs = text }, wire) adds.next

    final_idle : final.idle ≡ noted number written.idle
    final_idle = ap (λ (p : Pool Written). p.idle) final_is ∙ ap (noted number) adds.idle

    inside : wire < length uses
    inside = within_uses before stock wire (some_is_some (wire_under before.seen wire) (sent text side) stands)

    abbrev after : Stock
    after = stock_of side final wire_pool places counts

    values_kept : AreKept after.seen
    values_kept = subst (λ (p : Pool Wire). AreKept (values_of side (written_in final.items) (wires_in p.items)))
        (sym wire_pool_is)
        (kept_with before.seen stock.kept (written_in final.items) text wire number absent stands value_others)

    value_noted : (v : ℕ) → IsSome (written_under after.seen v) → link places v ≡ 0 → has v final.idle ≡ true
    value_noted v some none = ap (has v) final_idle ∙ elim (cases_eq v number) [
      | inl same ↦ subst (λ (n : ℕ). has n (noted number written.idle) ≡ true) (sym same)
          (noted_has number written.idle)
      | inr differs ↦ has_noted v number written.idle (stock.noted v
          (ap is_some (sym (elsewhere (written_under before.seen) (written_under after.seen) number
          (Some (text, wire)) value_others v differs)) ∙ some)
          (sym (ap (λ (ns : List ℕ). link ns v) places_are ∙ link_widened routes number v) ∙ none))
    ]

    pub value_stocked : IsStock after
    value_stocked = record {
      kept = values_kept;
      routes_length = ap (λ (ns : List ℕ). length ns) places_are ∙ length_widened routes number
          ∙ ap (λ (n : ℕ). grown n number) (stock.routes_length ∙ length-map written.items (option_map value_of_item))
          ∙ sym values_length;
      uses_length = ap (λ (ns : List ℕ). length ns) counts_is ∙ length-set uses wire (link uses wire + 1)
          ∙ stock.uses_length ∙ ap (λ (p : Pool Wire). length (wires_in p.items)) (sym wire_pool_is);
      noted = value_noted;
    }

    pub value_added : AddsWritten before after text wire number
    value_added = record {
      kept = values_kept;
      free = value_free;
      next = subst (λ (n : ℕ). number ≤ n) (sym (length-map written.items (option_map value_of_item))) adds.next;
      list = value_list;
      others = value_others;
      counts = λ v. ap (λ (ns : List ℕ). link ns v) counts_is ∙ link_more uses wire inside v;
      rest = ap₂ (λ (p : Pool Wire) (idle : List ℕ). record before {
        seen = values_of side (written_in final.items) (wires_in p.items);
        routes = places;
        uses = counts;
        idle_values = idle;
        idle_wires = p.idle;
      }) wire_pool_is final_idle ∙ ap (λ (ns : List ℕ). record before {
        seen = values_of side (written_in final.items) (wires_in wires.items);
        routes = ns;
        uses = counts;
        idle_values = noted number written.idle;
        idle_wires = without wire wires.idle;
      }) places_are;
    }
