-- Values and wire attributes by the numbers of their pools.
use Rattle.std.proofs.Common.{◌≡◌, ◌≢◌, ℕ, ◌<◌, Bool, true, false, List, [], ◌∷◌, Option, Some, None, length}
use Rattle.std.proofs.Common.{refl, sym, ap, subst, ◌∙◌}
use Rattle.std.specs.Prelude.{IfNone, IfSome, IsSome, is_some, slice_get, slice_index_or}
use Rattle.std.specs.Option.{option_map}
use Rattle.std.proofs.Math.ListN.{get_or-map}
use Rattle.std.proofs.lemmas.Bool.{false≢true}
use Rattle.linked_pending.specs.Listing.{has}
use Rattle.linked_pending.proofs.ListingLemmas.{has_first}
use Rattle.pooled_attrs.specs.Same.{same_written, same_wire}
use Rattle.pooled_attrs.specs.SameLemmas.{written_decide, wire_decide}
use Rattle.pooled_attrs.specs.declared.wire.Wire.{Wire}
use Rattle.pooled_attrs.specs.declared.written.Written.{Written}
use Rattle.route_values.specs.declared.attrs.Attrs.{Attrs}
use Rattle.route_values.specs.declared.attrs.WireAttrs.{WireAttrs}
use Rattle.route_values.specs.Sent.{sent}
use Rattle.value_pool.specs.Pool.{item_at, passes}
use Rattle.adj_rib_out.specs.Kept.{Values, AreKept, written_under}
use Rattle.adj_rib_out.specs.Stock.{written_in, wires_in}
use Rattle.adj_rib_out.proofs.NumberLemmas.{under_within}
use Rattle.adj_rib_out.proofs.RowLemmas.{none_some, some_is}

-- a value of the pool with its tag, as it is seen
abbrev pub value_of_item : Written × ℕ → Attrs × ℕ
value_of_item item = (item.0.attrs, item.1)

abbrev pub attrs_of_item : Wire × ℕ → WireAttrs
attrs_of_item item = item.0.attrs

pub written_at : (items : List (Option (Written × ℕ))) (n : ℕ)
    → slice_index_or (written_in items) n None ≡ option_map value_of_item (item_at items n)
written_at items n = get_or-map (option_map value_of_item) items n None

pub wire_at : (items : List (Option (Wire × ℕ))) (n : ℕ)
    → slice_index_or (wires_in items) n None ≡ option_map attrs_of_item (item_at items n)
wire_at items n = get_or-map (option_map attrs_of_item) items n None

-- ---- written values are found by their test

module _ (sought : Attrs) where
  abbrev tested : Option (Written × ℕ) → Bool
  tested item = passes (λ (w : Written). same_written sought w.attrs) item

  abbrev shown : Option (Written × ℕ) → Option Attrs
  shown item = option_map (λ (value : Attrs × ℕ). value.0) (option_map value_of_item item)

  found_in : (item : Option (Written × ℕ)) → tested item ≡ true → shown item ≡ Some sought
  found_in None test = absurd (false≢true test)
  found_in (Some item) test = ap (λ (a : Attrs). Some a) (sym ((written_decide sought item.0.attrs).0 test))

  missing_in : (item : Option (Written × ℕ)) → tested item ≡ false → shown item ≡ Some sought → ⊥
  missing_in None test is = none_some is
  missing_in (Some item) test is =
      false≢true (sym test ∙ (written_decide sought item.0.attrs).1 (sym (some_is is)))

  untested : (item : Option (Written × ℕ)) → (shown item ≡ Some sought → ⊥) → tested item ≡ false
  untested item absent = elim (tested item) as (λ t. tested item ≡ t → t ≡ false) [
    | true ↦ λ test. absurd (absent (found_in item test))
    | false ↦ λ test. refl
  ] refl

  module _ (items : List (Option (Written × ℕ))) where
    shown_at : (n : ℕ) → option_map (λ (value : Attrs × ℕ). value.0) (slice_index_or (written_in items) n None)
        ≡ shown (item_at items n)
    shown_at n = ap (option_map (λ (value : Attrs × ℕ). value.0)) (written_at items n)

    pub value_found : (n : ℕ) → tested (item_at items n) ≡ true
        → option_map (λ (value : Attrs × ℕ). value.0) (slice_index_or (written_in items) n None) ≡ Some sought
    value_found n test = shown_at n ∙ found_in (item_at items n) test

    pub value_missing : ((n : ℕ) → tested (item_at items n) ≡ false) → (n : ℕ)
        → option_map (λ (value : Attrs × ℕ). value.0) (slice_index_or (written_in items) n None) ≡ Some sought → ⊥
    value_missing none n is = missing_in (item_at items n) (none n) (sym (shown_at n) ∙ is)

    pub value_absent : ((n : ℕ)
        → option_map (λ (value : Attrs × ℕ). value.0) (slice_index_or (written_in items) n None) ≡ Some sought → ⊥)
        → (n : ℕ) → tested (item_at items n) ≡ false
    value_absent absent n = untested (item_at items n) (λ is. absent n (shown_at n ∙ is))

-- ---- so are wire attributes

module _ (sought : WireAttrs) where
  abbrev wire_tested : Option (Wire × ℕ) → Bool
  wire_tested item = passes (λ (w : Wire). same_wire sought w.attrs) item

  wire_found_in : (item : Option (Wire × ℕ)) → wire_tested item ≡ true → option_map attrs_of_item item ≡ Some sought
  wire_found_in None test = absurd (false≢true test)
  wire_found_in (Some item) test = ap (λ (a : WireAttrs). Some a) (sym ((wire_decide sought item.0.attrs).0 test))

  wire_missing_in : (item : Option (Wire × ℕ)) → wire_tested item ≡ false → option_map attrs_of_item item ≡ Some
      sought → ⊥
  wire_missing_in None test is = none_some is
  wire_missing_in (Some item) test is =
      false≢true (sym test ∙ (wire_decide sought item.0.attrs).1 (sym (some_is is)))

  module _ (items : List (Option (Wire × ℕ))) where
    pub wire_found : (n : ℕ) → wire_tested (item_at items n) ≡ true
        → slice_index_or (wires_in items) n None ≡ Some sought
    wire_found n test = wire_at items n ∙ wire_found_in (item_at items n) test

    pub wire_missing : ((n : ℕ) → wire_tested (item_at items n) ≡ false) → (n : ℕ)
        → slice_index_or (wires_in items) n None ≡ Some sought → ⊥
    wire_missing none n is = wire_missing_in (item_at items n) (none n) (sym (wire_at items n) ∙ is)

-- ---- what the pools' calls answer

module _ (sought : Attrs) (items : List (Option (Written × ℕ))) where
  pub if_found : (result : Option ℕ) → IfSome result (λ n. tested sought (item_at items n) ≡ true)
      → IfSome result (λ n. option_map (λ (value : Attrs × ℕ). value.0) (slice_index_or (written_in items) n None)
      ≡ Some sought)
  if_found None found = tt
  if_found (Some n) found = value_found sought items n found

  pub if_none : (result : Option ℕ) → IfNone result ((n : ℕ) → tested sought (item_at items n) ≡ false)
      → IfNone result ((n : ℕ) → option_map (λ (value : Attrs × ℕ). value.0)
      (slice_index_or (written_in items) n None) ≢ Some sought)
  if_none None none = value_missing sought items none
  if_none (Some n) none = tt

mapped_some : {A B : Type 0} (f : A → B) (o : Option A) → is_some (option_map f o) ≡ is_some o
mapped_some f None = refl
mapped_some f (Some x) = refl

module _ (items : List (Option (Written × ℕ))) where
  pub some_written : (n : ℕ) → is_some (slice_index_or (written_in items) n None) ≡ is_some (item_at items n)
  some_written n = ap is_some (written_at items n) ∙ mapped_some value_of_item (item_at items n)

  pub idle_written : (idle : List ℕ) → ((n : ℕ) → has n idle ≡ true → IsSome (item_at items n)) → (result : Option ℕ)
      → result ≡ slice_get idle 0 → IfSome result (λ n. IsSome (slice_index_or (written_in items) n None))
  idle_written idle held None first = tt
  idle_written [] held (Some n) first = absurd (none_some (sym first))
  idle_written (here ∷ rest) held (Some n) first = some_written n
      ∙ held n (ap (λ (k : ℕ). has k (here ∷ rest)) (some_is first) ∙ has_first here rest)

  tag_of : (o : Option (Written × ℕ)) → option_map (λ (item : Written × ℕ). item.1) o
      ≡ option_map (λ (value : Attrs × ℕ). value.1) (option_map value_of_item o)
  tag_of None = refl
  tag_of (Some item) = refl

  pub tagged : (n wire : ℕ) → option_map (λ (item : Written × ℕ). item.1) (item_at items n) ≡ Some wire
      → (text : Attrs) × (slice_index_or (written_in items) n None ≡ Some (text, wire))
  tagged n wire is = tagged_by (item_at items n) refl is
    where
      tagged_by : (o : Option (Written × ℕ)) → item_at items n ≡ o → option_map (λ (item : Written × ℕ). item.1) o ≡
          Some wire
          → (text : Attrs) × (slice_index_or (written_in items) n None ≡ Some (text, wire))
      tagged_by None here tag = absurd (none_some tag)
      tagged_by (Some item) here tag = (
        item.0.attrs,
        written_at items n ∙ ap (option_map value_of_item) here
            ∙ ap (λ (w : ℕ). Some (item.0.attrs, w)) (some_is tag),
      )

  pub wire_tag : (n : ℕ) → option_map (λ (item : Written × ℕ). item.1) (item_at items n)
      ≡ option_map (λ (value : Attrs × ℕ). value.1) (slice_index_or (written_in items) n None)
  wire_tag n = tag_of (item_at items n) ∙ ap (option_map (λ (value : Attrs × ℕ). value.1)) (sym (written_at items n))

module _ (items : List (Option (Wire × ℕ))) where
  pub some_wire : (n : ℕ) → is_some (slice_index_or (wires_in items) n None) ≡ is_some (item_at items n)
  some_wire n = ap is_some (wire_at items n) ∙ mapped_some attrs_of_item (item_at items n)

  pub idle_wire : (idle : List ℕ) → ((n : ℕ) → has n idle ≡ true → IsSome (item_at items n)) → (result : Option ℕ)
      → result ≡ slice_get idle 0 → IfSome result (λ n. IsSome (slice_index_or (wires_in items) n None))
  idle_wire idle held None first = tt
  idle_wire [] held (Some n) first = absurd (none_some (sym first))
  idle_wire (here ∷ rest) held (Some n) first = some_wire n
      ∙ held n (ap (λ (k : ℕ). has k (here ∷ rest)) (some_is first) ∙ has_first here rest)

-- the wire attributes of a value have a number that is in use
pub within_if : (values : Values) → AreKept values → (n : ℕ) (result : Option ℕ)
    → result ≡ option_map (λ (value : Attrs × ℕ). value.1) (written_under values n)
    → IfSome result (λ w. w < length values.wires)
within_if values kept n result is = subst (λ (o : Option ℕ). IfSome o (λ w. w < length values.wires)) (sym is)
    (of_value (written_under values n) refl)
  where
    of_value : (o : Option (Attrs × ℕ)) → written_under values n ≡ o
        → IfSome (option_map (λ (value : Attrs × ℕ). value.1) o) (λ w. w < length values.wires)
    of_value None none = tt
    of_value (Some value) here = under_within values.wires value.1 (sent value.0 values.side)
        (kept.wired n value.1 value.0 here)
