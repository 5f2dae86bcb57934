-- What is due of a table, and what is left of its open batch as the items of a batch.
use Rattle.std.proofs.Common.{◌≡◌, ℕ, List, [], ◌∷◌, ◌++◌, map, drop}
use Rattle.std.proofs.Common.{Option, Some, None, refl, sym, ap, ap₂, subst, ◌∙◌, inl, inr}
use Rattle.std.specs.List.{AllByRecursion}
use Rattle.std.specs.Prelude.{slice_get}
use Rattle.route_values.specs.declared.addr.Family.{Family}
use Rattle.route_values.specs.declared.attrs.WireAttrs.{WireAttrs}
use Rattle.route_values.specs.declared.key.Key.{Key}
use Rattle.update_grammar.specs.declared.effect.Effect.{Effect}
use Rattle.update_grammar.specs.Packed.{IsOneKind}
use Rattle.batch_cutter.specs.Grouped.{ComeFirst, AreGrouped}
use Rattle.batch_cutter.specs.Items.{effects_of, front, behind_front, item_told, ToldApart, AreNumbered}
use Rattle.batch_cutter.specs.Items as batch
use Rattle.batch_cutter.specs.declared.batch.Due.{Due}
use Rattle.batch_cutter.specs.declared.batch.Due.TheVariants as due
use Rattle.slot_batches.specs.declared.slots.Item.{Item as SlotItem}
use Rattle.adj_rib_out.specs.State.{State, Item}
use Rattle.adj_rib_out.specs.Batch.{IsOfKind, HasNoOther, ComesNextOrNever, AreTogether, AreNumberedAlike}
use Rattle.adj_rib_out.specs.Calls.{Passes, PassesDue}
use Rattle.adj_rib_out.specs.Nodes.{Next, Says, Ends, Nothing, next_of}
use Rattle.adj_rib_out.specs.Places.{key_at, StandOnce}
use Rattle.adj_rib_out.specs.Told.{next_told, item_by, batch_item, items_left}
use Rattle.adj_rib_out.specs.Kept.{Parts, Values, AreKept, IsTable, IsNumber, AreLeft, seen, items_seen, item_for}
use Rattle.adj_rib_out.specs.Kept.{says_by}
use Rattle.adj_rib_out.specs.Kept.{attrs_under, due_by, markers_of, parity}
use Rattle.adj_rib_out.proofs.RowLemmas.{none_some, some_is}
use Rattle.adj_rib_out.proofs.GroupLemmas.{numbered, seen_by, together_seen, alike}

-- ---- what is due

module _ (keys : List (Option Key)) (values : Values) where
  key_due : (items : List SlotItem) → AreLeft keys values items → (markers : List Family) → (item : SlotItem)
      → slice_get items 0 ≡ Some item
      → due_by item.value (key_at keys item.slot) (attrs_under values item.value)
      ≡ next_of (items_seen keys values items) markers
  key_due [] left markers item is = absurd (none_some is)
  key_due (first ∷ rest) left markers item is = subst (λ (i : SlotItem).
      due_by i.value (key_at keys i.slot) (attrs_under values i.value)
      ≡ next_of (items_seen keys values (first ∷ rest)) markers) (some_is is)
      (subst (λ (o : Option Key). due_by first.value o (attrs_under values first.value) ≡ next_of (elim o [
        | Some k ↦ item_for values first k ∷ items_seen keys values rest
        | None ↦ items_seen keys values rest
      ]) markers) (sym left.0.stands) refl)

  marker_due : (items : List SlotItem) → (markers : List Family) → slice_get items 0 ≡ None
      → next_of [] markers ≡ next_of (items_seen keys values items) markers
  marker_due [] markers is = refl
  marker_due (first ∷ rest) markers is = absurd (none_some (sym is))

module _ (p : Parts) (table : IsTable p) (state : State) (view : seen p ≡ state) where
  pub key_next : (item : SlotItem) → slice_get p.slots.left 0 ≡ Some item
      → due_by item.value (key_at p.keys item.slot) (attrs_under p.values item.value)
      ≡ next_of state.left state.markers
  key_next item is = key_due p.keys p.values p.slots.left table.left (markers_of p.ipv4_marker p.ipv6_marker) item is
      ∙ ap (λ (s : State). next_of s.left s.markers) view

  pub marker_next : slice_get p.slots.left 0 ≡ None
      → next_of [] (markers_of p.ipv4_marker p.ipv6_marker) ≡ next_of state.left state.markers
  marker_next is = marker_due p.keys p.values p.slots.left (markers_of p.ipv4_marker p.ipv6_marker) is
      ∙ ap (λ (s : State). next_of s.left s.markers) view

-- ---- the same as an item of a batch

abbrev item_of : Next → Option batch.Item
item_of (Says item) = Some (batch_item item)
item_of (Ends family) = Some (batch.End family)
item_of Nothing = None

told_of : (told : Due) → item_told told ≡ item_of (next_told told)
told_of (due.Gone key) = refl
told_of (due.Here number key attrs) = refl
told_of (due.End family) = refl
told_of due.Empty = refl

front_of : (left : List Item) (markers : List Family)
    → item_of (next_of left markers) ≡ front (map batch_item left ++ map batch.End markers)
front_of [] [] = refl
front_of [] (family ∷ families) = refl
front_of (item ∷ items) markers = refl

pub item_due : (state : State) (told : Due) → next_told told ≡ next_of state.left state.markers
    → item_told told ≡ front (items_left state)
item_due state told is = told_of told ∙ ap item_of is ∙ front_of state.left state.markers

behind : (items : List Item) (markers : List Family) (old new : State) → old.left ≡ items → old.markers ≡ markers
    → PassesDue items old new → items_left new ≡ behind_front (map batch_item items ++ map batch.End markers)
behind [] [] old new left_is markers_is passed = ap₂ (λ (l : List Item) (m : List Family).
    map batch_item l ++ map batch.End m) (passed.left ∙ left_is) (passed.markers ∙ ap (drop 1) markers_is)
behind [] (family ∷ families) old new left_is markers_is passed = ap₂ (λ (l : List Item) (m : List Family).
    map batch_item l ++ map batch.End m) (passed.left ∙ left_is) (passed.markers ∙ ap (drop 1) markers_is)
behind (item ∷ items) markers old new left_is markers_is passed = ap₂ (λ (l : List Item) (m : List Family).
    map batch_item l ++ map batch.End m) (passed.left ∙ ap (drop 1) left_is) (passed.markers ∙ markers_is)

pub left_behind : (old new : State) → Passes old new → items_left new ≡ behind_front (items_left old)
left_behind old new passed = behind old.left old.markers old new refl refl passed.due

-- ---- numbers

apart_by : (j k : Key) (a b : Option (ℕ × WireAttrs))
    → AreNumberedAlike (record { key = j; says = a }) (record { key = k; says = b })
    → ToldApart (item_by j a) (item_by k b)
apart_by j k None None is = tt
apart_by j k None (Some y) is = tt
apart_by j k (Some x) None is = tt
apart_by j k (Some x) (Some y) is =
    let kinds = is x.0 y.0 x.1 y.1 refl refl in (
      λ same. let kind = kinds.0 same in (kind.family, some_is kind.attrs),
      λ both. kinds.1 (record { family = both.0; attrs = ap (λ (w : WireAttrs). Some w) both.1 }),
    )

marker_apart : (key : Key) (says : Option (ℕ × WireAttrs)) (family : Family)
    → ToldApart (item_by key says) (batch.End family)
marker_apart key None family = tt
marker_apart key (Some said) family = tt

markers_apart : (item : Item) (markers : List Family)
    → AllByRecursion (ToldApart (batch_item item)) (map batch.End markers)
markers_apart item [] = tt
markers_apart item (family ∷ families) = (marker_apart item.key item.says family, markers_apart item families)

ends_apart : (family : Family) (markers : List Family)
    → AllByRecursion (ToldApart (batch.End family)) (map batch.End markers)
ends_apart family [] = tt
ends_apart family (other ∷ others) = (tt, ends_apart family others)

ends_numbered : (markers : List Family) → AreNumbered (map batch.End markers)
ends_numbered [] = tt
ends_numbered (family ∷ families) = (ends_apart family families, ends_numbered families)

module _ (values : Values) (kept : AreKept values) (keys : List (Option Key)) (once : StandOnce keys)
    (markers : List Family) where
  abbrev pub batch_of : List SlotItem → List batch.Item
  batch_of items = map batch_item (items_seen keys values items) ++ map batch.End markers

  all_apart : (key : Key) (number : ℕ) → IsNumber values (parity key) number → (items : List SlotItem)
      → AreLeft keys values items → AllByRecursion (ToldApart (batch_item (numbered values key number)))
      (batch_of items)
  all_apart key number is [] left = markers_apart (numbered values key number) markers
  all_apart key number is (item ∷ rest) left = subst (λ (l : List Item).
      AllByRecursion (ToldApart (batch_item (numbered values key number))) (map batch_item l ++ map batch.End markers))
      (sym (seen_by values kept keys once item rest left.0)) (
        apart_by key left.0.key (says_by number (attrs_under values number))
            (says_by item.value (attrs_under values item.value))
            (alike values kept key left.0.key number item.value is left.0.number),
        all_apart key number is rest left.1,
      )

  pub batch_numbered : (items : List SlotItem) → AreLeft keys values items → AreNumbered (batch_of items)
  batch_numbered [] left = ends_numbered markers
  batch_numbered (item ∷ rest) left = subst (λ (l : List Item).
      AreNumbered (map batch_item l ++ map batch.End markers)) (sym (seen_by values kept keys once item rest left.0))
      (all_apart left.0.key item.value left.0.number rest left.1, batch_numbered rest left.1)

-- ---- groups

-- the effects of an item
abbrev pub said : Item → List Effect
said item = effects_of (batch_item item)

alike_kind : (j k : Key) (a b : Option (ℕ × WireAttrs))
    → IsOneKind (effects_of (item_by j a)) (effects_of (item_by k b))
    → IsOfKind (record { key = j; says = a }) (record { key = k; says = b })
alike_kind j k None None is = record { family = is; attrs = refl }
alike_kind j k None (Some y) is = absurd is
alike_kind j k (Some x) None is = absurd is
alike_kind j k (Some x) (Some y) is = record { family = is.0; attrs = ap (λ (w : WireAttrs). Some w) is.1 }

kind_alike : (j k : Key) (a b : Option (ℕ × WireAttrs))
    → IsOfKind (record { key = j; says = a }) (record { key = k; says = b })
    → IsOneKind (effects_of (item_by j a)) (effects_of (item_by k b))
kind_alike j k None None is = is.family
kind_alike j k None (Some y) is = absurd (none_some is.attrs)
kind_alike j k (Some x) None is = absurd (none_some (sym is.attrs))
kind_alike j k (Some x) (Some y) is = (is.family, some_is is.attrs)

kind_is : (item other : Item) → IsOneKind (said item) (said other) → IsOfKind item other
kind_is item other = alike_kind item.key other.key item.says other.says

is_kind : (item other : Item) → IsOfKind item other → IsOneKind (said item) (said other)
is_kind item other = kind_alike item.key other.key item.says other.says

kinds : (item next later : Item) → IsOfKind item next → IsOfKind next later → IsOfKind item later
kinds item next later is also = record { family = is.family ∙ also.family; attrs = is.attrs ∙ also.attrs }

kind_back : (item next : Item) → IsOfKind item next → IsOfKind next item
kind_back item next is = record { family = sym is.family; attrs = sym is.attrs }

no_other : (item next : Item) → IsOfKind item next → (items : List Item) → HasNoOther next items
    → HasNoOther item items
no_other item next is [] none = tt
no_other item next is (later ∷ items) none =
    (λ same. none.0 (kinds next item later (kind_back item next is) same), no_other item next is items none.1)

next_or_never : (item next : Item) → IsOfKind item next → (items : List Item) → ComesNextOrNever next items
    → ComesNextOrNever item items
next_or_never item next is [] comes = tt
next_or_never item next is (later ∷ items) comes = elim comes [
  | inl same ↦ inl (kinds item next later is same)
  | inr never ↦ inr (no_other item next is (later ∷ items) never)
]

-- behind a marker's effects, which are none, nothing is of one kind
no_kind : (effects : List Effect) → IsOneKind effects [] → ⊥
no_kind [] is = is
no_kind (e ∷ es) is = is

all_of : (P : batch.Item → Type 0) → ((x : batch.Item) → P x) → (xs : List batch.Item) → AllByRecursion P xs
all_of P each [] = tt
all_of P each (x ∷ xs) = (each x, all_of P each xs)

ends_none : (P : batch.Item → Type 0) (effects : List Effect) (markers : List Family)
    → AllByRecursion (λ later. IsOneKind effects (effects_of later) → P later) (map batch.End markers)
ends_none P effects [] = tt
ends_none P effects (family ∷ families) = (λ is. absurd (no_kind effects is), ends_none P effects families)

ends_first : (effects : List Effect) (markers : List Family) → ComeFirst effects (map batch.End markers)
ends_first effects [] = tt
ends_first effects (family ∷ families) = (
  ends_none (λ later. IsOneKind effects []) effects families,
  ends_first effects families,
)

ends_grouped : (markers : List Family) → AreGrouped (map batch.End markers)
ends_grouped [] = tt
ends_grouped (family ∷ families) = (ends_first [] families, ends_grouped families)

module _ (markers : List Family) where
  abbrev pub with_ends : List Item → List batch.Item
  with_ends items = map batch_item items ++ map batch.End markers

  none_of_kind : (item other : Item) (items : List Item) → HasNoOther item items
      → AllByRecursion (λ later. IsOneKind (said item) (effects_of later) → IsOneKind (said item) (said other))
      (with_ends items)
  none_of_kind item other [] none =
      ends_none (λ later. IsOneKind (said item) (said other)) (said item) markers
  none_of_kind item other (later ∷ items) none =
      (λ is. absurd (none.0 (kind_is item later is)), none_of_kind item other items none.1)

  never_first : (item : Item) (items : List Item) → HasNoOther item items → ComeFirst (said item) (with_ends items)
  never_first item [] none = ends_first (said item) markers
  never_first item (other ∷ items) none =
      (none_of_kind item other items none.1, never_first item items none.1)

  come_first : (item : Item) (items : List Item) → ComesNextOrNever item items → AreTogether items
      → ComeFirst (said item) (with_ends items)
  come_first item [] comes together = ends_first (said item) markers
  come_first item (next ∷ items) comes together = elim comes [
    | inl same ↦ (
      all_of (λ later. IsOneKind (said item) (effects_of later) → IsOneKind (said item) (said next))
          (λ later is. is_kind item next same) (with_ends items),
      come_first item items (next_or_never item next same items together.0) together.1,
    )
    | inr never ↦ never_first item (next ∷ items) never
  ]

  pub batch_grouped : (items : List Item) → AreTogether items → AreGrouped (with_ends items)
  batch_grouped [] together = ends_grouped markers
  batch_grouped (item ∷ items) together =
      (come_first item items together.0 together.1, batch_grouped items together.1)

-- ---- the whole

module _ (p : Parts) (table : IsTable p) (state : State) (view : seen p ≡ state) where
  pub left_numbered : AreNumbered (items_left state)
  left_numbered = subst (λ (s : State). AreNumbered (items_left s)) view
      (batch_numbered p.values table.kept p.keys table.once (markers_of p.ipv4_marker p.ipv6_marker) p.slots.left
      table.left)

  pub left_grouped : AreGrouped (items_left state)
  left_grouped = subst (λ (s : State). AreGrouped (items_left s)) view
      (batch_grouped (markers_of p.ipv4_marker p.ipv6_marker) (items_seen p.keys p.values p.slots.left)
      (together_seen p.values table.kept p.keys table.once p.slots.left table.left table.left_together))
