-- The numbers of slots stand for attributes, each for its own.
use Rattle.std.proofs.Common.{◌≡◌, ℕ, ◌+◌, ◌-◌, ◌*◌, ◌/◌, ◌%◌, ◌<◌, true, false, List, [], ◌∷◌, cond}
use Rattle.std.proofs.Common.{Option, Some, None, zero, suc, length, refl, sym, ap, ◌∙◌, arith}
use Rattle.std.specs.Prelude.{IsSome, is_some, nat_lt, slice_index_or}
use Rattle.std.specs.Option.{option_map}
use Rattle.std.proofs.lemmas.Grind.{common_steps}
use Rattle.std.proofs.lemmas.Bool.{false≢true}
use Rattle.route_values.specs.declared.addr.Family.TheVariants.{Ipv4, Ipv6}
use Rattle.route_values.specs.declared.attrs.Attrs.{Attrs}
use Rattle.route_values.specs.declared.attrs.WireAttrs.{WireAttrs}
use Rattle.route_values.specs.declared.key.Key.{Key}
use Rattle.route_values.specs.Caps.{Caps}
use Rattle.route_values.specs.Key.{family_of_key}
use Rattle.route_values.specs.Sent.{sent}
use Rattle.adj_rib_out.specs.declared.chosen.Chosen.{Chosen}
use Rattle.adj_rib_out.specs.State.{Route, is_visible, route_of}
use Rattle.adj_rib_out.specs.Kept.{Values, AreKept, IsNumber, written_under, wire_under, attrs_under, number_by}
use Rattle.adj_rib_out.specs.Kept.{number_of, shown_number, route_in, parity, parity_of}
use Rattle.adj_rib_out.proofs.RowLemmas.{none_some}

pub parity_small : (key : Key) → parity key < 2
parity_small key = elim (family_of_key key) as (λ family. parity_of family < 2) [
  | Ipv4 ↦ omega arith
  | Ipv6 ↦ omega arith
]

pub under_within : {X : Type 0} (xs : List (Option X)) (n : ℕ) (x : X) → slice_index_or xs n None ≡ Some x
    → n < length xs
under_within [] n x is = absurd (none_some is)
under_within (y ∷ ys) zero x is = omega arith
under_within (y ∷ ys) (suc n) x is = let below = under_within ys n x is in omega arith

value_number : (w parity : ℕ) → parity < 2 → (2 * (w + 1) + parity) / 2 - 1 ≡ w
value_number w parity small = omega arith

value_parity : (w parity : ℕ) → parity < 2 → (2 * (w + 1) + parity) % 2 ≡ parity
value_parity w parity small = omega arith

above_one : (a : ℕ) → 1 < a → nat_lt 1 a ≡ true
above_one a above = grind (arith, common_steps)

pub not_above : (a : ℕ) → a < 2 → nat_lt 1 a ≡ false
not_above a below = grind (arith, common_steps)

pub some_of : {X : Type 0} (o : Option X) → IsSome o → (x : X) × (o ≡ Some x)
some_of None is = absurd (false≢true is)
some_of (Some x) is = (x, refl)

pub some_is_some : {X : Type 0} (o : Option X) (x : X) → o ≡ Some x → IsSome o
some_is_some o x is = ap is_some is

module _ (values : Values) where
  attrs_of_route : (c : Chosen) (value : Option (Attrs × ℕ))
      → option_map (λ (x : Attrs × ℕ). sent x.0 values.side) value
      ≡ option_map (λ (r : Route). r.attrs)
      (option_map (λ (x : Attrs × ℕ). route_of values.side x.0 c.owner) value)
  attrs_of_route c None = refl
  attrs_of_route c (Some x) = refl

  -- a value's number stands for its wire attributes
  pub attrs_of_value : (a : ℕ) → 1 < a → attrs_under values a ≡ wire_under values (a / 2 - 1)
  attrs_of_value a above = ap (λ test. cond test (wire_under values (a / 2 - 1)) None) (above_one a above)

  pub attrs_of_none : (a : ℕ) → a < 2 → attrs_under values a ≡ None
  attrs_of_none a below = ap (λ test. cond test (wire_under values (a / 2 - 1)) None) (not_above a below)

  pub above_if : (a : ℕ) → IsSome (attrs_under values a) → 1 < a
  above_if a some = elim (nat_lt 1 a) as (λ test. nat_lt 1 a ≡ test → 1 < a) [
    | true ↦ λ test. grind (arith, common_steps)
    | false ↦ λ test. let below : a < 2 = grind (arith, common_steps) in
        absurd (false≢true (sym (ap is_some (attrs_of_none a below)) ∙ some))
  ] refl

  -- a number without attributes is no value
  pub none_below : (parity a : ℕ) → IsNumber values parity a → attrs_under values a ≡ None → a < 2
  none_below parity a is none = elim (nat_lt 1 a) as (λ test. nat_lt 1 a ≡ test → a < 2) [
    | true ↦ λ test. let above : 1 < a = grind (arith, common_steps) in
        absurd (false≢true (sym (ap is_some (sym (attrs_of_value a above) ∙ none)) ∙ is.stands above))
    | false ↦ λ below. grind (arith, common_steps)
  ] refl

  module _ (kept : AreKept values) where
    both : (parity a b : ℕ) → IsNumber values parity a → IsNumber values parity b
        → attrs_under values a ≡ attrs_under values b → 1 < a
        → (w : WireAttrs) × (wire_under values (a / 2 - 1) ≡ Some w) → a ≡ b
    both parity a b is_a is_b same above wire = elim (nat_lt 1 b) as (λ test. nat_lt 1 b ≡ test → a ≡ b) [
      | false ↦ λ test. let below : b < 2 = grind (arith, common_steps) in
          absurd (none_some (sym (attrs_of_none b below) ∙ sym same ∙ attrs_of_value a above ∙ wire.1))
      | true ↦ λ test. let also : 1 < b = grind (arith, common_steps) in
          let wires = kept.wires_once (a / 2 - 1) (b / 2 - 1) wire.0 wire.1
          (sym (attrs_of_value b also) ∙ sym same ∙ attrs_of_value a above ∙ wire.1) in
          let one = is_a.parity_is in let other = is_b.parity_is in omega arith
    ] refl

    pub same_number : (parity a b : ℕ) → IsNumber values parity a → IsNumber values parity b
        → attrs_under values a ≡ attrs_under values b → a ≡ b
    same_number parity a b is_a is_b same = elim (nat_lt 1 a) as (λ test. nat_lt 1 a ≡ test → a ≡ b) [
      | false ↦ λ test. let below : a < 2 = grind (arith, common_steps) in
          let also = none_below parity b is_b (sym same ∙ attrs_of_none a below) in
          let one = is_a.parity_is in let other = is_b.parity_is in omega arith
      | true ↦ λ test. let above : 1 < a = grind (arith, common_steps) in
          both parity a b is_a is_b same above (some_of (wire_under values (a / 2 - 1)) (is_a.stands above))
    ] refl

    pub wired : (value : Option (Attrs × ℕ)) (n : ℕ) (x : Attrs × ℕ) → written_under values n ≡ value → value ≡ Some x
        → wire_under values x.1 ≡ Some (sent x.0 values.side)
    wired value n x at is = kept.wired n x.1 x.0 (at ∙ is)

    pub number_by_is : (parity n : ℕ) (value : Option (Attrs × ℕ)) → parity < 2 → written_under values n ≡ value
        → IsNumber values parity (number_by parity value)
    number_by_is parity n None small at = record { parity_is = omega arith; stands = λ above. absurd (omega arith) }
    number_by_is parity n (Some x) small at = record {
      parity_is = value_parity x.1 parity small;
      stands = λ above. some_is_some _ _ (ap (wire_under values) (value_number x.1 parity small)
          ∙ wired (Some x) n x at refl);
    }

    pub attrs_by : (parity n : ℕ) (value : Option (Attrs × ℕ)) → parity < 2 → written_under values n ≡ value
        → attrs_under values (number_by parity value) ≡ option_map (λ (x : Attrs × ℕ). sent x.0 values.side) value
    attrs_by parity n None small at = attrs_of_none parity small
    attrs_by parity n (Some x) small at = attrs_of_value (2 * (x.1 + 1) + parity) (omega arith)
        ∙ ap (wire_under values) (value_number x.1 parity small) ∙ wired (Some x) n x at refl

    pub number_by_below : (parity n : ℕ) (value : Option (Attrs × ℕ)) → parity < 2 → written_under values n ≡ value
        → number_by parity value < 2 * length values.wires + 2
    number_by_below parity n None small at = omega arith
    number_by_below parity n (Some x) small at =
        let below = under_within values.wires x.1 _ (wired (Some x) n x at refl) in omega arith

    -- the same of what is chosen
    pub number_of_is : (parity : ℕ) (chosen : Option Chosen) → parity < 2
        → IsNumber values parity (number_of values parity chosen)
    number_of_is parity None small = record { parity_is = omega arith; stands = λ above. absurd (omega arith) }
    number_of_is parity (Some c) small = number_by_is parity c.value (written_under values c.value) small refl

    pub attrs_of_chosen : (parity : ℕ) (chosen : Option Chosen) → parity < 2
        → attrs_under values (number_of values parity chosen)
        ≡ option_map (λ (r : Route). r.attrs) (route_in values chosen)
    attrs_of_chosen parity None small = attrs_of_none parity small
    attrs_of_chosen parity (Some c) small = attrs_by parity c.value (written_under values c.value) small refl
        ∙ attrs_of_route c (written_under values c.value)

    pub number_of_below : (parity : ℕ) (chosen : Option Chosen) → parity < 2
        → number_of values parity chosen < 2 * length values.wires + 2
    number_of_below parity None small = omega arith
    number_of_below parity (Some c) small = number_by_below parity c.value (written_under values c.value) small refl

    -- and of what is shown
    pub shown_is : (caps : Option Caps) (key : Key) (chosen : Option Chosen)
        → IsNumber values (parity key) (shown_number caps values key chosen)
    shown_is None key chosen = number_of_is (parity key) None (parity_small key)
    shown_is (Some caps) key chosen = elim (is_visible caps key) as (λ test.
        IsNumber values (parity key) (cond test (number_of values (parity key) chosen) (parity key))) [
          | true ↦ number_of_is (parity key) chosen (parity_small key)
          | false ↦ number_of_is (parity key) None (parity_small key)
        ]

    pub shown_below : (caps : Option Caps) (key : Key) (chosen : Option Chosen)
        → shown_number caps values key chosen < 2 * length values.wires + 2
    shown_below None key chosen = number_of_below (parity key) None (parity_small key)
    shown_below (Some caps) key chosen = elim (is_visible caps key) as (λ test.
        cond test (number_of values (parity key) chosen) (parity key) < 2 * length values.wires + 2) [
          | true ↦ number_of_below (parity key) chosen (parity_small key)
          | false ↦ number_of_below (parity key) None (parity_small key)
        ]

    -- the attributes of a route where a session carries the key
    abbrev pub shown_in : Option Caps → Key → Option Route → Option WireAttrs
    shown_in None key route = None
    shown_in (Some caps) key route = cond (is_visible caps key) (option_map (λ (r : Route). r.attrs) route) None

    pub attrs_shown : (caps : Option Caps) (key : Key) (chosen : Option Chosen)
        → attrs_under values (shown_number caps values key chosen) ≡ shown_in caps key (route_in values chosen)
    attrs_shown None key chosen = attrs_of_none (parity key) (parity_small key)
    attrs_shown (Some caps) key chosen = elim (is_visible caps key) as (λ test.
        attrs_under values (cond test (number_of values (parity key) chosen) (parity key))
        ≡ cond test (option_map (λ (r : Route). r.attrs) (route_in values chosen)) None) [
          | true ↦ attrs_of_chosen (parity key) chosen (parity_small key)
          | false ↦ attrs_of_none (parity key) (parity_small key)
        ]

pub shown_none : (values : Values) (caps : Option Caps) (key : Key) → shown_number caps values key None ≡ parity key
shown_none values None key = refl
shown_none values (Some caps) key = elim (is_visible caps key) as (λ test.
    cond test (parity key) (parity key) ≡ parity key) [ true ↦ refl | false ↦ refl ]
