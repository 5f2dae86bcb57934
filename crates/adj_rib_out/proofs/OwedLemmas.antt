-- A batch that begins owes a key just where the key's slot is owed.
use Rattle.std.proofs.Common.{◌≡◌, ◌⊎◌, ◌==◌, ℕ, ◌<◌, ◌%◌, Bool, true, false}
use Rattle.std.proofs.Common.{cond, Option, Some, None, refl, sym, ap, subst, ◌∙◌, arith, inl, inr}
use Rattle.std.specs.Option.{option_map, option_and_then}
use Rattle.std.specs.Prelude.{is_some, IsSome, nat_lt, ◌||◌, ◌&&◌, not}
use Rattle.std.proofs.lemmas.Bool.{false≢true, ne_eqb, eqb-false}
use Rattle.std.proofs.lemmas.Grind.{common_steps}
use Rattle.linked_pending.specs.Links.{link}
use Rattle.route_values.specs.declared.addr.Family.{Family}
use Rattle.route_values.specs.declared.addr.Family.TheVariants.{Ipv4, Ipv6}
use Rattle.route_values.specs.declared.attrs.WireAttrs.{WireAttrs}
use Rattle.route_values.specs.declared.key.Key.{Key}
use Rattle.route_values.specs.Caps.{Caps}
use Rattle.route_values.specs.Key.{family_of_key}
use Rattle.slot_batches.specs.Slots.{owes, flag_of, is_owed}
use Rattle.adj_rib_out.specs.State.{told_at, route_at, shown_at, shown_by, is_refreshed, is_visible}
use Rattle.adj_rib_out.specs.Batch.{IsOwed}
use Rattle.adj_rib_out.specs.Places.{key_at, place_of}
use Rattle.adj_rib_out.specs.Kept.{Parts, AreKept, IsTable, IsNumber, seen, route_by, told_by, attrs_under}
use Rattle.adj_rib_out.specs.Kept.{chosen_at, parity, parity_of, session_of, shown_number}
use Rattle.adj_rib_out.proofs.RowLemmas.{found}
use Rattle.adj_rib_out.proofs.PartLemmas.{route_seen, told_seen}
use Rattle.adj_rib_out.proofs.NumberLemmas.{same_number, attrs_shown, shown_in, shown_is}
use Rattle.adj_rib_out.proofs.NumberLemmas.{attrs_of_value, above_if, parity_small}

-- ---- owing, by numbers

pub owes_other : (a b : ℕ) (again : Bool) → (a ≡ b → ⊥) → owes a b again ≡ true
owes_other a b again differs = ap (λ (t : Bool). not t || (nat_lt 1 b && again)) (ne_eqb a b differs)

pub owes_again : (a b : ℕ) → 1 < b → owes a b true ≡ true
owes_again a b above = grind (arith, common_steps)

both : (b : ℕ) (again : Bool) → (nat_lt 1 b && again) ≡ true → (1 < b) × (again ≡ true)
both b again owed = elim (nat_lt 1 b) as (λ t. nat_lt 1 b ≡ t → (t && again) ≡ true → (1 < b) × (again ≡ true)) [
  | true ↦ λ above is. (grind (arith, common_steps), is)
  | false ↦ λ below is. absurd (false≢true is)
] refl owed

pub owes_by : (a b : ℕ) (again : Bool) → owes a b again ≡ true → (a ≡ b → ⊥) ⊎ ((1 < b) × (again ≡ true))
owes_by a b again owed = elim (a == b) as (λ t. (a == b) ≡ t → (a ≡ b → ⊥) ⊎ ((1 < b) × (again ≡ true))) [
  | false ↦ λ differs. inl (eqb-false a b differs)
  | true ↦ λ same. inr (both b again (sym (ap (λ (t : Bool). not t || (nat_lt 1 b && again)) same) ∙ owed))
] refl

-- ---- flags

abbrev pub flag_by : Bool → Bool → Family → Bool
flag_by even odd Ipv4 = even
flag_by even odd Ipv6 = odd

pub flag_is : (even odd : Bool) (number : ℕ) (family : Family) → number % 2 ≡ parity_of family
    → flag_of even odd number ≡ flag_by even odd family
flag_is even odd number Ipv4 is = ap (λ (n : ℕ). cond (n == 0) even odd) is
flag_is even odd number Ipv6 is = ap (λ (n : ℕ). cond (n == 0) even odd) is

pub or_cases : (a b : Bool) → (a || b) ≡ true → (a ≡ true) ⊎ (b ≡ true)
or_cases true b is = inl refl
or_cases false b is = inr is

or_left : (a b : Bool) → a ≡ true → (a || b) ≡ true
or_left a b is = ap (λ (t : Bool). t || b) is

module _ (p : Parts) where
  refreshed_cases : (caps : Option Caps) (family : Family)
      → is_refreshed (option_map (session_of p) caps) family ≡ true
      → (flag_by p.slots.even_again p.slots.odd_again family ≡ true)
      ⊎ (flag_by p.ipv4_stale p.ipv6_stale family ≡ true)
  refreshed_cases None family is = absurd (false≢true is)
  refreshed_cases (Some caps) Ipv4 is = or_cases p.slots.even_again p.ipv4_stale is
  refreshed_cases (Some caps) Ipv6 is = or_cases p.slots.odd_again p.ipv6_stale is

  refreshed_by : (caps : Caps) (family : Family) → flag_by p.slots.even_again p.slots.odd_again family ≡ true
      → is_refreshed (option_map (session_of p) (Some caps)) family ≡ true
  refreshed_by caps Ipv4 is = or_left p.slots.even_again p.ipv4_stale is
  refreshed_by caps Ipv6 is = or_left p.slots.odd_again p.ipv6_stale is

  shown_cases : (kept : AreKept p.values) (caps : Option Caps) (key : Key)
      → shown_by (option_map (session_of p) caps) (seen p) key
      ≡ shown_in p.values kept caps key (route_at (seen p) key)
  shown_cases kept None key = refl
  shown_cases kept (Some caps) key = refl

module _ (p : Parts) (table : IsTable p) (key : Key) where
  -- a key without a place is owed nothing
  shown_nowhere : (caps : Option Caps) → shown_in p.values table.kept caps key None ≡ None
  shown_nowhere None = refl
  shown_nowhere (Some caps) = elim (is_visible caps key) as (λ t. cond {A = Option WireAttrs} t None None ≡ None) [
    | true ↦ refl
    | false ↦ refl
  ]

  pub not_owed : place_of p.keys key ≡ None → IsOwed (seen p) key → ⊥
  not_owed none owed =
      let shown : shown_at (seen p) key ≡ None = shown_cases p table.kept p.caps key
      ∙ ap (shown_in p.values table.kept p.caps key) (route_seen p key ∙ ap (option_and_then (route_by p)) none)
      ∙ shown_nowhere p.caps in
      let told : told_at (seen p) key ≡ None = told_seen p key ∙ ap (option_and_then (told_by p)) none in
      elim owed [
        | inl differs ↦ differs (told ∙ sym shown)
        | inr again ↦ false≢true (sym (ap is_some shown) ∙ again.0)
      ]

  module _ (place : ℕ) (here : place_of p.keys key ≡ Some place) where
    stands_here : key_at p.keys place ≡ Some key
    stands_here = found p.keys key place here

    pub now_number : IsNumber p.values (parity key) (link p.slots.nows place)
    now_number = subst (IsNumber p.values (parity key)) (sym (table.taken place key stands_here).now)
        (shown_is p.values table.kept p.caps key (chosen_at p.routes place))

    pub sent_number : IsNumber p.values (parity key) (link p.slots.sents place)
    sent_number = (table.taken place key stands_here).sent

    pub told_here : told_at (seen p) key ≡ attrs_under p.values (link p.slots.sents place)
    told_here = told_seen p key ∙ ap (option_and_then (told_by p)) here

    pub shown_here : shown_at (seen p) key ≡ attrs_under p.values (link p.slots.nows place)
    shown_here = shown_cases p table.kept p.caps key
        ∙ ap (shown_in p.values table.kept p.caps key) (route_seen p key ∙ ap (option_and_then (route_by p)) here)
        ∙ sym (attrs_shown p.values table.kept p.caps key (chosen_at p.routes place))
        ∙ ap (attrs_under p.values) (sym (table.taken place key stands_here).now)

    flag_here : flag_of p.slots.even_again p.slots.odd_again (link p.slots.nows place)
        ≡ flag_by p.slots.even_again p.slots.odd_again (family_of_key key)
    flag_here = flag_is p.slots.even_again p.slots.odd_again (link p.slots.nows place) (family_of_key key)
        now_number.parity_is

    has_value : IsSome (shown_at (seen p) key) → 1 < link p.slots.nows place
    has_value some = above_if p.values (link p.slots.nows place) (sym (ap is_some shown_here) ∙ some)

    has_shown : 1 < link p.slots.nows place → IsSome (shown_at (seen p) key)
    has_shown above = ap is_some (shown_here ∙ attrs_of_value p.values (link p.slots.nows place) above)
        ∙ now_number.stands above

    refreshed_here : (caps : Option Caps) → p.caps ≡ caps → 1 < link p.slots.nows place
        → flag_by p.slots.even_again p.slots.odd_again (family_of_key key) ≡ true
        → is_refreshed (option_map (session_of p) caps) (family_of_key key) ≡ true
    refreshed_here None is above flag =
        let now = (table.taken place key stands_here).now
        ∙ ap (λ (o : Option Caps). shown_number o p.values key (chosen_at p.routes place)) is in
        let small = parity_small key in
        absurd (omega arith)
    refreshed_here (Some caps) is above flag = refreshed_by p caps (family_of_key key) flag

    pub owed_then : is_owed p.slots place ≡ true → IsOwed (seen p) key
    owed_then owed = elim (owes_by (link p.slots.sents place) (link p.slots.nows place)
        (flag_of p.slots.even_again p.slots.odd_again (link p.slots.nows place)) owed) [
          | inl differs ↦ inl (λ same. differs (same_number p.values table.kept (parity key) (link p.slots.sents place)
              (link p.slots.nows place) sent_number now_number (sym told_here ∙ same ∙ shown_here)))
          | inr again ↦ inr (
            has_shown again.0,
            refreshed_here p.caps refl again.0 (sym flag_here ∙ again.1),
          )
        ]

    silent_less : (family : Family) → family_of_key key ≡ family → flag_by p.ipv4_stale p.ipv6_stale family ≡ true
        → link p.slots.sents place < 2
    silent_less Ipv4 is stale = (table.ipv4_stale stale).sent place (sent_number.parity_is ∙ ap parity_of is)
    silent_less Ipv6 is stale = (table.ipv6_stale stale).sent place (sent_number.parity_is ∙ ap parity_of is)

    pub then_owed : IsOwed (seen p) key → is_owed p.slots place ≡ true
    then_owed owed = elim owed [
      | inl differs ↦ owes_other (link p.slots.sents place) (link p.slots.nows place)
          (flag_of p.slots.even_again p.slots.odd_again (link p.slots.nows place))
          (λ same. differs (told_here ∙ ap (attrs_under p.values) same ∙ sym shown_here))
      | inr again ↦ elim (refreshed_cases p p.caps (family_of_key key) again.1) [
        | inl flag ↦ subst (λ (f : Bool). owes (link p.slots.sents place) (link p.slots.nows place) f ≡ true)
            (sym (flag_here ∙ flag)) (owes_again (link p.slots.sents place) (link p.slots.nows place)
            (has_value again.0))
        | inr stale ↦
            let below = silent_less (family_of_key key) refl stale in
            let above = has_value again.0 in
            owes_other (link p.slots.sents place) (link p.slots.nows place)
            (flag_of p.slots.even_again p.slots.odd_again (link p.slots.nows place)) (λ same. omega arith)
      ]
    ]
