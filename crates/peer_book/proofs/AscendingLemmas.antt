-- Keys of which each is greater than the one before it differ.
use Rattle.std.proofs.Common.{◌≡◌, ℕ, ◌+◌, ◌<◌, zero, suc, Bool, true, false, [], ◌∷◌, length, get_or, take}
use Rattle.std.proofs.Common.{◌-◌, List, take-suc, refl, sym, ap, ◌∙◌, subst, arith, inl, inr}
use Rattle.std.specs.Cmp.{IsTotalOrder}
use Rattle.std.specs.List.{AllAdjacentBelow}
use Rattle.std.specs.Ordering.{is_lt, ordering_reverse}
use Rattle.std.specs.declared.cmp.Ordering.{Ordering}
use Rattle.std.specs.declared.cmp.Ordering.TheVariants.{Less, Equal, Greater}
use Rattle.std.proofs.lemmas.Bool.{or_cases}
use Rattle.std.proofs.lemmas.List.{get_or_default}
use Rattle.std.proofs.lemmas.List.Sorted.{all_adjacent_more}
use Rattle.route_values.specs.declared.key.Key.{Key}
use Rattle.route_values.specs.Key.{same_key}
use Rattle.route_values.proofs.KeyLemmas.{same_key_is}
use Rattle.peer_history.specs.Keys.{is_named}
use Rattle.peer_history.proofs.KeyLemmas.{is_named-append}
use Rattle.peer_book.specs.Nodes.{AreFirst}

-- what is less is not greater, and what is the same is neither
less_by : (order : Ordering) → is_lt order ≡ true → order ≡ Less
less_by Less so = refl
less_by Equal so = absurd (let no_way : false ≡ true = so in cc)
less_by Greater so = absurd (let no_way : false ≡ true = so in cc)

not_turned : (order : Ordering) → order ≡ ordering_reverse order → order ≡ Less → ⊥
not_turned order turned less =
    let greater : Less ≡ Greater = sym less ∙ turned ∙ ap ordering_reverse less in
    let no_way : true ≡ false = ap is_lt greater in absurd cc

-- one more key that is greater than the one before it
pub ascends_next : (order : Key → Key → Ordering) (keys : List Key) (place : ℕ) (one other : Key) → 0 < place
    → place < length keys → one ≡ get_or keys (place - 1) one → other ≡ get_or keys place other
    → AllAdjacentBelow (λ k j. is_lt (order k j) ≡ true) keys place → is_lt (order one other) ≡ true
    → AllAdjacentBelow (λ k j. is_lt (order k j) ≡ true) keys (place + 1)
ascends_next order keys place one other some within before at up less =
    all_adjacent_more keys (λ k j. is_lt (order k j) ≡ true) place some up (λ key.
    let first : one ≡ get_or keys (place - 1) key =
    before ∙ get_or_default keys (place - 1) one key (omega (arith, within)) in
    let second : other ≡ get_or keys place key = at ∙ get_or_default keys place other key within in
    subst (λ k. is_lt (order k (get_or keys place key)) ≡ true) first
    (subst (λ k. is_lt (order one k) ≡ true) second less))

module _ (order : Key → Key → Ordering) (total : IsTotalOrder order) (keys : List Key)
    (up : AllAdjacentBelow (λ one other. is_lt (order one other) ≡ true) keys (length keys)) where
  next_greater : (place : ℕ) (key : Key) → place + 1 < length keys
      → order (get_or keys place key) (get_or keys (place + 1) key) ≡ Less
  next_greater place key within =
      less_by (order (get_or keys place key) (get_or keys (place + 1) key)) (up place key within)

  -- each key before a place is less than the one there
  less_before : (place : ℕ) (key other : Key) → place < length keys → is_named (take place keys) other ≡ true
      → order other (get_or keys place key) ≡ Less
  less_before zero key other within named = absurd (let no_way : false ≡ true = named in cc)
  less_before (suc n) key other within named =
      let next : suc n ≡ n + 1 = omega arith in
      let here : Key = get_or keys n key in
      let greater : order here (get_or keys (suc n) key) ≡ Less =
      subst (λ p. order here (get_or keys p key) ≡ Less) (sym next) (next_greater n key (omega (arith, within))) in
      elim (or_cases (is_named (take n keys) other) (is_named (here ∷ []) other)
      (sym (ap (λ ks. is_named ks other) (take-suc keys n key (omega (arith, within)))
      ∙ is_named-append (take n keys) (here ∷ []) other) ∙ named)) [
        | inl before ↦ total.trans other here (get_or keys (suc n) key)
            (less_before n key other (omega (arith, within)) before) greater
        | inr last ↦ subst (λ k. order k (get_or keys (suc n) key) ≡ Less)
            (same_key_is here other (only here other last)) greater
      ]
    where
      only : (one other : Key) → is_named (one ∷ []) other ≡ true → same_key one other ≡ true
      only one other named = elim (or_cases (same_key one other) false named) [
        | inl same ↦ same
        | inr none ↦ absurd (let no_way : false ≡ true = none in cc)
      ]

  pub first_named : AreFirst keys
  first_named place key within = by_named (is_named (take place keys) (get_or keys place key)) refl
    where
      by_named : (b : Bool) → is_named (take place keys) (get_or keys place key) ≡ b → b ≡ false
      by_named true named =
          let at : Key = get_or keys place key in
          absurd (not_turned (order at at) (total.antisymm at at) (less_before place key at within named))
      by_named false named = refl
