-- Tables of links in which what stands behind two places is exchanged.
use Rattle.std.proofs.Common.{◌≡◌, ◌≢◌, ℕ, ◌<◌, List, length, set, sym, ap, ◌∙◌, subst, inl, inr, arith}
use Rattle.std.proofs.lemmas.Grind.{common_steps}
use Rattle.std.proofs.lemmas.List.{get_or-set_other, get_or-set_same}
use Rattle.std.proofs.lemmas.Bool.{cases_eq}
use Rattle.linked_pending.specs.Links.{link, AreInverse, crossed}

pub link-set_same : (table : List ℕ) (place value : ℕ) → place < length table
    → link (set table place value) place ≡ value
link-set_same table place value room = get_or-set_same table place value 0 room

pub link-set_other : (table : List ℕ) (place value other : ℕ) → other ≢ place
    → link (set table place value) other ≡ link table other
link-set_other table place value other apart = get_or-set_other table place other value 0 apart

module _ (next prev : List ℕ) (links : AreInverse next prev) (one two : ℕ) (one_in : one < length next)
    (two_in : two < length next) where
  pub length-crossed : length (crossed one two next) ≡ length next
  length-crossed = grind (arith, common_steps)

  pub crossed_one : link (crossed one two next) one ≡ link next two
  crossed_one = elim (cases_eq one two) [
    | inl same ↦ subst (λ place. link (crossed one two next) place ≡ link next two) (sym same)
        (link-set_same _ two _ (grind (arith, common_steps)) ∙ ap (link next) same)
    | inr apart ↦ link-set_other _ two _ one apart ∙ link-set_same next one _ one_in
  ]

  pub crossed_two : link (crossed one two next) two ≡ link next one
  crossed_two = link-set_same _ two _ (grind (arith, common_steps))

  pub crossed_other : (place : ℕ) → place ≢ one → place ≢ two → link (crossed one two next) place ≡ link next place
  crossed_other place not_one not_two = link-set_other _ two _ place not_two ∙ link-set_other next one _ place not_one

  -- the links back
  turned : List ℕ
  turned = set (set prev (link next two) one) (link next one) two

  turned_two : link turned (link next one) ≡ two
  unfolding turned
  turned_two = link-set_same _ (link next one) _ (grind (arith, common_steps, links.same_length, links.next_in one))

  turned_one : link turned (link next two) ≡ one
  unfolding turned
  turned_one = elim (cases_eq (link next two) (link next one)) [
    | inl same ↦ ap (link turned) same ∙ turned_two ∙ (sym (links.back two two_in) ∙ ap (link prev) same
        ∙ links.back one one_in)
    | inr apart ↦ link-set_other _ (link next one) _ _ apart ∙ link-set_same prev _ _
        (grind (arith, links.same_length, links.next_in two))
  ]

  turned_other : (place : ℕ) → place ≢ link next one → place ≢ link next two → link turned place ≡ link prev place
  unfolding turned
  turned_other place not_one not_two = link-set_other _ (link next one) _ place not_one
      ∙ link-set_other prev _ _ place not_two

  -- two places with the same one behind them are the same
  behind_apart : (place other : ℕ) → place < length next → other < length next → place ≢ other
      → link next place ≢ link next other
  behind_apart place other place_in other_in apart same = apart
      (sym (links.back place place_in) ∙ ap (link prev) same ∙ links.back other other_in)

  crossed_back : (place : ℕ) → place < length next → link turned (link (crossed one two next) place) ≡ place
  crossed_back place room = elim (cases_eq place two) [
    | inl at_two ↦ ap (λ here. link turned (link (crossed one two next) here)) at_two ∙ ap (link turned) crossed_two
        ∙ turned_two ∙ sym at_two
    | inr not_two ↦ elim (cases_eq place one) [
      | inl at_one ↦ ap (λ here. link turned (link (crossed one two next) here)) at_one ∙ ap (link turned) crossed_one
          ∙ turned_one ∙ sym at_one
      | inr not_one ↦ ap (link turned) (crossed_other place not_one not_two)
          ∙ turned_other (link next place) (behind_apart place one room one_in not_one)
          (behind_apart place two room two_in not_two)
          ∙ links.back place room
    ]
  ]

  crossed_forth : (place : ℕ) → place < length next → link (crossed one two next) (link turned place) ≡ place
  crossed_forth place room = elim (cases_eq place (link next one)) [
    | inl at_one ↦ ap (λ here. link (crossed one two next) (link turned here)) at_one
        ∙ ap (link (crossed one two next)) turned_two ∙ crossed_two ∙ sym at_one
    | inr not_one ↦ elim (cases_eq place (link next two)) [
      | inl at_two ↦ ap (λ here. link (crossed one two next) (link turned here)) at_two
          ∙ ap (link (crossed one two next)) turned_one ∙ crossed_one ∙ sym at_two
      | inr not_two ↦ ap (link (crossed one two next)) (turned_other place not_one not_two)
          ∙ crossed_other (link prev place) (λ same. not_one (sym (links.forth place room) ∙ ap (link next) same))
          (λ same. not_two (sym (links.forth place room) ∙ ap (link next) same))
          ∙ links.forth place room
    ]
  ]

  crossed_in : (place : ℕ) → place < length next → link (crossed one two next) place < length next
  crossed_in place room = elim (cases_eq place two) [
    | inl at_two ↦ subst (λ here. here < length next) (sym (ap (link (crossed one two next)) at_two ∙ crossed_two))
        (links.next_in one one_in)
    | inr not_two ↦ elim (cases_eq place one) [
      | inl at_one ↦ subst (λ here. here < length next) (sym (ap (link (crossed one two next)) at_one ∙ crossed_one))
          (links.next_in two two_in)
      | inr not_one ↦ subst (λ here. here < length next) (sym (crossed_other place not_one not_two))
          (links.next_in place room)
    ]
  ]

  turned_in : (place : ℕ) → place < length next → link turned place < length next
  turned_in place room = elim (cases_eq place (link next one)) [
    | inl at_one ↦ subst (λ here. here < length next) (sym (ap (link turned) at_one ∙ turned_two)) two_in
    | inr not_one ↦ elim (cases_eq place (link next two)) [
      | inl at_two ↦ subst (λ here. here < length next) (sym (ap (link turned) at_two ∙ turned_one)) one_in
      | inr not_two ↦ subst (λ here. here < length next) (sym (turned_other place not_one not_two))
          (links.prev_in place room)
    ]
  ]

  pub inverse_crossed : AreInverse (crossed one two next) (set (set prev (link next two) one) (link next one) two)
  unfolding turned
  inverse_crossed = record {
    same_length = grind (arith, common_steps, links.same_length);
    next_in = λ place room. subst (λ len. link (crossed one two next) place < len) (sym length-crossed)
        (crossed_in place (subst (λ len. place < len) length-crossed room));
    prev_in = λ place room. subst (λ len. link turned place < len) (sym length-crossed)
        (turned_in place (subst (λ len. place < len) length-crossed room));
    back = λ place room. crossed_back place (subst (λ len. place < len) length-crossed room);
    forth = λ place room. crossed_forth place (subst (λ len. place < len) length-crossed room);
  }

-- the same, where the two links were read first
pub inverse_crossed_at : (next prev : List ℕ) (one two behind_one behind_two : ℕ) → AreInverse next prev
    → one < length next → two < length next → behind_one ≡ link next one → behind_two ≡ link next two
    → AreInverse (set (set next one behind_two) two behind_one) (set (set prev behind_two one) behind_one two)
inverse_crossed_at next prev one two behind_one behind_two links one_in two_in read_one read_two =
    subst (λ behind. AreInverse (set (set next one behind_two) two behind) (set (set prev behind_two one) behind two))
    (sym read_one)
    (subst (λ behind. AreInverse (set (set next one behind) two (link next one))
    (set (set prev behind one) (link next one) two)) (sym read_two)
    (inverse_crossed next prev links one two one_in two_in))
