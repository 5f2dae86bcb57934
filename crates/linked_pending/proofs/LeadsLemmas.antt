-- Lists that links lead through, after a link or two has changed.
use Rattle.std.proofs.Common.{◌≡◌, ◌≢◌, ℕ, zero, suc, ◌<◌, true, false, cond, ◌⊎◌, List, [], ◌∷◌, length, eqb, refl}
use Rattle.std.proofs.Common.{sym, ap, ap₂, ◌∙◌, subst, inl, inr, arith}
use Rattle.std.proofs.lemmas.Grind.{common_steps}
use Rattle.std.proofs.lemmas.Bool.{eqb-true, eqb-false, false≢true}
use Rattle.linked_pending.specs.Listing.{has, AreApart, without, put_before, behind_or, before_from}
use Rattle.linked_pending.specs.Links.{walk, Leads}
use Rattle.linked_pending.proofs.ListingLemmas.{has_first, has_rest, differs, without_absent}

pub length-walk : (count : ℕ) (next : ℕ → ℕ) (start : ℕ) → length (walk count next start) ≡ count
length-walk zero next start = refl
length-walk (suc count) next start = ap suc (length-walk count next (next start))

-- a walk of the list's length gives the list
pub walk_leads : (next : ℕ → ℕ) (start : ℕ) (items : List ℕ) (end : ℕ) → Leads next start items end
    → walk (length items) next start ≡ items
walk_leads next start [] end leads = refl
walk_leads next start (first ∷ rest) end leads =
    ap₂ ◌∷◌ leads.0 (ap (λ (place : ℕ). walk (length rest) next place) leads.0 ∙ walk_leads next first rest end leads.1)

-- links that are the same along the list lead through it too
pub leads_frame : (next new : ℕ → ℕ) (start : ℕ) (items : List ℕ) (end : ℕ) → Leads next start items end
    → ((place : ℕ) → has place (start ∷ items) ≡ true → new place ≡ next place) → Leads new start items end
leads_frame next new start [] end leads same = same start (has_first start []) ∙ leads
leads_frame next new start (first ∷ rest) end leads same = (
  same start (has_first start (first ∷ rest)) ∙ leads.0,
  leads_frame next new first rest end leads.1
      (λ place there. same place (has_rest place start (first ∷ rest) there)),
)

-- links that leave the start as they left its first place lead through the rest
skip_first : (next new : ℕ → ℕ) (start first : ℕ) (rest : List ℕ) (end : ℕ) → new start ≡ next first
    → Leads next first rest end → ((place : ℕ) → has place rest ≡ true → new place ≡ next place)
    → Leads new start rest end
skip_first next new start first [] end moved leads same = moved ∙ leads
skip_first next new start first (second ∷ rest) end moved leads same =
    (moved ∙ leads.0, leads_frame next new second rest end leads.1 same)

-- the place before the one that goes leads to the place behind it
module _ (next new prev : ℕ → ℕ) (room gone end : ℕ) (back : (place : ℕ) → place < room → prev (next place) ≡ place)
    (forth : next (prev gone) ≡ gone)
    (moved : new (prev gone) ≡ next gone) (others : (place : ℕ) → place ≢ prev gone → place ≢ gone
    → new place ≡ next place) (end_other : end ≢ gone) where
  pub leads_without : (start : ℕ) (items : List ℕ) → Leads next start items end → AreApart (start ∷ items)
      → start ≢ gone → ((place : ℕ) → has place (start ∷ items) ≡ true → place < room)
      → Leads new start (without gone items) end
  leads_without start [] leads apart start_other inside = others start
      (λ same. end_other (sym leads ∙ ap next same ∙ forth)) start_other ∙ leads
  leads_without start (first ∷ rest) leads apart start_other inside =
      elim (eqb gone first) as (λ test. eqb gone first ≡ test
      → Leads new start (cond test (without gone rest) (first ∷ without gone rest)) end) [
        | true ↦ λ found.
            let same : gone ≡ first = eqb-true gone first found in
            let before : prev gone ≡ start = ap prev same ∙ ap prev (sym leads.0)
            ∙ back start (inside start (has_first start (first ∷ rest))) in
            let absent : has gone rest ≡ false = ap (λ place. has place rest) same ∙ apart.1.0 in
            subst (λ left. Leads new start left end) (sym (without_absent gone rest absent))
            (skip_first next new start first rest end (ap new (sym before) ∙ moved ∙ ap next same) leads.1
            (λ place there. others place (λ at_start. differs place start (first ∷ rest) apart.0
            (has_rest place first rest there) (at_start ∙ before)) (differs place gone rest absent there)))
        | false ↦ λ missed.
            let first_other : first ≢ gone = λ same. eqb-false gone first missed (sym same) in (
              others start (λ same. first_other (sym leads.0 ∙ ap next same ∙ forth)) start_other ∙ leads.0,
              leads_without first rest leads.1 apart.1 first_other
                  (λ place there. inside place (has_rest place start (first ∷ rest) there)),
            )
      ] refl

-- the place before the spot leads to the new one, and that to the spot
module _ (next new prev : ℕ → ℕ) (room item spot end : ℕ) (back : (place : ℕ) → place < room
    → prev (next place) ≡ place) (forth : next (prev spot) ≡ spot)
    (into : new (prev spot) ≡ item) (out : new item ≡ spot) (others : (place : ℕ) → place ≢ prev spot → place ≢ item
    → new place ≡ next place) where
  pub leads_put : (start : ℕ) (items : List ℕ) → Leads next start items end → AreApart (start ∷ items)
      → has item (start ∷ items) ≡ false → (spot ≡ end) ⊎ (has spot items ≡ true)
      → ((place : ℕ) → has place (start ∷ items) ≡ true → place < room)
      → Leads new start (put_before spot item items) end
  leads_put start [] leads apart absent spot_there inside =
      let at_end : spot ≡ end = elim spot_there [ inl same ↦ same | inr impossible ↦ absurd (false≢true impossible) ] in
      let before : prev spot ≡ start = ap prev (at_end ∙ sym leads) ∙ back start (inside start (has_first start [])) in
      (ap new (sym before) ∙ into, out ∙ at_end)
  leads_put start (first ∷ rest) leads apart absent spot_there inside =
      elim (eqb spot first) as (λ test. eqb spot first ≡ test
      → Leads new start (cond test (item ∷ first ∷ rest) (first ∷ put_before spot item rest)) end) [
        | true ↦ λ found.
            let same : spot ≡ first = eqb-true spot first found in
            let before : prev spot ≡ start = ap prev (same ∙ sym leads.0)
            ∙ back start (inside start (has_first start (first ∷ rest))) in
            let kept = λ (place : ℕ) (there : has place (first ∷ rest) ≡ true).
            others place (λ at_start. differs place start (first ∷ rest) apart.0 there (at_start ∙ before))
            (differs place item (first ∷ rest) (grind (arith, common_steps, absent)) there) in
            (ap new (sym before) ∙ into, (out ∙ same, leads_frame next new first rest end leads.1 kept))
        | false ↦ λ missed.
            let start_other : start ≢ prev spot = λ same. eqb-false spot first missed
            (sym forth ∙ ap next (sym same) ∙ leads.0) in
            let start_old : start ≢ item = differs start item (start ∷ first ∷ rest) absent
            (has_first start (first ∷ rest)) in
            let spot_later : (spot ≡ end) ⊎ (has spot rest ≡ true) =
            elim spot_there [ inl same ↦ inl same | inr there ↦ inr (grind (arith, common_steps)) ] in (
              others start start_other start_old ∙ leads.0,
              leads_put first rest leads.1 apart.1 (grind (arith, common_steps, absent)) spot_later
                  (λ place there. inside place (has_rest place start (first ∷ rest) there)),
            )
      ] refl

first_moves : (next : ℕ → ℕ) (first : ℕ) (rest : List ℕ) (end : ℕ) → Leads next first rest end → first ≢ end
    → has first rest ≡ false → next first ≢ first
first_moves next first [] end leads other once same = other (sym same ∙ leads)
first_moves next first (second ∷ rest) end leads other once same =
    false≢true (sym once ∙ (ap (λ place. has place (second ∷ rest)) (sym same ∙ leads.0) ∙ has_first second rest))

-- a place of the list isn't linked to itself
pub leads_moves : (next : ℕ → ℕ) (item start : ℕ) (items : List ℕ) (end : ℕ) → Leads next start items end
    → AreApart items → has end items ≡ false → has item items ≡ true → next item ≢ item
leads_moves next item start [] end leads apart end_off there = absurd (false≢true there)
leads_moves next item start (first ∷ rest) end leads apart end_off there =
    elim (eqb item first) as (λ test. eqb item first ≡ test → next item ≢ item) [
      | true ↦ λ found itself.
          let same : item ≡ first = eqb-true item first found in
          let first_inner : first ≢ end = λ at_end. false≢true
          (sym end_off ∙ (ap (λ place. has place (first ∷ rest)) (sym at_end) ∙ has_first first rest)) in
          first_moves next first rest end leads.1 first_inner apart.0 (ap next (sym same) ∙ itself ∙ same)
      | false ↦ λ missed. leads_moves next item first rest end leads.1 apart.1 (grind (arith, common_steps, end_off))
          (grind (arith, common_steps, there))
    ] refl

pub leads_behind : (next : ℕ → ℕ) (item start : ℕ) (items : List ℕ) (end : ℕ) → Leads next start items end
    → has item (start ∷ items) ≡ true → next item ≡ behind_or end item (start ∷ items)
leads_behind next item start [] end leads there =
    let same : item ≡ start = eqb-true item start (grind (arith, common_steps)) in
    ap next same ∙ leads ∙ grind (arith, common_steps)
leads_behind next item start (first ∷ rest) end leads there =
    elim (eqb item start) as (λ test. eqb item start ≡ test → next item
    ≡ cond test first (behind_or end item (first ∷ rest))) [
      | true ↦ λ found. ap next (eqb-true item start found) ∙ leads.0
      | false ↦ λ missed. leads_behind next item first rest end leads.1 (grind (arith, common_steps))
    ] refl

pub leads_before : (next prev : ℕ → ℕ) (room item start : ℕ) (items : List ℕ) (end : ℕ)
    → ((place : ℕ) → place < room → prev (next place) ≡ place) → Leads next start items end
    → ((place : ℕ) → has place (start ∷ items) ≡ true → place < room) → has item items ≡ true
    → prev item ≡ before_from start item items
leads_before next prev room item start [] end back leads inside there = absurd (false≢true there)
leads_before next prev room item start (first ∷ rest) end back leads inside there =
    elim (eqb item first) as (λ test. eqb item first ≡ test
    → prev item ≡ cond test start (before_from first item rest)) [
      | true ↦ λ found. ap prev (eqb-true item first found ∙ sym leads.0)
          ∙ back start (inside start (has_first start (first ∷ rest)))
      | false ↦ λ missed. leads_before next prev room item first rest end back leads.1
          (λ place later. inside place (has_rest place start (first ∷ rest) later)) (grind (arith, common_steps))
    ] refl
