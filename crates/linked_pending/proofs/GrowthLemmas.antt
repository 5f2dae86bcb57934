-- A table of links that has grown by places that are linked to themselves.
use Rattle.std.proofs.Common.{◌≡◌, ℕ, ◌<◌, ◌≤◌, true, List, ◌∷◌, length, sym, ap, ◌∙◌, inl, inr, arith}
use Rattle.std.proofs.lemmas.Grind.{common_steps}
use Rattle.std.proofs.lemmas.Bool.{cases_lt}
use Rattle.linked_pending.specs.Listing.{has}
use Rattle.linked_pending.specs.Links.{link, walk, AreInverse}
use Rattle.linked_pending.specs.Chain.{Holds, IsChain}
use Rattle.linked_pending.proofs.LeadsLemmas.{length-walk, leads_frame}
use Rattle.linked_pending.proofs.ChainLemmas.{Seen, seen_from}

-- the new table has the old one's links, and each further place is linked to itself
pub record IsGrown (old new : List ℕ) (room : ℕ) : Type 0 where
  pub length_is : length new ≡ room
  pub kept : (place : ℕ) → place < length old → link new place ≡ link old place
  pub alone : (place : ℕ) → length old ≤ place → place < room → link new place ≡ place

module _ (next prev new new_prev : List ℕ) (room : ℕ) (more : length next < room) (grown : IsGrown next new room)
    (grown_prev : IsGrown prev new_prev room) (links : AreInverse next prev) where
  pub inverse_grown : AreInverse new new_prev
  inverse_grown = record {
    same_length = grown_prev.length_is ∙ sym grown.length_is;
    next_in = λ place inside. elim (cases_lt place (length next)) [
      | inl old ↦ let read = grown.kept place old in let bound = links.next_in place old in let len = grown.length_is in
          omega arith
      | inr further ↦ let len = grown.length_is in let read = grown.alone place further (omega arith) in omega arith
    ];
    prev_in = λ place inside. elim (cases_lt place (length next)) [
      | inl old ↦ let same = links.same_length in let read = grown_prev.kept place (omega arith) in let bound =
          links.prev_in place old in let len = grown.length_is in omega arith
      | inr further ↦ let same = links.same_length in let len = grown.length_is in let read =
          grown_prev.alone place (omega arith) (omega arith) in omega arith
    ];
    back = λ place inside.
        let len = grown.length_is in
        let same = links.same_length in
        elim (cases_lt place (length next)) [
          | inl old ↦ let bound = links.next_in place old in ap (link new_prev) (grown.kept place old)
              ∙ grown_prev.kept _ (omega arith) ∙ links.back place old
          | inr further ↦ ap (link new_prev) (grown.alone place further (omega arith))
              ∙ grown_prev.alone place (omega arith) (omega arith)
        ];
    forth = λ place inside.
        let len = grown.length_is in
        let same = links.same_length in
        elim (cases_lt place (length next)) [
          | inl old ↦ ap (link new) (grown_prev.kept place (omega arith)) ∙ grown.kept _ (links.prev_in place old)
              ∙ links.forth place old
          | inr further ↦ ap (link new) (grown_prev.alone place (omega arith) (omega arith))
              ∙ grown.alone place further (omega arith)
        ];
  }

  module _ (items : List ℕ) (holds : Holds next items) where
    same_links : (place : ℕ) → has place (0 ∷ items) ≡ true → link new place ≡ link next place
    same_links place there = elim (cases_lt place (length next)) [
      | inl old ↦ grown.kept place old
      | inr further ↦
          let at_root : place ≡ 0 = grind (arith, common_steps, holds.within place) in
          let past : link next place ≡ 0 = grind (arith, common_steps) in
          grown.alone place further (omega arith) ∙ at_root ∙ sym past
    ]

    pub holds_grown : Holds new items
    holds_grown = record {
      leads = leads_frame (link next) (link new) 0 items 0 holds.leads same_links;
      apart = holds.apart;
      alone = λ place inside absent. elim (cases_lt place (length next)) [
        | inl old ↦ grown.kept place old ∙ holds.alone place old absent
        | inr further ↦ let len = grown.length_is in grown.alone place further (omega arith)
      ];
      within = λ place there. let len = grown.length_is in let bound = holds.within place there in omega arith;
    }

-- what `reserve` leaves
pub seen_grown : (next prev new new_prev : List ℕ) (room len : ℕ) → IsChain next prev len → length next < room
    → IsGrown next new room → IsGrown prev new_prev room → Seen new new_prev (walk len (link next) 0) len
seen_grown next prev new new_prev room len chain more grown grown_prev =
    seen_from new new_prev _ len (inverse_grown next prev new new_prev room more grown grown_prev chain.links)
    (holds_grown next prev new new_prev room more grown grown_prev chain.links _ chain.holds)
    (length-walk len (link next) 0)

-- a table that has grown after its memory was reserved, by clauses that speak of its length
pub grown_from : (old reserved new : List ℕ) (len room : ℕ) → reserved ≡ old → len ≡ length old → length new ≡ room
    → ((place : ℕ) → place < len → link new place ≡ link reserved place)
    → ((place : ℕ) → len ≤ place → place < room → link new place ≡ place) → IsGrown old new room
grown_from old reserved new len room reserved_is len_is length_is kept alone = record {
  length_is = length_is;
  kept = λ place inside. kept place (omega arith) ∙ ap (λ table. link table place) reserved_is;
  alone = λ place further inside. alone place (omega arith) inside;
}
