-- A crew of two passes that make a call each, hand each other letters, and make a call each again.
use Rattle.std.proofs.Common.{◌≡◌, ℕ, zero, suc, ◌*◌, ◌%◌, ◌^◌, true, List, [], ◌∷◌, length, refl, sym, ap, ◌∙◌}
use Rattle.std.proofs.Common.{subst, arith}
use Rattle.std.specs.Prelude.{Contains}
use Rattle.book_gate.specs.Known.{TableId, Known}
use Rattle.book_gate.proofs.ListLemmas.{contains_here, contains_there}
use Rattle.book_gate_many.specs.declared.tally.Added.{Added}
use Rattle.book_gate_many.specs.Adding.{Adds, EachAdds, has_made}
use Rattle.book_gate_many.specs.Crews.{IsCrew, HaveAdded}
use Rattle.book_gate_many.proofs.AddingLemmas.{made_once}
use Rattle.book_gate_many.proofs.CrewLemmas.{crew_goes_on, have_more}
use Rattle.book_gate_many.proofs.TotalLemmas.{count_and_times}

pair_adds : (one two left right : Known ℕ Added) (times : ℕ) → Adds times one left → Adds times two right
    → EachAdds times (one ∷ two ∷ []) (left ∷ right ∷ [])
pair_adds one two left right times first second zero fallback below = first
pair_adds one two left right times first second (suc zero) fallback below = second
pair_adds one two left right times first second (suc (suc i)) fallback below = absurd (omega (arith, below))

module _ (gate : TableId) (pass : Known ℕ Added) (others called : List (Known ℕ Added)) (one two : Known ℕ Added)
    (len : length called ≡ length others) (each : EachAdds 1 others called) (two_are : called ≡ one ∷ two ∷ [])
    (crew : IsCrew gate 0 pass others) (none : HaveAdded 0 others) where
  called_crew : IsCrew gate 0 pass called
  called_crew = crew_goes_on gate 0 pass others called 1 len each crew

  called_once : HaveAdded 1 called
  called_once = have_more others called 1 len each 0 none

  -- Each of the two is of this gate, and has made a call
  can_write : (it : Known ℕ Added) → Contains called it → (it.gate ≡ gate) × (has_made it.name it.seen ≡ true)
  can_write it has = ((called_crew.leaves it has).gate_is, made_once it 0 (called_once it has))

  pub first_writes : (one.gate ≡ gate) × (has_made one.name one.seen ≡ true)
  first_writes = can_write one (subst (λ list. Contains list one) (sym two_are) (contains_here one (two ∷ [])))

  pub second_writes : (two.gate ≡ gate) × (has_made two.name two.seen ≡ true)
  second_writes = can_write two (subst (λ list. Contains list two) (sym two_are)
      (contains_there one (two ∷ []) two (contains_here two [])))

  module _ (met : List (Known ℕ Added)) (left right : Known ℕ Added) (met_are : met ≡ left ∷ right ∷ [])
      (first : Adds 0 one left) (second : Adds 0 two right) where
    met_len : length met ≡ length called
    met_len = ap length met_are ∙ sym (ap length two_are)

    met_each : EachAdds 0 called met
    met_each = subst (λ (it : List (Known ℕ Added) × List (Known ℕ Added)). EachAdds 0 it.0 it.1)
        (λ i. (sym two_are i, sym met_are i)) (pair_adds one two left right 0 first second)

    pub met_crew : IsCrew gate 0 pass met
    met_crew = crew_goes_on gate 0 pass called met 0 met_len met_each called_crew

    module _ (again : List (Known ℕ Added)) (again_len : length again ≡ length met)
        (again_each : EachAdds 1 met again) where
      pub last_crew : IsCrew gate 0 pass again
      last_crew = crew_goes_on gate 0 pass met again 1 again_len again_each met_crew

      pub last_total : (value : ℕ) → ((times : ℕ) → HaveAdded times again → value ≡ (length again * times) % 2 ^ 64)
          → value ≡ 4
      last_total value total =
          count_and_times (length met) (length again) 2 2 2 value again_len (ap length met_are) refl
          (total 2 (have_more met again 1 again_len again_each 1
          (have_more called met 0 met_len met_each 1 called_once)))
