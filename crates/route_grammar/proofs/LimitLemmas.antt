-- Limits of which one is raised.
use Rattle.std.proofs.Common.{ℕ, ◌≡◌, ◌≢◌, ◌≤◌, ◌+◌, Bool, true, false, cond, eqb, List, Option, Some, ap, sym, ◌∙◌}
use Rattle.std.proofs.Common.{refl}
use Rattle.std.proofs.Common.{arith}
use Rattle.std.proofs.lemmas.Bool.{eqb-true, eq-eqb}
use Rattle.token_reader.specs.Tokens.{Token, Word}
use Rattle.route_grammar.specs.Limits.{Counted, Numbers, Communities, Clusters, Extended, Large, Prefixes, Limits}
use Rattle.route_grammar.specs.Limits.{raised}
use Rattle.route_grammar.specs.Limits.{counted_code}
use Rattle.route_grammar.specs.Productions.{IsHeld, in_force, other}

-- what has a number
counted_at : ℕ → Counted
counted_at n =
    cond (eqb n 0) Numbers (cond (eqb n 1) Communities (cond (eqb n 2) Clusters (cond (eqb n 3) Extended
    (cond (eqb n 4) Large Prefixes))))

coded : (which : Counted) → counted_at (counted_code which) ≡ which
unfolding counted_at
coded Numbers = refl
coded Communities = refl
coded Clusters = refl
coded Extended = refl
coded Large = refl
coded Prefixes = refl

same_code : (which one : Counted) → counted_code which ≡ counted_code one → which ≡ one
same_code which one same = sym (coded which) ∙ ap counted_at same ∙ coded one

-- a raised limit is one more
pub raised_one : (which : Counted) (limits : Limits) → raised which limits which ≡ limits which + 1
raised_one which limits =
    ap (λ test. cond test (limits which + 1) (limits which))
    (eq-eqb (counted_code which) (counted_code which) refl)

-- and all others are as they were
raised_by : (test : Bool) (which one : Counted) (n : ℕ) → (test ≡ true → ⊥) → cond test (n + 1) n ≡ n
raised_by true which one n other_one = absurd (other_one refl)
raised_by false which one n other_one = refl

pub raised_other : (which one : Counted) (limits : Limits) → which ≢ one → raised which limits one ≡ limits one
raised_other which one limits differ =
    raised_by (eqb (counted_code which) (counted_code one)) which one (limits one)
    (λ same. differ (same_code which one (eqb-true (counted_code which) (counted_code one) same)))

-- no limit is lower than it was
raised_least : (test : Bool) (n : ℕ) → n ≤ cond test (n + 1) n
raised_least true n = omega arith
raised_least false n = omega arith

pub raised_more : (which one : Counted) (limits : Limits) → limits one ≤ raised which limits one
raised_more which one limits = raised_least (eqb (counted_code which) (counted_code one)) (limits one)

-- where a word is one too many, the limit that it passes is in force
pub held_one : (limits held : Limits) (token : Option Token) (which : Counted) → IsHeld limits token (Some which) held
    → held which ≡ limits which
held_one limits held token which in_force = refl
held_one limits held token which (other word one at differ) =
    raised_other one which limits (λ same. differ (ap (λ counted. Some counted) (sym same)))

-- at a sign all limits are in force
pub held_at_sign : (limits held : Limits) (token : Option Token) (over : Option Counted)
    → ((word : List ℕ) → token ≡ Some (Word word) → ⊥) → IsHeld limits token over held → held ≡ limits
held_at_sign limits held token over sign in_force = refl
held_at_sign limits held token over sign (other word one at differ) = absurd (sign word at)
