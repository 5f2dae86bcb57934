-- Productions that those of commands are made of.
use Rattle.std.specs.Prelude.{ℕ, ◌≡◌, ◌<◌, decimal, List, []}
use Rattle.token_reader.specs.Tokens.{Word}
use Rattle.route_grammar.specs.Limits.{Limits}
use Rattle.route_grammar.specs.Productions.{Production, OneToken, Then}

-- no token, which says this
abbrev pub Ended : {V : Type 0} → V → Production V
Ended said limits tokens value = (tokens ≡ []) × (value ≡ said)

-- a production under a condition on the limits
abbrev pub Where : {V : Type 0} → (Limits → Type 0) → Production V → Production V
Where Allowed R limits tokens value = Allowed limits × R limits tokens value

-- a word, and then a production
abbrev pub Behind : {V : Type 0} → List ℕ → Production V → Production V
Behind word R = Then (OneToken (Word word)) (λ (said : Unit {0}). R)

-- a number up to 255
abbrev pub IsCode : List ℕ → ℕ → Type 0
IsCode word code = (code < 256) × (word ≡ decimal code)
