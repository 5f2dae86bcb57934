-- What effects leave.
use Rattle.std.specs.Prelude.{List, [], ◌∷◌, Option, Some, None, unwrap_or, if◌then◌else◌}
use Rattle.route_values.specs.declared.attrs.WireAttrs.{WireAttrs}
use Rattle.route_values.specs.declared.key.Key.{Key}
use Rattle.route_values.specs.Key.{same_key}
use Rattle.update_grammar.specs.declared.effect.Effect.{Effect}
use Rattle.update_grammar.specs.declared.effect.Effect.TheVariants.{Gone, Here}

-- the later word counts, where there is one
abbrev pub later_of : {V : Type 0} → Option V → Option V → Option V
later_of (Some later) earlier = Some later
later_of None earlier = earlier

-- what the last of xs that speaks of a key says of it
abbrev pub last_word : {X K V : Type 0} → (X → K → Option V) → List X → K → Option V
last_word says [] key = None
last_word says (x ∷ xs) key = later_of (last_word says xs key) (says x key)

-- what an effect says of a key that it names
abbrev pub effect_says : Effect → Key → Option (Option WireAttrs)
effect_says (Gone k) key = if same_key k key then Some None else None
effect_says (Here k w) key = if same_key k key then Some (Some w) else None

-- what the effects leave at a key: the last that names it counts
abbrev pub net : List Effect → Key → Option WireAttrs
net effects key = unwrap_or (last_word effect_says effects key) None
