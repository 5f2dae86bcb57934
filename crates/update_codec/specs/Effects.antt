-- The effects of keys that are announced with the same attributes.
use Rattle.std.specs.Prelude.{List}
use Rattle.update_grammar.specs.declared.effect.Effect.{Effect}
use Rattle.update_grammar.specs.Update.{here_all}
use Rattle.update_codec.specs.declared.effects.Announced.{Announced}

-- one announcement a key
abbrev pub announced_effects : Announced → List Effect
announced_effects a = here_all a.attrs a.keys
