-- What lines tell of routes: which keys are announced, each with its written attributes, and which are withdrawn.
use Rattle.std.specs.Prelude.{List, [], map, Option, Some, None, unwrap_or, if◌then◌else◌}
use Rattle.route_values.specs.declared.attrs.Attrs.{Attrs}
use Rattle.route_values.specs.declared.key.Key.{Key}
use Rattle.route_values.specs.Key.{same_key}
use Rattle.update_grammar.specs.Net.{last_word}
use Rattle.update_grammar.specs.declared.effect.Effect.{Effect}
use Rattle.update_grammar.specs.declared.effect.Effect.TheVariants as effect
use Rattle.command_grammar.specs.declared.command.Command.{Command}
use Rattle.command_grammar.specs.declared.command.Command.TheVariants as said
use Rattle.text_printer.specs.Plain.{plain_of}

-- what is told of one key
pub data Told : Type 0 where
  Gone : Key → Told
  Here : Key → Attrs → Told

-- what a command tells: an announcement its routes, a withdrawal its keys, and any other nothing
abbrev pub told_by : Command → List Told
told_by (said.Announce pick keys attrs) = map (λ key. Here key attrs) keys
told_by (said.Withdraw pick keys) = map Gone keys
told_by other = []

-- what an effect is told as
abbrev pub told_of : Effect → Told
told_of (effect.Gone key) = Gone key
told_of (effect.Here key sent) = Here key (plain_of sent)

-- what is told of a key, where it is named
abbrev pub told_says : Told → Key → Option (Option Attrs)
told_says (Gone k) key = if same_key k key then Some None else None
told_says (Here k attrs) key = if same_key k key then Some (Some attrs) else None

-- what is left at a key: the last that names it counts
abbrev pub net_told : List Told → Key → Option Attrs
net_told told key = unwrap_or (last_word told_says told key) None
