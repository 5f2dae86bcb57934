-- What is written while a service is checked.
use Rattle.std.specs.Prelude.{ℕ, zero, suc, ◌≡◌, ◌≤◌, codes, Bool, true, false, List, [], ◌∷◌, ◌++◌, length, map, ⊤}
use Rattle.std.specs.List.{flat_map, list_any}
use Rattle.std.specs.declared.option.Option.{Option}
use Rattle.std.specs.declared.option.Option.TheVariants.{Some, None}
use Rattle.std.specs.Option.{option_map}
use Rattle.std.specs.Prelude.{if◌then◌else◌}
use Rattle.outside.specs.declared.probe.Outcome.{Outcome}
use Rattle.outside.specs.Probing.{Checked, checked}
use Rattle.outside.specs.Told.{Grows}
use Rattle.route_values.specs.declared.attrs.Attrs.{Attrs}
use Rattle.route_values.specs.declared.key.Key.{Key}
use Rattle.route_values.specs.Key.{same_key}
use Rattle.command_grammar.specs.declared.command.Command.{Command}
use Rattle.command_grammar.specs.declared.command.Command.TheVariants as said
use Rattle.health_core.specs.declared.counter.Change.{Change}
use Rattle.health_core.specs.declared.counter.Change.TheVariants.{Rise, Fall}
use Rattle.health_core.specs.declared.health.Health.{Health}
use Rattle.health_core.specs.Counting.{change_of, is_up}
use Rattle.health_core.specs.Printing.{attrs_with, command_said, command_text, med_at, IsSound, Says}

-- LINES

-- a line as it is written
abbrev pub ended : List ℕ → List ℕ
ended line = line ++ 10 ∷ []

-- whether the service is up behind so many checks
abbrev pub up_behind : Health → List Outcome → ℕ → Bool
up_behind health outcomes k = is_up health.rise health.fall outcomes k

-- what a check changes
abbrev pub change_behind : Health → List Outcome → ℕ → Option Change
change_behind health outcomes k = change_of (up_behind health outcomes k) (up_behind health outcomes (suc k))

-- the command that prefixes begin with: where they are announced while the service is down, that they are
abbrev pub first_command : Health → Option Bool
first_command health = option_map (λ med. false) health.down

-- the command of a change: whether the service is up now
abbrev pub command_of : Option Change → Option Bool
command_of None = None
command_of (Some Rise) = Some true
command_of (Some Fall) = Some false

-- the line of a command, where there is one
abbrev pub line_of : Health → Option Bool → List (List ℕ)
line_of health None = []
line_of health (Some up) = command_text health up ∷ []

-- the lines behind the first k checks: no replies are wanted, then the first command, then one at each change
unfoldable pub lines_behind : Health → List Outcome → ℕ → List (List ℕ)
lines_behind health outcomes zero = codes "disable-ack" ∷ line_of health (first_command health)
lines_behind health outcomes (suc k) =
    lines_behind health outcomes k ++ line_of health (command_of (change_behind health outcomes k))

-- the text of lines
abbrev pub text_of : List (List ℕ) → List ℕ
text_of lines = flat_map ended lines

-- WHAT IS WRITTEN

-- a front part of a text was taken
abbrev pub GrowsPart : Option (List ℕ) → Option (List ℕ) → List ℕ → Type 0
GrowsPart taken taken' text = (part : List ℕ) × (rest : List ℕ) × (text ≡ part ++ rest) × Grows taken taken' part

-- the text that a watch begins with
abbrev pub first_text : Health → List ℕ
first_text health = text_of (codes "disable-ack" ∷ line_of health (first_command health))

-- WHAT THE LINES SAY

-- what a line says, where there is one
abbrev pub said_of : Health → Option Bool → List Command
said_of health None = []
said_of health (Some up) = command_said health up ∷ []

-- what the lines say
unfoldable pub said_behind : Health → List Outcome → ℕ → List Command
said_behind health outcomes zero = said.DisableAck ∷ said_of health (first_command health)
said_behind health outcomes (suc k) =
    said_behind health outcomes k ++ said_of health (command_of (change_behind health outcomes k))

-- each line says its command
abbrev pub AllSay : List (List ℕ) → List Command → Type 0
AllSay [] [] = ⊤
AllSay [] (says ∷ others) = ⊥
AllSay (line ∷ lines) [] = ⊥
AllSay (line ∷ lines) (says ∷ others) = Says line says × AllSay lines others

-- WATCHES

-- the checks by a program
abbrev pub checks_by : List ℕ → List Outcome → List Checked
checks_by run outcomes = map (checked run) outcomes

-- a told list grows by several items; what is told after a call was told before it
abbrev pub GrowsBy : {A : Type 0} → Option (List A) → Option (List A) → List A → Type 0
GrowsBy old None items = ⊤
GrowsBy None (Some now) items = ⊥
GrowsBy (Some was) (Some now) items = now ≡ was ++ items

-- these outcomes were found, the lines behind them were written, and each line says its command
pub record Watched (health : Health) (checks checks' : Option (List Checked)) (taken taken' : Option (List ℕ))
    : Type 0 where
  pub outcomes : List Outcome
  pub all : length outcomes ≡ health.turns
  pub found : GrowsBy checks checks' (checks_by health.run.items outcomes)
  pub wrote : Grows taken taken' (text_of (lines_behind health outcomes (length outcomes)))
  pub said : IsSound health → AllSay (lines_behind health outcomes (length outcomes))
      (said_behind health outcomes (length outcomes))

-- these outcomes were found, and a front part of the lines behind them was written
pub record WatchedPart (health : Health) (checks checks' : Option (List Checked)) (taken taken' : Option (List ℕ))
    : Type 0 where
  pub outcomes : List Outcome
  pub few : length outcomes ≤ health.turns
  pub found : GrowsBy checks checks' (checks_by health.run.items outcomes)
  pub wrote : GrowsPart taken taken' (text_of (lines_behind health outcomes (length outcomes)))

-- ROUTES

-- whether a key is among these
abbrev pub is_among : Key → List Key → Bool
is_among key keys = list_any (λ one. same_key one key) keys

-- what stands of a key behind a command
abbrev pub stands_behind : Key → Option Attrs → Command → Option Attrs
stands_behind key before (said.Announce pick keys attrs) = if is_among key keys then Some attrs else before
stands_behind key before (said.Withdraw pick keys) = if is_among key keys then None else before
stands_behind key before _ = before

-- what stands of a key behind commands, where this stood before
abbrev pub stands : Key → Option Attrs → List Command → Option Attrs
stands key before [] = before
stands key before (says ∷ others) = stands key (stands_behind key before says) others

-- what is to stand of each prefix while the service is up or down
abbrev pub wanted : Health → Bool → Option Attrs
wanted health up = option_map (attrs_with health.hop) (med_at health up)

-- Behind each check the routes that stand are just the prefixes, with what is to stand of them.
abbrev pub RoutesFollow : Type 0
RoutesFollow =
    (health : Health) (outcomes : List Outcome) (k : ℕ) (key : Key)
    → stands key None (said_behind health outcomes k)
    ≡ (if is_among key health.prefixes then wanted health (up_behind health outcomes k) else None)
