-- What a line says.
use Rattle.std.specs.Prelude.{ℕ, ◌≡◌, ◌==◌, ◌+◌, Bool, false, List, [], ◌∷◌, Option, Some, None}
use Rattle.token_reader.specs.Tokens.{Token, Word}
use Rattle.route_grammar.specs.declared.fault.LineFault.{LineFault}
use Rattle.route_grammar.specs.declared.fault.LineFault.TheVariants.{BadToken, TooMany, TooLong}
use Rattle.route_grammar.specs.declared.fault.ReadFault.{ReadFault}
use Rattle.route_grammar.specs.declared.fault.ReadFault.TheVariants.{Line, NoMemory}
use Rattle.route_grammar.specs.Limits.{Counted, in_force}
use Rattle.route_grammar.specs.Productions.{Production, OneWord, Then, Either, IsFirstFault}
use Rattle.command_grammar.specs.declared.command.Command.{Command}
use Rattle.command_grammar.specs.declared.command.Command.TheVariants as said
use Rattle.command_grammar.specs.Forms.{Ended}
use Rattle.command_grammar.specs.Keywords.{IsSole}
use Rattle.command_grammar.specs.Selectors.{Picks}
use Rattle.command_grammar.specs.Targets.{Targeted}

-- a first word that begins with `#`, whatever follows
abbrev pub IsRemark : Production Command
IsRemark limits tokens command =
    (bytes : List ℕ) × (others : List Token) × (tokens ≡ Word (35 ∷ bytes) ∷ others) × (command ≡ said.Comment)

-- a token that such a line begins with
abbrev pub is_remark : Option Token → Bool
is_remark (Some (Word (first ∷ bytes))) = first == 35
is_remark _ = false

-- a command that is a line by itself, or one for the neighbours that are picked, or for every neighbour
abbrev pub Spoken : Production Command
Spoken = Either (Then (OneWord IsSole) Ended) (Either (Then Picks Targeted) (Targeted []))

-- a line
abbrev pub ReadsLine : Production Command
ReadsLine = Either IsRemark Spoken

-- Tokens that say nothing have their first fault here. Tokens are counted from 1; behind the last one is the place of
-- the end.
abbrev pub IsLineFault : List Token → LineFault → Type 0
IsLineFault tokens (BadToken place) =
    (before : ℕ) × (place ≡ before + 1) × IsFirstFault ReadsLine in_force tokens before None
IsLineFault tokens (TooMany place limit) =
    (before : ℕ) × (which : Counted) × (place ≡ before + 1) × (limit ≡ in_force which)
    × IsFirstFault ReadsLine in_force tokens before (Some which)
IsLineFault tokens TooLong = ⊥

-- the fault is the first one, or there was no memory
abbrev pub IsRefused : List Token → ReadFault → Type 0
IsRefused tokens (Line fault) = IsLineFault tokens fault
IsRefused tokens NoMemory = Unit {0}
