-- How a line is read: the event that it says, if it says one.
use Rattle.std.specs.Prelude.{ℕ, ◌==◌, ◌&&◌, not, nat_lt, Bool, true, codes, List, [], ◌∷◌, length, Option, Some}
use Rattle.std.specs.Prelude.{None, if◌then◌else◌, bytes_eq, option_and_then, option_map}
use Rattle.std.specs.List.{list_all, list_any}
use Rattle.std.specs.Str.{is_utf8}
use Rattle.text_forms.specs.Blanks.{is_blank_byte}
use Rattle.text_forms.specs.Lines.{Line as HelperLine, Text, TooLong}
use Rattle.script_grammar.specs.declared.names.Name.{Name}
use Rattle.script_grammar.specs.declared.names.Name.TheVariants as name
use Rattle.script_grammar.specs.declared.operands.Numbered.{Numbered}
use Rattle.script_grammar.specs.Caps.{caps_in}
use Rattle.script_grammar.specs.Events.{Event, Spawn, Line, Take, Deaf, Gone, Peer, Up, Down, Refresh, Cut, Drain}
use Rattle.script_grammar.specs.Events.{Control, Reload, ScriptLine, PassedOver, Says, Bad}
use Rattle.script_grammar.specs.Words.{Parted, family_in, first_word, helpers, longs, name_in, neighbors, number_below}

-- a helper slot and a number, by their words
abbrev pub numbered : ℕ → ℕ → Numbered
numbered h number = record { h = h; number = number }

abbrev pub numbered_of : Parted → Option Numbered
numbered_of parts =
    option_and_then (λ h. option_map (numbered h) (number_below longs parts.rest)) (number_below helpers parts.word)

-- the helper slot and the number that a text names
unfoldable pub numbered_in : List ℕ → Option Numbered
numbered_in text = option_and_then numbered_of (first_word text)

-- the neighbour slot that a text names
unfoldable pub neighbor_in : List ℕ → Option ℕ
neighbor_in text = number_below neighbors text

-- the line of a helper that a text is
unfoldable pub helper_line : List ℕ → Option HelperLine
helper_line text =
    if list_all is_blank_byte text then None
    else Some (if nat_lt 65535 (length text) then TooLong else Text text)

-- the event of a line, by its helper slot, and by what stands behind that
abbrev pub line_by : ℕ → Parted → Option Event
line_by h parts =
    option_and_then (λ inc. option_map (Line h inc) (helper_line parts.rest)) (number_below longs parts.word)

abbrev pub line_of : Parted → Option Event
line_of parts =
    option_and_then (λ h. option_and_then (line_by h) (first_word parts.rest)) (number_below helpers parts.word)

unfoldable pub line_in : List ℕ → Option Event
line_in text = option_and_then line_of (first_word text)

-- the event of a family
abbrev pub refresh_of : Parted → Option Event
refresh_of parts =
    option_and_then (λ n. option_map (Refresh n) (family_in parts.rest)) (number_below neighbors parts.word)

unfoldable pub refresh_in : List ℕ → Option Event
refresh_in text = option_and_then refresh_of (first_word text)

-- the event of a session
abbrev pub up_of : Parted → Option Event
up_of parts = option_and_then (λ n. option_map (Up n) (caps_in parts.rest)) (number_below neighbors parts.word)

unfoldable pub up_in : List ℕ → Option Event
up_in text = option_and_then up_of (first_word text)

-- whether a text is a path: one word, which isn't empty, and in UTF-8
abbrev pub is_path : List ℕ → Bool
is_path text = not (length text == 0) && (not (list_any (λ b. b == 32) text) && is_utf8 text)

unfoldable pub reload_in : List ℕ → Option Event
reload_in text = if is_path text then Some (Reload text) else None

-- the event that is named, with its operands
abbrev pub named_event : Name → List ℕ → Option Event
named_event name.Spawn text = option_map (λ is. Spawn is.h is.number) (numbered_in text)
named_event name.Line text = line_in text
named_event name.Take text = option_map (λ is. Take is.h is.number) (numbered_in text)
named_event name.Deaf text = option_map (λ is. Deaf is.h is.number) (numbered_in text)
named_event name.Gone text = option_map (λ is. Gone is.h is.number) (numbered_in text)
named_event name.Peer text = option_map Peer (neighbor_in text)
named_event name.Up text = up_in text
named_event name.Down text = option_map Down (neighbor_in text)
named_event name.Refresh text = refresh_in text
named_event name.Cut text = option_map Cut (neighbor_in text)
named_event name.Drain text = option_map Drain (neighbor_in text)
named_event name.Reload text = reload_in text

-- the event of a line that has a space, and of one that has none
abbrev pub event_of : Parted → Option Event
event_of parts = option_and_then (λ named. named_event named parts.rest) (name_in parts.word)

abbrev pub event_from : List ℕ → Option Parted → Option Event
event_from line None = if bytes_eq line (codes "control") then Some Control else None
event_from line (Some parts) = event_of parts

-- the event that a line says
unfoldable pub event_in : List ℕ → Option Event
event_in line = event_from line (first_word line)

-- how many bytes a line has at most
abbrev pub max_script_line : ℕ
max_script_line = 65600

-- whether a line is passed over: it is blank, or begins with `#`
abbrev pub is_passed_over : List ℕ → Bool
is_passed_over [] = true
is_passed_over (b ∷ bs) = if b == 35 then true else list_all is_blank_byte (b ∷ bs)

abbrev pub said_or_bad : Option Event → ScriptLine
said_or_bad (Some event) = Says event
said_or_bad None = Bad

-- what a line of a script is
unfoldable pub script_line : List ℕ → ScriptLine
script_line line =
    if nat_lt max_script_line (length line) then Bad
    else (if is_passed_over line then PassedOver else said_or_bad (event_in line))
