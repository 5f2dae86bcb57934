-- Which lines say which events.
use Rattle.std.specs.Prelude.{ℕ, ◌≡◌, ◌<◌, ◌≤◌, false, codes, decimal, List, [], ◌∷◌, ◌++◌, length, map, IsUtf8}
use Rattle.std.specs.List.{list_all, AllByRecursion}
use Rattle.std.specs.Prelude.{◌≢◌, true}
use Rattle.route_values.specs.declared.addr.Family.{Family}
use Rattle.route_values.specs.Caps.{Caps}
use Rattle.text_forms.specs.Blanks.{is_blank_byte}
use Rattle.text_forms.specs.Lines.{Line as HelperLine, Text, TooLong}
use Rattle.script_grammar.specs.declared.caps.Said.{Said}
use Rattle.script_grammar.specs.declared.names.Cap.{Cap}
use Rattle.script_grammar.specs.Caps.{are_kept, cap_word, caps_of, has_cap, nothing_said, with_cap}
use Rattle.script_grammar.specs.Events.{Event, Spawn, Line, Take, Deaf, Gone, Peer, Up, Down, Refresh, Cut, Drain}
use Rattle.script_grammar.specs.Events.{Control, Reload}
use Rattle.script_grammar.specs.Words.{family_word, helpers, longs, neighbors}

-- words with one space between each two
abbrev pub joined : List (List ℕ) → List ℕ
joined [] = []
joined (word ∷ []) = word
joined (word ∷ next ∷ words) = word ++ 32 ∷ joined (next ∷ words)

-- a word, a helper slot, and a number of 64 bits
pub record OfHelper (word : List ℕ) (h number : ℕ) (line : List ℕ) : Type 0 where
  pub slot : h < helpers
  pub small : number < longs
  pub line_is : line ≡ joined (word ∷ decimal h ∷ decimal number ∷ [])

-- a word and a neighbour slot
pub record OfNeighbor (word : List ℕ) (n : ℕ) (line : List ℕ) : Type 0 where
  pub slot : n < neighbors
  pub line_is : line ≡ joined (word ∷ decimal n ∷ [])

-- a text that isn't blank, as a line of a helper; of one over 65,535 bytes the text isn't told
abbrev pub IsTextOf : List ℕ → HelperLine → Type 0
IsTextOf text (Text told) = (text ≡ told) × (list_all is_blank_byte text ≡ false) × (length text ≤ 65535)
IsTextOf text TooLong = (list_all is_blank_byte text ≡ false) × (65535 < length text)

-- `line`, a helper slot, an incarnation, and the line
pub record OfLine (h inc : ℕ) (told : HelperLine) (line : List ℕ) : Type 0 where
  pub slot : h < helpers
  pub small : inc < longs
  pub text : List ℕ
  pub text_is : IsTextOf text told
  pub line_is : line ≡ joined (codes "line" ∷ decimal h ∷ decimal inc ∷ text ∷ [])

-- `refresh`, a neighbour slot and a family
pub record OfRefresh (n : ℕ) (family : Family) (line : List ℕ) : Type 0 where
  pub slot : n < neighbors
  pub line_is : line ≡ joined (codes "refresh" ∷ decimal n ∷ family_word family ∷ [])

-- some capabilities, none of which was said before, and what is said with them
abbrev pub SayCaps : Said → List Cap → Said → Type 0
SayCaps before [] said = said ≡ before
SayCaps before (which ∷ others) said = (has_cap before which ≡ false) × SayCaps (with_cap before which) others said

-- `up`, a neighbour slot, and capabilities: at least one, each once, and a path word with its family alone
pub record OfUp (n : ℕ) (caps : Caps) (line : List ℕ) : Type 0 where
  pub slot : n < neighbors
  pub first : Cap
  pub others : List Cap
  pub said : Said
  pub says : SayCaps nothing_said (first ∷ others) said
  pub kept : are_kept said ≡ true
  pub caps_are : caps ≡ caps_of said
  pub line_is : line ≡ joined (codes "up" ∷ decimal n ∷ map cap_word (first ∷ others))

-- `reload` and one word, which is text
pub record OfReload (path line : List ℕ) : Type 0 where
  pub filled : 0 < length path
  pub one_word : AllByRecursion (λ b. b ≢ 32) path
  pub is_text : IsUtf8 path
  pub line_is : line ≡ joined (codes "reload" ∷ path ∷ [])

-- a line says an event
abbrev pub IsEvent : List ℕ → Event → Type 0
IsEvent line (Spawn h now) = OfHelper (codes "spawn") h now line
IsEvent line (Line h inc told) = OfLine h inc told line
IsEvent line (Take h inc) = OfHelper (codes "take") h inc line
IsEvent line (Deaf h inc) = OfHelper (codes "deaf") h inc line
IsEvent line (Gone h inc) = OfHelper (codes "gone") h inc line
IsEvent line (Peer n) = OfNeighbor (codes "peer") n line
IsEvent line (Up n caps) = OfUp n caps line
IsEvent line (Down n) = OfNeighbor (codes "down") n line
IsEvent line (Refresh n family) = OfRefresh n family line
IsEvent line (Cut n) = OfNeighbor (codes "cut") n line
IsEvent line (Drain n) = OfNeighbor (codes "drain") n line
IsEvent line Control = line ≡ codes "control"
IsEvent line (Reload path) = OfReload path line
