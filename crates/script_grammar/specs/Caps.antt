-- The capabilities that the words of an `up` line say.
use Rattle.std.specs.Prelude.{ℕ, ◌&&◌, ◌||◌, ◌==◌, not, Bool, true, false, codes, List, [], ◌∷◌, Option, Some, None}
use Rattle.std.specs.Prelude.{if◌then◌else◌, bytes_eq, option_and_then}
use Rattle.route_values.specs.Caps.{Caps, flags}
use Rattle.script_grammar.specs.declared.caps.Said.{Said}
use Rattle.script_grammar.specs.declared.names.Cap.{Cap}
use Rattle.script_grammar.specs.declared.names.Cap.TheVariants as cap

-- the word of each capability
abbrev pub cap_word : Cap → List ℕ
cap_word cap.Ipv4 = codes "ipv4"
cap_word cap.Ipv6 = codes "ipv6"
cap_word cap.Ipv4Path = codes "ipv4-path"
cap_word cap.Ipv6Path = codes "ipv6-path"
cap_word cap.Extended = codes "extended"

abbrev pub all_caps : List Cap
all_caps = cap.Ipv4 ∷ cap.Ipv6 ∷ cap.Ipv4Path ∷ cap.Ipv6Path ∷ cap.Extended ∷ []

-- the first of some capabilities that a word is
abbrev pub first_cap : List Cap → List ℕ → Option Cap
first_cap [] word = None
first_cap (which ∷ others) word = if bytes_eq word (cap_word which) then Some which else first_cap others word

-- the capability that a word is
unfoldable pub cap_in : List ℕ → Option Cap
cap_in word = first_cap all_caps word

-- nothing was said
abbrev pub nothing_said : Said
nothing_said = record { ipv4 = false; ipv6 = false; ipv4_path = false; ipv6_path = false; extended = false }

-- whether a capability was said
abbrev pub has_cap : Said → Cap → Bool
has_cap said cap.Ipv4 = said.ipv4
has_cap said cap.Ipv6 = said.ipv6
has_cap said cap.Ipv4Path = said.ipv4_path
has_cap said cap.Ipv6Path = said.ipv6_path
has_cap said cap.Extended = said.extended

-- what was said with one more capability
abbrev pub with_cap : Said → Cap → Said
with_cap said cap.Ipv4 = record said { ipv4 = true }
with_cap said cap.Ipv6 = record said { ipv6 = true }
with_cap said cap.Ipv4Path = record said { ipv4_path = true }
with_cap said cap.Ipv6Path = record said { ipv6_path = true }
with_cap said cap.Extended = record said { extended = true }

-- one more capability, which wasn't said before
unfoldable pub say_cap : Said → Cap → Option Said
say_cap said which = if has_cap said which then None else Some (with_cap said which)

-- whether the path words stand with their families alone
abbrev pub are_kept : Said → Bool
are_kept said = (not said.ipv4_path || said.ipv4) && (not said.ipv6_path || said.ipv6)

-- the capabilities that were said
abbrev pub caps_of : Said → Caps
caps_of said = flags said.ipv4 said.ipv6 said.ipv4_path said.ipv6_path said.extended

-- those that were said, where they are kept
unfoldable pub caps_kept : Said → Option Caps
caps_kept said = if are_kept said then Some (caps_of said) else None

-- one more word
unfoldable pub say_word : Said → List ℕ → Option Said
say_word said word = option_and_then (say_cap said) (cap_in word)

-- what was said with some more words
abbrev pub say_words : Said → List (List ℕ) → Option Said
say_words said [] = Some said
say_words said (word ∷ words) = option_and_then (λ more. say_words more words) (say_word said word)

-- a byte put at the front of the first of some words
abbrev pub onto_first : ℕ → List (List ℕ) → List (List ℕ)
onto_first b [] = (b ∷ []) ∷ []
onto_first b (word ∷ words) = (b ∷ word) ∷ words

-- the words that single spaces part, of which there is at least one
unfoldable pub words_between : List ℕ → List (List ℕ)
words_between [] = [] ∷ []
words_between (b ∷ bs) = if b == 32 then [] ∷ words_between bs else onto_first b (words_between bs)

-- the capabilities that a text says
unfoldable pub caps_in : List ℕ → Option Caps
caps_in text = option_and_then caps_kept (say_words nothing_said (words_between text))
