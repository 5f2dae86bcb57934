-- The words of a session's capabilities.
use Rattle.std.specs.Prelude.{ℕ, ◌≡◌, ◌==◌, ◌+◌, ◌&&◌, ◌||◌, not, Bool, true, codes, List, length, if◌then◌else◌}
use Rattle.std.specs.List.{list_any}
use Rattle.std.specs.Str.{bytes_eq}
use Rattle.route_values.specs.declared.addr.Family.{Family}
use Rattle.route_values.specs.declared.addr.Family.TheVariants.{Ipv4, Ipv6}
use Rattle.route_values.specs.Caps.{Caps, no_caps, with_family, with_extended}

-- whether a word stands among words
abbrev pub stands : List ℕ → List (List ℕ) → Bool
stands word words = list_any (bytes_eq word) words

-- one for what is so
abbrev pub one_if : Bool → ℕ
one_if is = if is then 1 else 0

-- how many words of capabilities stand among words
abbrev pub named : List (List ℕ) → ℕ
named words =
    one_if (stands (codes "ipv4") words) + one_if (stands (codes "ipv6") words)
    + one_if (stands (codes "ipv4-path") words) + one_if (stands (codes "ipv6-path") words)
    + one_if (stands (codes "extended") words)

-- whether a family's path word stands only where the family's word does
abbrev pub is_with_family : List ℕ → List ℕ → List (List ℕ) → Bool
is_with_family name path words = stands name words || not (stands path words)

-- Whether so many words spell capabilities: one or more, path identifiers only with their family, and as many words
-- as capabilities that stand among them, so that none stands twice and none is another word.
abbrev pub spell_caps : ℕ → List (List ℕ) → Bool
spell_caps count words =
    not (count == 0) && (count == named words) && is_with_family (codes "ipv4") (codes "ipv4-path") words
    && is_with_family (codes "ipv6") (codes "ipv6-path") words

-- a family is carried where its word stands, with path identifiers where its path word does
abbrev pub with_words : Caps → Family → Bool → Bool → Caps
with_words caps family name path = if name then with_family caps family path else caps

-- messages may be long where that word stands
abbrev pub sized : Caps → Bool → Caps
sized caps extended = if extended then with_extended caps else caps

-- the capabilities that words name
abbrev pub caps_in : List (List ℕ) → Caps
caps_in words =
    let ipv4 = with_words no_caps Ipv4 (stands (codes "ipv4") words) (stands (codes "ipv4-path") words) in
    let both = with_words ipv4 Ipv6 (stands (codes "ipv6") words) (stands (codes "ipv6-path") words) in
    sized both (stands (codes "extended") words)

-- the capabilities that words spell
abbrev pub AreCaps : List (List ℕ) → Caps → Type 0
AreCaps words caps = (spell_caps (length words) words ≡ true) × (caps ≡ caps_in words)
