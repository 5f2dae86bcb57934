-- Words that one space parts are the tokens of their line.
use Rattle.std.proofs.Common.{ℕ, ◌≡◌, ◌≢◌, ◌<◌, ◌≤◌, ◌^◌, Bool, true, false, not, ◌||◌, List, []}
use Rattle.std.proofs.Common.{◌∷◌, ◌++◌}
use Rattle.std.proofs.Common.{length, map, nat_eq, codes, decimal, Some, None, refl, sym, ap, ap₂, subst}
use Rattle.std.proofs.Common.{arith}
use Rattle.std.proofs.Common.{ne_eqb, length-append, zero, suc}
use Rattle.std.specs.Char.{digit_value}
use Rattle.std.specs.List.{AllByRecursion, flat_map, list_all, list_any}
use Rattle.std.specs.Str.Parse.{AllDigits}
use Rattle.std.proofs.lemmas.Bool.{and_parts}
use Rattle.std.proofs.lemmas.Fmt.{decimal_is_IsNumeral, digits_is_IsNumeral}
use Rattle.route_values.specs.declared.addr.Addr.{Addr}
use Rattle.route_values.specs.declared.addr.Addr.TheVariants.{V4, V6}
use Rattle.route_values.specs.declared.attrs.Hop.{Hop}
use Rattle.route_values.specs.declared.attrs.Hop.TheVariants.{Own, Is}
use Rattle.route_values.specs.Prefix.{Block}
use Rattle.text_forms.specs.Printed.{addr_text, byte_at, group_at, group_text, ipv4_text, led_groups, prefix_text}
use Rattle.text_forms.proofs.PrintedLemmas.{led_groups-none, led_groups-step}
use Rattle.token_reader.specs.LineSpelling.{SpellsLine, blank, done, more, word}
use Rattle.token_reader.specs.LineTokens.{line_tokens}
use Rattle.token_reader.specs.Signs.{begins, is_line_word}
use Rattle.token_reader.specs.Tokens.{Token, Word}
use Rattle.token_reader.proofs.LineSpellingLemmas.{line_only}
use Rattle.health_core.specs.Printing.{hop_text, spaced}

-- bytes of a line's word, and one of them at least
abbrev pub AreOfWord : List ℕ → Type 0
AreOfWord text = AllByRecursion (λ b. is_line_word b ≡ true) text

pub record IsWhole (text : List ℕ) : Type 0 where
  pub some : 0 < length text
  pub bytes : AreOfWord text

-- LINES

spells_word : (text rest : List ℕ) (tokens : List Token) → IsWhole text → begins is_line_word rest ≡ false
    → SpellsLine rest tokens → SpellsLine (text ++ rest) (Word text ∷ tokens)
spells_word [] rest tokens is ends spells = absurd (omega (arith, is.some))
spells_word (b ∷ bs) rest tokens is ends spells =
    more (b ∷ bs) rest (Some (Word (b ∷ bs))) tokens (word b bs rest (record { all = is.bytes; ends = ends })) spells

-- words, each behind a space
behind : List (List ℕ) → List ℕ
behind words = flat_map (λ text. 32 ∷ text) words

ends_there : (words : List (List ℕ)) → begins is_line_word (behind words) ≡ false
unfolding behind
ends_there [] = refl
ends_there (text ∷ words) = refl

spells_others : (words : List (List ℕ)) → AllByRecursion IsWhole words → SpellsLine (behind words) (map Word words)
unfolding behind
spells_others [] all = done
spells_others (text ∷ words) (whole, all) =
    more (32 ∷ []) (text ++ behind words) None (Word text ∷ map Word words) (blank 32 (text ++ behind words) refl)
    (spells_word text (behind words) (map Word words) whole (ends_there words) (spells_others words all))

pub tokens_spaced : (first : List ℕ) (others : List (List ℕ)) → IsWhole first → AllByRecursion IsWhole others
    → Word first ∷ map Word others ≡ line_tokens 0 (spaced first others)
unfolding behind
tokens_spaced first others whole all =
    line_only (spaced first others) (Word first ∷ map Word others)
    (spells_word first (behind others) (map Word others) whole (ends_there others) (spells_others others all))

-- BYTES

not_any : (b : ℕ) (signs : List ℕ) → AllByRecursion (λ sign. b ≢ sign) signs → list_any (nat_eq b) signs ≡ false
not_any b [] apart = refl
not_any b (sign ∷ signs) (first, apart) =
    ap₂ (λ (one others : Bool). one || others) (ne_eqb b sign first) (not_any b signs apart)

no_digit : (b sign : ℕ) → digit_value b < 16 → digit_value sign ≡ 36 → b ≢ sign
no_digit b sign small is same = omega (arith, small, is, ap digit_value same)

digit_of_word : (b : ℕ) → digit_value b < 16 → is_line_word b ≡ true
digit_of_word b small =
    ap₂ (λ (blank mark : Bool). not (blank || mark))
    (not_any b (codes " \t") (no_digit b 32 small refl, (no_digit b 9 small refl, tt)))
    (not_any b (codes "[](),") (
      no_digit b 91 small refl,
      (
        no_digit b 93 small refl,
        (
          no_digit b 40 small refl,
          (
            no_digit b 41 small refl,
            (
              no_digit b 44 small refl,
              tt,
            ),
          ),
        ),
      ),
    ))

digits_of_word : (radix : ℕ) (digits : List ℕ) → radix ≤ 16 → AllDigits radix digits → AreOfWord digits
digits_of_word radix [] few all = tt
digits_of_word radix (digit ∷ digits) few (first, all) =
    (digit_of_word digit (omega (arith, few, first)), digits_of_word radix digits few all)

all_append : (front back : List ℕ) → AreOfWord front → AreOfWord back → AreOfWord (front ++ back)
all_append [] back first second = second
all_append (b ∷ front) back (is, first) second = (is, all_append front back first second)

-- a word, a sign that parts no words, and further bytes
joins : (front back : List ℕ) (sign : ℕ) → IsWhole front → is_line_word sign ≡ true → AreOfWord back
    → IsWhole (front ++ sign ∷ back)
joins front back sign whole is rest = record {
  some = omega (arith, whole.some, length-append front (sign ∷ back));
  bytes = all_append front (sign ∷ back) whole.bytes (is, rest);
}

tested : (text : List ℕ) → list_all is_line_word text ≡ true → AreOfWord text
tested [] is = tt
tested (b ∷ bs) is = let parts =
    and_parts (is_line_word b) (list_all is_line_word bs) is in (parts.0, tested bs parts.1)

-- a given word
pub given_whole : (text : List ℕ) → 0 < length text → list_all is_line_word text ≡ true → IsWhole text
given_whole text some is = record { some = some; bytes = tested text is }

-- NUMBERS, ADDRESSES AND PREFIXES

pub decimal_whole : (n : ℕ) → n < 2 ^ 64 → IsWhole (decimal n)
decimal_whole n small =
    let is = decimal_is_IsNumeral n small in
    record { some = is.0.0; bytes = digits_of_word 10 (decimal n) (omega arith) is.0.1 }

octet_whole : (k n : ℕ) → IsWhole (decimal (byte_at k n))
octet_whole k n = decimal_whole (byte_at k n) (omega arith)

ipv4_whole : (n : ℕ) → IsWhole (ipv4_text n)
ipv4_whole n =
    let last = octet_whole 0 n in
    let third = joins (decimal (byte_at 1 n)) (decimal (byte_at 0 n)) 46 (octet_whole 1 n) refl last.bytes in
    let second = joins (decimal (byte_at 2 n)) _ 46 (octet_whole 2 n) refl third.bytes in
    joins (decimal (byte_at 3 n)) _ 46 (octet_whole 3 n) refl second.bytes

group_whole : (group : ℕ) → group < 65536 → IsWhole (group_text group)
group_whole group small =
    let is = digits_is_IsNumeral 16 false (omega arith) (omega arith) group (omega arith) in
    record { some = is.0.0; bytes = digits_of_word 16 (group_text group) (omega arith) is.0.1 }

led_of_word : (k n : ℕ) → AreOfWord (led_groups k n)
led_of_word zero n = subst AreOfWord (sym (led_groups-none n)) tt
led_of_word (suc k) n =
    subst AreOfWord (sym (led_groups-step k n)) (
      refl,
      all_append (group_text (group_at k n)) (led_groups k n)
          (group_whole (group_at k n) (omega arith)).bytes (led_of_word k n),
    )

ipv6_whole : (n : ℕ) → IsWhole (group_text (group_at 7 n) ++ led_groups 7 n)
ipv6_whole n =
    let first = group_whole (group_at 7 n) (omega arith) in
    record {
      some = omega (arith, first.some, length-append (group_text (group_at 7 n)) (led_groups 7 n));
      bytes = all_append (group_text (group_at 7 n)) (led_groups 7 n) first.bytes (led_of_word 7 n);
    }

addr_whole : (addr : Addr) → IsWhole (addr_text addr)
addr_whole (V4 n) = ipv4_whole n
addr_whole (V6 n) = ipv6_whole n

pub hop_whole : (hop : Hop) → IsWhole (hop_text hop)
hop_whole Own = given_whole (codes "self") (omega arith) refl
hop_whole (Is addr) = addr_whole addr

pub prefix_whole : (block : Block) → block.len < 2 ^ 64 → IsWhole (prefix_text block)
prefix_whole block small =
    joins (addr_text block.addr) (decimal block.len) 47 (addr_whole block.addr) refl (decimal_whole block.len
    small).bytes
