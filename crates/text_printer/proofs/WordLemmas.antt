-- The words of values are words of a line.
use Rattle.std.proofs.Common.{ℕ, zero, suc, ◌<◌, ◌^◌, ◌/◌, ◌%◌, List, [], ◌∷◌, ◌++◌, codes}
use Rattle.std.proofs.Common.{sym, refl, subst, arith, decimal, get_or}
use Rattle.std.proofs.lemmas.List.Elements.{All-from_recursion}
use Rattle.hex.specs.Hex.{lower_digits, encode_with}
use Rattle.route_values.specs.declared.addr.Addr.{Addr}
use Rattle.route_values.specs.declared.addr.Addr.TheVariants.{V4, V6}
use Rattle.route_values.specs.declared.attrs.Aggregator.{Aggregator}
use Rattle.route_values.specs.declared.attrs.Large.{Large}
use Rattle.route_values.specs.declared.attrs.Origin.{Origin}
use Rattle.route_values.specs.declared.attrs.Origin.TheVariants.{Igp, Egp, Incomplete}
use Rattle.route_values.specs.Prefix.{Block}
use Rattle.text_forms.specs.Printed.{byte_at, ipv4_text, group_at, group_text, led_groups, ipv6_text, addr_text}
use Rattle.text_forms.specs.Printed.{prefix_text}
use Rattle.text_forms.proofs.PrintedLemmas.{led_groups-none, led_groups-step}
use Rattle.update_grammar.specs.Values.{IsAggregator, IsLarge}
use Rattle.text_printer.specs.Items.{origin_text, aggregator_text, community_text, extended_text, large_text}
use Rattle.text_printer.specs.Laws.{AreBytes}
use Rattle.text_printer.proofs.ByteLemmas.{all_bytes, given_word, decimal_text, hexadecimal_text, bytes_append}
use Rattle.text_printer.proofs.ByteLemmas.{joined_text}
use Rattle.text_printer.proofs.ExtendedLemmas.{IsEight}
use Rattle.text_printer.proofs.ShortLemmas.{number_short, ipv4_short, addr_short, prefix_short, community_short}
use Rattle.text_printer.proofs.ShortLemmas.{aggregator_short, large_short, extended_short}
use Rattle.text_printer.proofs.TokenLemmas.{IsWordByte, AreWordBytes, IsWordText, IsShortWord}

ipv4_text_is : (n : ℕ) → IsWordText (ipv4_text n)
ipv4_text_is n =
    let last : IsWordText (decimal (byte_at 0 n)) = decimal_text (byte_at 0 n) (omega arith) in
    let third = joined_text 46 (decimal (byte_at 1 n)) (decimal (byte_at 0 n)) refl
    (decimal_text (byte_at 1 n) (omega arith)) last.bytes in
    let second = joined_text 46 (decimal (byte_at 2 n)) _ refl (decimal_text (byte_at 2 n) (omega arith)) third.bytes in
    joined_text 46 (decimal (byte_at 3 n)) _ refl (decimal_text (byte_at 3 n) (omega arith)) second.bytes

group_text_is : (k n : ℕ) → IsWordText (group_text (group_at k n))
group_text_is k n = hexadecimal_text (group_at k n) (omega arith)

led_bytes : (k n : ℕ) → AreWordBytes (led_groups k n)
led_bytes zero n = subst AreWordBytes (sym (led_groups-none n)) tt
led_bytes (suc k) n =
    let group : IsWordText (group_text (group_at k n)) = group_text_is k n in
    subst AreWordBytes (sym (led_groups-step k n))
    (refl, bytes_append (group_text (group_at k n)) (led_groups k n) group.bytes (led_bytes k n))

-- a word, and bytes that go on with it
longer_text : (front back : List ℕ) → IsWordText front → AreWordBytes back → IsWordText (front ++ back)
longer_text [] back first second = let filled = first.filled in absurd (omega arith)
longer_text (b ∷ front) back first second =
    record { filled = omega arith; bytes = bytes_append (b ∷ front) back first.bytes second }

ipv6_text_is : (n : ℕ) → IsWordText (ipv6_text n)
ipv6_text_is n = longer_text (group_text (group_at 7 n)) (led_groups 7 n) (group_text_is 7 n) (led_bytes 7 n)

addr_text_is : (addr : Addr) → IsWordText (addr_text addr)
addr_text_is (V4 n) = ipv4_text_is n
addr_text_is (V6 n) = ipv6_text_is n

-- ---- words, no longer than they may be

pub ipv4_word : (n : ℕ) → IsShortWord (ipv4_text n)
ipv4_word n = let few = ipv4_short n in record { text_is = ipv4_text_is n; short = omega (arith, few) }

pub addr_word : (addr : Addr) → IsShortWord (addr_text addr)
addr_word addr = let few = addr_short addr in record { text_is = addr_text_is addr; short = omega (arith, few) }

pub number_word : (number : ℕ) → number < 2 ^ 32 → IsShortWord (decimal number)
number_word number small =
    let few = number_short number small in
    record { text_is = decimal_text number (omega (arith, small)); short = omega (arith, few) }

pub prefix_word : (block : Block) → block.len < 129 → IsShortWord (prefix_text block)
prefix_word block short =
    let len : IsWordText (decimal block.len) = decimal_text block.len (omega (arith, short)) in
    record {
      text_is = joined_text 47 (addr_text block.addr) (decimal block.len) refl (addr_text_is block.addr) len.bytes;
      short = prefix_short block short;
    }

pub origin_word : (origin : Origin) → IsShortWord (origin_text origin)
origin_word Igp = given_word (codes "igp") refl refl
origin_word Egp = given_word (codes "egp") refl refl
origin_word Incomplete = given_word (codes "incomplete") refl refl

pub community_word : (number : ℕ) → number < 2 ^ 32 → IsShortWord (community_text number)
community_word number small =
    let low : IsWordText (decimal (number % 65536)) = decimal_text (number % 65536) (omega arith) in
    let few = community_short number small in
    record {
      text_is = joined_text 58 (decimal (number / 65536)) (decimal (number % 65536)) refl
          (decimal_text (number / 65536) (omega arith)) low.bytes;
      short = omega (arith, few);
    }

pub aggregator_word : (by : Aggregator) → IsAggregator by → IsShortWord (aggregator_text by)
aggregator_word by is =
    let small = is.asn in
    let addr : IsWordText (ipv4_text by.addr) = ipv4_text_is by.addr in
    let few = aggregator_short by is in
    record {
      text_is = joined_text 58 (decimal by.asn) (ipv4_text by.addr) refl (decimal_text by.asn (omega arith)) addr.bytes;
      short = omega (arith, few);
    }

pub large_word : (large : Large) → IsLarge large → IsShortWord (large_text large)
large_word large is =
    let global_small = is.global in
    let first_small = is.first in
    let second_small = is.second in
    let last : IsWordText (decimal large.second) = decimal_text large.second (omega arith) in
    let behind : IsWordText (decimal large.first ++ 58 ∷ decimal large.second) =
    joined_text 58 (decimal large.first) (decimal large.second) refl (decimal_text large.first (omega arith))
    last.bytes in
    let few = large_short large is in
    record {
      text_is = joined_text 58 (decimal large.global) (decimal large.first ++ 58 ∷ decimal large.second) refl
          (decimal_text large.global (omega arith)) behind.bytes;
      short = omega (arith, few);
    }

lower_bytes : AreWordBytes lower_digits
lower_bytes = all_bytes lower_digits refl

lower_byte : (value : ℕ) → value < 16 → IsWordByte (get_or lower_digits value 0)
lower_byte value small = All-from_recursion IsWordByte lower_digits lower_bytes value 0 small

encoded_bytes : (bytes : List ℕ) → AreBytes bytes → AreWordBytes (encode_with lower_digits bytes)
unfolding encode_with
encoded_bytes [] are = tt
encoded_bytes (byte ∷ bytes) are =
    let small = are.0 in
    (lower_byte (byte / 16) (omega arith), (lower_byte (byte % 16) (omega arith), encoded_bytes bytes are.1))

pub extended_word : (bytes : List ℕ) → IsEight bytes → IsShortWord (extended_text bytes)
extended_word bytes eight =
    let few = extended_short bytes eight.len in
    record {
      text_is = record { filled = omega arith; bytes = (refl, (refl, encoded_bytes bytes eight.are)) };
      short = omega (arith, few);
    }
