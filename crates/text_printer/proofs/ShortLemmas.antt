-- How many bytes the words of values have at most. None is longer than a prefix of IPv6.
use Rattle.std.proofs.Common.{ℕ, zero, suc, ◌≡◌, ◌<◌, ◌≤◌, ◌+◌, ◌*◌, ◌^◌, ◌/◌, ◌%◌, List, ◌∷◌, ◌++◌, length, codes}
use Rattle.std.proofs.Common.{ap, arith, decimal}
use Rattle.std.proofs.lemmas.Fmt.{length-decimal-le}
use Rattle.std.proofs.lemmas.List.{length-append}
use Rattle.hex.specs.Hex.{lower_digits, encode_lower}
use Rattle.hex.proofs.HexLemmas.{length-encode_with}
use Rattle.route_values.specs.declared.addr.Addr.{Addr}
use Rattle.route_values.specs.declared.addr.Addr.TheVariants.{V4, V6}
use Rattle.route_values.specs.declared.attrs.Aggregator.{Aggregator}
use Rattle.route_values.specs.declared.attrs.Large.{Large}
use Rattle.route_values.specs.Prefix.{Block}
use Rattle.text_forms.specs.Printed.{byte_at, ipv4_text, group_at, group_text, led_groups, ipv6_text, addr_text}
use Rattle.text_forms.specs.Printed.{prefix_text}
use Rattle.text_forms.proofs.PrintedLemmas.{group_text-short, led_groups-none, led_groups-step}
use Rattle.update_grammar.specs.Values.{IsAggregator, IsLarge}
use Rattle.text_printer.specs.Items.{aggregator_text, community_text, extended_text, large_text}

-- two texts that a sign joins
joined_short : (sign : ℕ) (front back : List ℕ) (m n : ℕ) → length front ≤ m → length back ≤ n
    → length (front ++ sign ∷ back) ≤ m + 1 + n
joined_short sign front back m n first second = omega (arith, length-append front (sign ∷ back), first, second)

part_short : (part : ℕ) → part < 1000 → length (decimal part) ≤ 3
part_short part small = length-decimal-le 3 part (omega arith) (omega (arith, small)) (omega (arith, small))

half_short : (half : ℕ) → half < 65536 → length (decimal half) ≤ 5
half_short half small = length-decimal-le 5 half (omega arith) (omega (arith, small)) (omega (arith, small))

pub number_short : (number : ℕ) → number < 2 ^ 32 → length (decimal number) ≤ 10
number_short number small =
    length-decimal-le 10 number (omega arith) (omega (arith, small)) (omega (arith, small))

pub ipv4_short : (n : ℕ) → length (ipv4_text n) ≤ 15
ipv4_short n =
    let last = part_short (byte_at 0 n) (omega arith) in
    let third = joined_short 46 (decimal (byte_at 1 n)) (decimal (byte_at 0 n)) 3 3
    (part_short (byte_at 1 n) (omega arith)) last in
    let second = joined_short 46 (decimal (byte_at 2 n)) _ 3 7 (part_short (byte_at 2 n) (omega arith)) third in
    joined_short 46 (decimal (byte_at 3 n)) _ 3 11 (part_short (byte_at 3 n) (omega arith)) second

led_short : (k n : ℕ) → length (led_groups k n) ≤ 5 * k
led_short zero n = omega (arith, ap length (led_groups-none n))
led_short (suc k) n =
    let group = group_text-short (group_at k n) (omega arith) in
    let rest = led_short k n in
    omega (
      arith,
      ap length (led_groups-step k n),
      length-append (group_text (group_at k n)) (led_groups k n),
      group,
      rest,
    )

ipv6_short : (n : ℕ) → length (ipv6_text n) ≤ 39
ipv6_short n =
    let first = group_text-short (group_at 7 n) (omega arith) in
    omega (arith, length-append (group_text (group_at 7 n)) (led_groups 7 n), first, led_short 7 n)

pub addr_short : (addr : Addr) → length (addr_text addr) ≤ 39
addr_short (V4 n) = let short = ipv4_short n in omega (arith, short)
addr_short (V6 n) = ipv6_short n

pub prefix_short : (block : Block) → block.len < 129 → length (prefix_text block) ≤ 43
prefix_short block short =
    joined_short 47 (addr_text block.addr) (decimal block.len) 39 3 (addr_short block.addr)
    (part_short block.len (omega (arith, short)))

pub community_short : (number : ℕ) → number < 2 ^ 32 → length (community_text number) ≤ 11
community_short number small =
    joined_short 58 (decimal (number / 65536)) (decimal (number % 65536)) 5 5
    (half_short (number / 65536) (omega (arith, small))) (half_short (number % 65536) (omega arith))

pub aggregator_short : (by : Aggregator) → IsAggregator by → length (aggregator_text by) ≤ 26
aggregator_short by is =
    joined_short 58 (decimal by.asn) (ipv4_text by.addr) 10 15 (number_short by.asn is.asn) (ipv4_short by.addr)

pub large_short : (large : Large) → IsLarge large → length (large_text large) ≤ 32
large_short large is =
    joined_short 58 (decimal large.global) _ 10 21 (number_short large.global is.global)
    (joined_short 58 (decimal large.first) (decimal large.second) 10 10 (number_short large.first is.first)
    (number_short large.second is.second))

pub extended_short : (bytes : List ℕ) → length bytes ≡ 8 → length (extended_text bytes) ≤ 18
extended_short bytes len =
    omega (
      arith,
      length-append (codes "0x") (encode_lower bytes),
      length-encode_with lower_digits bytes,
      len,
    )
