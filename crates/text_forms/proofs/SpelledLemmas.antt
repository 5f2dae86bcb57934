-- What is printed of an address or a prefix spells it.
use Rattle.std.proofs.Common.{ℕ, zero, suc, ◌≡◌, ◌<◌, ◌≤◌, ◌+◌, ◌*◌, ◌^◌, ◌/◌, ◌%◌, false, List, [], ◌∷◌, ◌++◌, length}
use Rattle.std.proofs.Common.{arith, ap, sym, ◌∙◌, refl, subst, inl, append-nil}
use Rattle.std.proofs.lemmas.Fmt.{digits_is_IsNumeral}
use Rattle.std.specs.Int.Digits.{number_from_digits}
use Rattle.std.specs.Str.Parse.{IsNumeral, digits_value}
use Rattle.route_values.specs.declared.addr.Addr.{Addr}
use Rattle.route_values.specs.declared.addr.Addr.TheVariants.{V4, V6}
use Rattle.route_values.specs.Addr.{number_of, width_of}
use Rattle.route_values.specs.Prefix.{Block, IsPrefix}
use Rattle.text_forms.specs.Addresses.{IsIpv4}
use Rattle.text_forms.specs.Families.{IsAddrText, IsBlockText}
use Rattle.text_forms.specs.Ipv6.{IsGroup, AreColoned, IsIpv6}
use Rattle.text_forms.specs.Printed.{byte_at, ipv4_text, group_at, group_text, led_groups, ipv6_text, addr_text}
use Rattle.text_forms.specs.Printed.{prefix_text}
use Rattle.text_forms.proofs.PrintedLemmas.{led_groups-none, led_groups-step, group_text-short}

ipv4_spelled : (n : ℕ) → n < 2 ^ 32 → IsIpv4 (ipv4_text n) n
ipv4_spelled n small = record {
  first = byte_at 3 n;
  second = byte_at 2 n;
  third = byte_at 1 n;
  fourth = byte_at 0 n;
  first_small = omega arith;
  second_small = omega arith;
  third_small = omega arith;
  fourth_small = omega arith;
  text_is = refl;
  value = omega arith;
}

group_spelled : (group : ℕ) → group < 65536 → IsGroup (group_text group) group
group_spelled group small =
    let read = digits_is_IsNumeral 16 false (omega arith) (omega arith) group (omega arith) in
    record { numeral = read.0; short = group_text-short group small; value = sym read.1 }

-- the groups of a number before its last k, and that before its last
firsts : ℕ → ℕ → List ℕ
firsts zero n = []
firsts (suc k) n = group_at (suc k) n ∷ firsts k n

firsts_coloned : (k n : ℕ)
    → AreColoned (group_text (group_at k n) ++ led_groups k n) (firsts k n) (group_text (group_at 0 n))
unfolding firsts
firsts_coloned zero n =
    ap (λ (more : List ℕ). group_text (group_at 0 n) ++ more) (led_groups-none n)
    ∙ append-nil (group_text (group_at 0 n))
firsts_coloned (suc k) n = (
  group_text (group_at (suc k) n),
  group_text (group_at k n) ++ led_groups k n,
  ap (λ (more : List ℕ). group_text (group_at (suc k) n) ++ more) (led_groups-step k n),
  group_spelled (group_at (suc k) n) (omega arith),
  firsts_coloned k n,
)

-- a number is its eight groups
eight_groups : (n a b c d e f g : ℕ) → a ≡ n / 65536 → b ≡ a / 65536 → c ≡ b / 65536 → d ≡ c / 65536
    → e ≡ d / 65536 → f ≡ e / 65536 → g ≡ f / 65536 → g < 65536
    → n ≡ ((((((g * 65536 + f % 65536) * 65536 + e % 65536) * 65536 + d % 65536) * 65536 + c % 65536) * 65536
    + b % 65536) * 65536 + a % 65536) * 65536 + n % 65536
eight_groups n a b c d e f g a_is b_is c_is d_is e_is f_is g_is small = omega arith

firsts_spell : (n : ℕ) → n < 2 ^ 128 → n ≡ number_from_digits 65536 (firsts 7 n ++ group_at 0 n ∷ [])
unfolding firsts
firsts_spell n small =
    let whole = eight_groups n (n / 2 ^ 16) (n / 2 ^ 32) (n / 2 ^ 48) (n / 2 ^ 64) (n / 2 ^ 80) (n / 2 ^ 96)
    (n / 2 ^ 112)
    (omega arith) (omega arith) (omega arith) (omega arith) (omega arith) (omega arith) (omega arith) (omega arith) in
    omega (arith, whole)

ipv6_spelled : (n : ℕ) → n < 2 ^ 128 → IsIpv6 (ipv6_text n) n
unfolding firsts
ipv6_spelled n small =
    inl (
      firsts 7 n ++ group_at 0 n ∷ [],
      record {
        first = firsts 7 n;
        last = group_at 0 n ∷ [];
        rest = group_text (group_at 0 n);
        coloned = firsts_coloned 7 n;
        end = group_spelled (group_at 0 n) (omega arith);
        groups_are = refl;
      },
      (refl, firsts_spell n small),
    )

pub addr_spelled : (addr : Addr) → number_of addr < 2 ^ width_of addr → IsAddrText (addr_text addr) addr
addr_spelled (V4 n) fits = ipv4_spelled n fits
addr_spelled (V6 n) fits = ipv6_spelled n fits

pub block_spelled : (block : Block) → IsPrefix block.addr block.len → IsBlockText (prefix_text block) block
block_spelled block canonical = record {
  canonical = canonical;
  spelled = inl (record {
    front = addr_text block.addr;
    front_is = addr_spelled block.addr canonical.fits;
    text_is = refl;
  });
}
