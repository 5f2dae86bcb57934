-- A key that bytes spell is a prefix with an identifier of 32 bits, and of the family that it is spelled for.
use Rattle.std.proofs.Common.{ℕ, ◌≡◌, ◌-◌, ◌*◌, ◌/◌, ◌^◌, ◌<◌, ◌≤◌, Bool, true, false, List, [], ◌∷◌, refl, sym, ap}
use Rattle.std.proofs.Common.{◌∙◌}
use Rattle.std.proofs.Common.{subst, arith}
use Rattle.std.specs.List.{AllByRecursion}
use Rattle.std.specs.Int.{w32, w128, from_be_bytes}
use Rattle.std.proofs.Math.Nat.{div-mul-le_self, mul-mod_left}
use Rattle.route_values.specs.declared.addr.Addr.{Addr}
use Rattle.route_values.specs.declared.addr.Family.{Family}
use Rattle.route_values.specs.declared.addr.Family.TheVariants.{Ipv4, Ipv6}
use Rattle.route_values.specs.declared.key.Key.{Key}
use Rattle.route_values.specs.Addr.{family_of, bits_of}
use Rattle.route_values.specs.Key.{family_of_key}
use Rattle.route_values.specs.Prefix.{IsPrefix}
use Rattle.update_grammar.specs.Laws.{AreBytes}
use Rattle.update_grammar.specs.Pieces.{SpellsEach}
use Rattle.update_grammar.specs.Prefixes.{addr_from, first_bits, SpellsId, SpellsKey}
use Rattle.update_grammar.proofs.ByteLemmas.{bytes_front, bytes_behind, bytes_rest, wide32}
use Rattle.update_grammar.proofs.SixteenLemmas.{wide128}
use Rattle.text_printer.specs.Laws.{IsKey}

-- the first bits of a number are no more than it
first_below : (width bits n : ℕ) → n < 2 ^ width → first_bits width bits n < 2 ^ width
first_below width bits n small =
    let less : n / 2 ^ (width - bits) * 2 ^ (width - bits) ≤ n = div-mul-le_self n (2 ^ (width - bits)) in
    omega (arith, less, small)

addr_is : (family : Family) (bits : ℕ) (field : List ℕ) → AreBytes field → bits ≤ bits_of family
    → IsPrefix (addr_from family bits field) bits
addr_is Ipv4 bits field are short = record {
  fits = first_below 32 bits (from_be_bytes w32 field) (wide32.below field are);
  short = short;
  zeros = mul-mod_left (from_be_bytes w32 field / 2 ^ (32 - bits)) (2 ^ (32 - bits));
}
addr_is Ipv6 bits field are short = record {
  fits = first_below 128 bits (from_be_bytes w128 field) (wide128.below field are);
  short = short;
  zeros = mul-mod_left (from_be_bytes w128 field / 2 ^ (128 - bits)) (2 ^ (128 - bits));
}

addr_of : (family : Family) (bits : ℕ) (field : List ℕ) → family_of (addr_from family bits field) ≡ family
addr_of Ipv4 bits field = refl
addr_of Ipv6 bits field = refl

id_is : (path : Bool) (text : List ℕ) (id : ℕ) → SpellsId path text id → id < 2 ^ 32
id_is true text id spelled = spelled.1
id_is false text id spelled = let none = spelled.1 in omega (arith, none)

-- a key of this family
pub record IsKeyOf (family : Family) (key : Key) : Type 0 where
  pub key_is : IsKey key
  pub of_family : family_of_key key ≡ family

pub key_of : (path : Bool) (family : Family) (text : List ℕ) (key : Key) → AreBytes text
    → SpellsKey path family text key → IsKeyOf family key
key_of path family text key are spelled =
    let block = spelled.4 in
    let behind : AreBytes spelled.1 = bytes_behind spelled.0 spelled.1 (subst AreBytes spelled.2 are) in
    let field : AreBytes block.0 = bytes_rest key.prefix.len block.0 (subst AreBytes block.1 behind) in
    record {
      key_is = record {
        prefix = subst (λ (addr : Addr). IsPrefix addr key.prefix.len) (sym block.4)
            (addr_is family key.prefix.len block.0 field block.2);
        id = id_is path spelled.0 key.id spelled.3;
      };
      of_family = ap family_of block.4 ∙ addr_of family key.prefix.len block.0;
    }

pub keys_of : (path : Bool) (family : Family) (text : List ℕ) (keys : List Key) → AreBytes text
    → SpellsEach (SpellsKey path family) text keys → AllByRecursion (IsKeyOf family) keys
keys_of path family text [] are spelled = tt
keys_of path family text (key ∷ keys) are (front, rest, is, first, others) =
    let all = subst AreBytes is are in (
      key_of path family front key (bytes_front front rest all) first,
      keys_of path family rest keys (bytes_behind front rest all) others,
    )

-- what holds of the keys of a family holds of keys
pub any_keys : (family : Family) (keys : List Key) → AllByRecursion (IsKeyOf family) keys → AllByRecursion IsKey keys
any_keys family [] are = tt
any_keys family (key ∷ keys) are = let first = are.0 in (first.key_is, any_keys family keys are.1)
