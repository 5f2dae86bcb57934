-- The tests of keys tell them apart.
use Rattle.std.proofs.Common.{ℕ, ◌≡◌, ◌==◌, true, ap, refl, ◌∙◌}
use Rattle.std.proofs.lemmas.Bool.{eqb-true, eq-eqb, and_parts, and_from}
use Rattle.route_values.specs.declared.addr.Addr.{Addr}
use Rattle.route_values.specs.declared.addr.Addr.TheVariants.{V4, V6}
use Rattle.route_values.specs.declared.key.Key.{Key}
use Rattle.route_values.specs.Prefix.{Block}
use Rattle.route_values.specs.Key.{same_addr, same_block, same_key}

pub same_addr_is : (a b : Addr) → same_addr a b ≡ true → a ≡ b
same_addr_is (V4 m) (V4 n) h = ap (λ k. V4 k) (eqb-true m n h)
same_addr_is (V4 m) (V6 n) h = cc
same_addr_is (V6 m) (V4 n) h = cc
same_addr_is (V6 m) (V6 n) h = ap (λ k. V6 k) (eqb-true m n h)

pub same_addr-self : (a : Addr) → same_addr a a ≡ true
same_addr-self (V4 n) = eq-eqb n n refl
same_addr-self (V6 n) = eq-eqb n n refl

abbrev block : ℕ → Addr → Block
block len addr = record { addr = addr; len = len }

abbrev key : ℕ → Block → Key
key id prefix = record { prefix = prefix; id = id }

pub same_block_is : (a b : Block) → same_block a b ≡ true → a ≡ b
same_block_is a b h =
    let parts = and_parts (same_addr a.addr b.addr) (a.len == b.len) h in
    let addrs = same_addr_is a.addr b.addr parts.0 in
    let lens = eqb-true a.len b.len parts.1 in
    ap (block a.len) addrs ∙ ap (λ n. block n b.addr) lens

pub same_block-self : (a : Block) → same_block a a ≡ true
same_block-self a = and_from (same_addr a.addr a.addr) (a.len == a.len) (same_addr-self a.addr)
    (eq-eqb a.len a.len refl)

pub same_key_is : (a b : Key) → same_key a b ≡ true → a ≡ b
same_key_is a b h =
    let parts = and_parts (same_block a.prefix b.prefix) (a.id == b.id) h in
    let blocks = same_block_is a.prefix b.prefix parts.0 in
    let ids = eqb-true a.id b.id parts.1 in
    ap (key a.id) blocks ∙ ap (λ n. key n b.prefix) ids

pub same_key-self : (a : Key) → same_key a a ≡ true
same_key-self a = and_from (same_block a.prefix a.prefix) (a.id == a.id) (same_block-self a.prefix)
    (eq-eqb a.id a.id refl)
