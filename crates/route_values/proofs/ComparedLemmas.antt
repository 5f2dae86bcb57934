-- The derived tests of prefixes and keys are the definitions', and so is their derived order. A crate whose map has
-- such keys carries what the map says over to the definitions by `subst` along these paths.
use Rattle.std.proofs.Common.{ℕ, ◌≡◌, ◌==◌, ◌&&◌, [], refl, sym, ap, ◌∙◌, replicate}
use Rattle.std.specs.Prelude.{nat_eq}
use Rattle.std.specs.Cmp.{unsigned_tied}
use Rattle.std.specs.Cmp.Lexicographic.{pointwise, slice_cmp, texts_ties}
use Rattle.std.specs.Ordering.{nat_cmp, is_eq, ordering_then}
use Rattle.std.proofs.lemmas.List.{append-nil}
use Rattle.route_values.specs.declared.addr.Addr.{Addr}
use Rattle.route_values.specs.declared.addr.Addr.TheVariants.{V4, V6}
use Rattle.route_values.specs.declared.key.Key.{Key}
use Rattle.route_values.specs.contracts.prefix.PrefixPartialEq.TheImpl.{ghosts as prefix_test}
use Rattle.route_values.specs.contracts.prefix.PrefixOrd.TheImpl.{ghosts as prefix_order}
use Rattle.route_values.specs.contracts.key.KeyPartialEq.TheImpl.{ghosts as key_test}
use Rattle.route_values.specs.contracts.key.KeyOrd.TheImpl.{ghosts as key_order}
use Rattle.route_values.specs.Key.{same_block, same_key}
use Rattle.route_values.specs.Octets.{octets_of, places}
use Rattle.route_values.specs.Order.{block_cmp, key_cmp}
use Rattle.route_values.specs.Prefix.{Block}
use Rattle.route_values.proofs.OctetsLemmas.{places_by}

-- ---- the bytes that hold two addresses of one family

four_cmp : (m n : ℕ) → slice_cmp nat_cmp (octets_of (V4 m)) (octets_of (V4 n)) ≡ nat_cmp m n
unfolding octets_of
four_cmp m n = places_by 3 m n (replicate 12 0) refl

sixteen_cmp : (m n : ℕ) → slice_cmp nat_cmp (octets_of (V6 m)) (octets_of (V6 n)) ≡ nat_cmp m n
unfolding octets_of
sixteen_cmp m n =
    sym (λ i. slice_cmp nat_cmp (append-nil (places 15 m) i) (append-nil (places 15 n) i)) ∙ places_by 15 m n [] refl

four_eq : (m n : ℕ) → pointwise nat_eq (octets_of (V4 m)) (octets_of (V4 n)) ≡ (m == n)
four_eq m n = texts_ties (octets_of (V4 m)) (octets_of (V4 n)) ∙ ap is_eq (four_cmp m n) ∙ unsigned_tied m n

sixteen_eq : (m n : ℕ) → pointwise nat_eq (octets_of (V6 m)) (octets_of (V6 n)) ≡ (m == n)
sixteen_eq m n = texts_ties (octets_of (V6 m)) (octets_of (V6 n)) ∙ ap is_eq (sixteen_cmp m n) ∙ unsigned_tied m n

-- ---- tests

abbrev block : Addr → ℕ → Block
block addr len = record { addr = addr; len = len }

parts_tested : (a b : Addr) (m n : ℕ) → prefix_test.eq (block a m) (block b n) ≡ same_block (block a m) (block b n)
parts_tested (V4 a) (V4 b) m n = ap (λ same. same && (m == n)) (four_eq a b)
parts_tested (V4 a) (V6 b) m n = refl
parts_tested (V6 a) (V4 b) m n = refl
parts_tested (V6 a) (V6 b) m n = ap (λ same. same && (m == n)) (sixteen_eq a b)

-- the derived `==` of prefixes tells whether they are the same
pub prefix_tested : (a b : Block) → prefix_test.eq a b ≡ same_block a b
prefix_tested a b = parts_tested a.addr b.addr a.len b.len

pub prefix_tests : prefix_test.eq ≡ same_block
prefix_tests = λ i a b. prefix_tested a b i

-- and that of keys
pub key_tested : (a b : Key) → key_test.eq a b ≡ same_key a b
key_tested a b = ap (λ same. same && (a.id == b.id)) (prefix_tested a.prefix b.prefix)

pub key_tests : key_test.eq ≡ same_key
key_tests = λ i a b. key_tested a b i

-- ---- order

parts_ordered : (a b : Addr) (m n : ℕ) → prefix_order.cmp (block a m) (block b n) ≡ block_cmp (block a m) (block b n)
parts_ordered (V4 a) (V4 b) m n = ap (λ order. ordering_then order (nat_cmp m n)) (four_cmp a b)
parts_ordered (V4 a) (V6 b) m n = refl
parts_ordered (V6 a) (V4 b) m n = refl
parts_ordered (V6 a) (V6 b) m n = ap (λ order. ordering_then order (nat_cmp m n)) (sixteen_cmp a b)

-- prefixes are ordered as the definition says
pub prefix_ordered : (a b : Block) → prefix_order.cmp a b ≡ block_cmp a b
prefix_ordered a b = parts_ordered a.addr b.addr a.len b.len

pub prefix_orders : prefix_order.cmp ≡ block_cmp
prefix_orders = λ i a b. prefix_ordered a b i

-- and so are keys
pub key_ordered : (a b : Key) → key_order.cmp a b ≡ key_cmp a b
key_ordered a b = ap (λ order. ordering_then order (nat_cmp a.id b.id)) (prefix_ordered a.prefix b.prefix)

pub key_orders : key_order.cmp ≡ key_cmp
key_orders = λ i a b. key_ordered a b i
