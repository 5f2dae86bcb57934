-- Keys in their order. A list of keys that rises is told by what is named in it.
use Rattle.std.proofs.Common.{◌≡◌, ℕ, ◌+◌, ◌≤◌, suc, Bool, true, false, List, [], ◌∷◌, refl, sym, ap, ◌∙◌}
use Rattle.std.proofs.Common.{get_or, subst, arith}
use Rattle.std.specs.Prelude.{◌||◌, ⊤, filter, if◌then◌else◌}
use Rattle.std.specs.declared.cmp.Ordering.{Ordering}
use Rattle.std.specs.declared.cmp.Ordering.TheVariants.{Less, Equal, Greater}
use Rattle.std.specs.Cmp.{IsTotalOrder}
use Rattle.std.specs.List.{AllByRecursion, sum_by}
use Rattle.std.specs.List.Sorted.{IsPermutation, IsSorted}
use Rattle.std.specs.Ordering.{is_lt, nat_cmp, ordering_reverse, ordering_then}
use Rattle.std.proofs.lemmas.Cmp.{nat_cmp_total, on_total, ranked, then_total, tied_itself}
use Rattle.std.proofs.lemmas.List.Sorted.{sum_by-IsPermutation}
use Rattle.std.proofs.lemmas.List.Sums.{sum_by-cons}
use Rattle.route_values.specs.declared.addr.Addr.{Addr}
use Rattle.route_values.specs.declared.addr.Addr.TheVariants.{V4, V6}
use Rattle.route_values.specs.declared.key.Key.{Key}
use Rattle.route_values.specs.Key.{same_key}
use Rattle.route_values.specs.Order.{addr_cmp, block_cmp, key_cmp}
use Rattle.route_values.specs.Prefix.{Block}
use Rattle.route_values.proofs.KeyLemmas.{same_key-self, same_key_is}
use Rattle.peer_history.specs.Keys.{is_named, times_named}
use Rattle.peer_history.specs.Ordered.{in_order, put_before}

-- ---- the order

addr_turned : (a b : Addr) → addr_cmp a b ≡ ordering_reverse (addr_cmp b a)
addr_turned (V4 m) (V4 n) = nat_cmp_total.antisymm m n
addr_turned (V4 m) (V6 n) = refl
addr_turned (V6 m) (V4 n) = refl
addr_turned (V6 m) (V6 n) = nat_cmp_total.antisymm m n

addr_chain : (a b c : Addr) → addr_cmp a b ≡ Less → addr_cmp b c ≡ Less → addr_cmp a c ≡ Less
addr_chain (V4 a) (V4 b) (V4 c) first next = nat_cmp_total.trans a b c first next
addr_chain (V4 a) (V4 b) (V6 c) first next = refl
addr_chain (V4 a) (V6 b) (V4 c) first next = cc
addr_chain (V4 a) (V6 b) (V6 c) first next = refl
addr_chain (V6 a) (V4 b) c first next = cc
addr_chain (V6 a) (V6 b) (V4 c) first next = cc
addr_chain (V6 a) (V6 b) (V6 c) first next = nat_cmp_total.trans a b c first next

addr_alike : (a b c : Addr) → addr_cmp a b ≡ Equal → addr_cmp a c ≡ addr_cmp b c
addr_alike (V4 a) (V4 b) (V4 c) same = nat_cmp_total.congr a b c same
addr_alike (V4 a) (V4 b) (V6 c) same = refl
addr_alike (V4 a) (V6 b) c same = cc
addr_alike (V6 a) (V4 b) c same = cc
addr_alike (V6 a) (V6 b) (V4 c) same = refl
addr_alike (V6 a) (V6 b) (V6 c) same = nat_cmp_total.congr a b c same

addr_total : IsTotalOrder addr_cmp
addr_total = record { antisymm = addr_turned; trans = addr_chain; congr = addr_alike }

block_total : IsTotalOrder block_cmp
block_total = then_total (on_total (λ (b : Block). b.addr) addr_total) (on_total (λ (b : Block). b.len) nat_cmp_total)

pub key_total : IsTotalOrder key_cmp
key_total = then_total (on_total (λ (k : Key). k.prefix) block_total) (on_total (λ (k : Key). k.id) nat_cmp_total)

-- ---- what is as great is the same

both_equal : (a b : Ordering) → ordering_then a b ≡ Equal → (a ≡ Equal) × (b ≡ Equal)
both_equal Less b is = cc
both_equal Equal b is = (refl, is)
both_equal Greater b is = cc

number_is : (m n : ℕ) → nat_cmp m n ≡ Equal → m ≡ n
number_is m n is = ranked m n Equal (sym is)

addr_is : (a b : Addr) → addr_cmp a b ≡ Equal → a ≡ b
addr_is (V4 m) (V4 n) is = ap (λ k. V4 k) (number_is m n is)
addr_is (V4 m) (V6 n) is = cc
addr_is (V6 m) (V4 n) is = cc
addr_is (V6 m) (V6 n) is = ap (λ k. V6 k) (number_is m n is)

abbrev block_of : Addr → ℕ → Block
block_of addr len = record { addr = addr; len = len }

abbrev key_of : Block → ℕ → Key
key_of prefix id = record { prefix = prefix; id = id }

block_is : (a b : Block) → block_cmp a b ≡ Equal → a ≡ b
block_is a b is =
    let parts = both_equal (addr_cmp a.addr b.addr) (nat_cmp a.len b.len) is in
    ap (λ (addr : Addr). block_of addr a.len) (addr_is a.addr b.addr parts.0)
    ∙ ap (block_of b.addr) (number_is a.len b.len parts.1)

pub equal_is : (a b : Key) → key_cmp a b ≡ Equal → a ≡ b
equal_is a b is =
    let parts = both_equal (block_cmp a.prefix b.prefix) (nat_cmp a.id b.id) is in
    ap (λ (prefix : Block). key_of prefix a.id) (block_is a.prefix b.prefix parts.0)
    ∙ ap (key_of b.prefix) (number_is a.id b.id parts.1)

greater_back : (a b : Key) → key_cmp a b ≡ Greater → key_cmp b a ≡ Less
greater_back a b is = key_total.antisymm b a ∙ ap ordering_reverse is

-- a lesser key is another one
less_other : (a b : Key) → key_cmp a b ≡ Less → same_key a b ≡ false
less_other a b less = by_same (same_key a b) refl
  where
    by_same : (same : Bool) → same_key a b ≡ same → same ≡ false
    by_same false at = refl
    by_same true at =
        let equal : key_cmp a b ≡ Equal =
        ap (key_cmp a) (sym (same_key_is a b at)) ∙ tied_itself key_total a in
        absurd (let never : Less ≡ Equal = sym less ∙ equal in cc)

-- ---- lists that rise

-- the key is less than each of these
abbrev pub IsBelow : Key → List Key → Type 0
IsBelow key keys = AllByRecursion (λ k. key_cmp key k ≡ Less) keys

-- each key is less than all behind it
abbrev pub Rises : List Key → Type 0
Rises [] = ⊤
Rises (k ∷ ks) = IsBelow k ks × Rises ks

below_less : (a b : Key) (keys : List Key) → key_cmp a b ≡ Less → IsBelow b keys → IsBelow a keys
below_less a b [] less below = tt
below_less a b (k ∷ ks) less below = (key_total.trans a b k less below.0, below_less a b ks less below.1)

not_below : (key : Key) (keys : List Key) → IsBelow key keys → times_named keys key ≡ 0
not_below key [] below = refl
not_below key (k ∷ ks) below =
    let other : same_key k key ≡ false = by_same (same_key k key) refl in
    let rest = not_below key ks below.1 in
    ap (λ (same : Bool). (if same then 1 else 0) + times_named ks key) other ∙ (omega (arith, rest))
  where
    by_same : (same : Bool) → same_key k key ≡ same → same ≡ false
    by_same false at = refl
    by_same true at =
        let equal : key_cmp key k ≡ Equal =
        ap (key_cmp key) (same_key_is k key at) ∙ tied_itself key_total key in
        absurd (let never : Less ≡ Equal = sym below.0 ∙ equal in cc)

named_first : (key : Key) (keys : List Key) → times_named (key ∷ keys) key ≡ 1 + times_named keys key
named_first key keys = ap (λ (same : Bool). (if same then 1 else 0) + times_named keys key) (same_key-self key)

-- lists that rise and name the same keys are one list
pub one_list : (some others : List Key) → Rises some → Rises others
    → ((key : Key) → times_named some key ≡ times_named others key) → some ≡ others
one_list [] [] up also same = refl
one_list [] (k ∷ ks) up also same =
    absurd (let at = same k in let one = named_first k ks in omega (arith, at, one))
one_list (k ∷ ks) [] up also same =
    absurd (let at = same k in let one = named_first k ks in omega (arith, at, one))
one_list (a ∷ xs) (b ∷ ys) up also same = by_order (one_list xs ys up.1 also.1) (key_cmp a b) refl
  where
    by_order : (((key : Key) → times_named xs key ≡ times_named ys key) → xs ≡ ys) → (order : Ordering)
        → key_cmp a b ≡ order → ◌≡◌ {A = List Key} (a ∷ xs) (b ∷ ys)
    by_order rest Less is =
        absurd (let none = not_below a (b ∷ ys) (is, below_less a b ys is also.0) in
        let one = named_first a xs in let at = same a in omega (arith, none, one, at))
    by_order rest Greater is =
        let less = greater_back a b is in
        absurd (let none = not_below b (a ∷ xs) (less, below_less b a xs less up.0) in
        let one = named_first b ys in let at = same b in omega (arith, none, one, at))
    by_order rest Equal is =
        let head : a ≡ b = equal_is a b is in
        let tails : xs ≡ ys = rest (λ key.
        let at : (if same_key a key then 1 else 0) + times_named xs key
        ≡ (if same_key a key then 1 else 0) + times_named ys key =
        same key ∙ ap (λ (k : Key). (if same_key k key then 1 else 0) + times_named ys key) (sym head) in
        omega (arith, at)) in
        ap (λ (k : Key). k ∷ xs) head ∙ ap (λ (ks : List Key). b ∷ ks) tails

-- ---- what is filtered still rises

filter_below : (test : Key → Bool) (key : Key) (keys : List Key) → IsBelow key keys → IsBelow key (filter test keys)
filter_below test key [] below = tt
filter_below test key (k ∷ ks) below =
    elim (test k) as (λ so. IsBelow key (if so then k ∷ filter test ks else filter test ks)) [
      | true ↦ (below.0, filter_below test key ks below.1)
      | false ↦ filter_below test key ks below.1
    ]

pub filter_rises : (test : Key → Bool) (keys : List Key) → Rises keys → Rises (filter test keys)
filter_rises test [] up = tt
filter_rises test (k ∷ ks) up =
    elim (test k) as (λ so. Rises (if so then k ∷ filter test ks else filter test ks)) [
      | true ↦ (filter_below test k ks up.0, filter_rises test ks up.1)
      | false ↦ filter_rises test ks up.1
    ]

-- ---- keys put in order rise

put_below : (key k : Key) (keys : List Key) → key_cmp key k ≡ Less → IsBelow key keys → IsBelow key (put_before k keys)
put_below key k [] less below = (less, tt)
put_below key k (j ∷ js) less below =
    elim (key_cmp k j) as (λ order. IsBelow key (elim order [
      | Less ↦ k ∷ j ∷ js
      | Equal ↦ j ∷ put_before k js
      | Greater ↦ j ∷ put_before k js
    ])) [
      | Less ↦ (less, (below.0, below.1))
      | Equal ↦ (below.0, put_below key k js less below.1)
      | Greater ↦ (below.0, put_below key k js less below.1)
    ]

swap : (a b c : Bool) → (b || (a || c)) ≡ (a || (b || c))
swap true true c = refl
swap true false c = refl
swap false b c = refl

put_named : (k : Key) (keys : List Key) (key : Key) → is_named (put_before k keys) key
    ≡ (same_key k key || is_named keys key)
put_named k [] key = refl
put_named k (j ∷ js) key =
    let swapped : (same_key j key || is_named (put_before k js) key)
    ≡ (same_key k key || (same_key j key || is_named js key)) =
    ap (λ (b : Bool). same_key j key || b) (put_named k js key)
    ∙ swap (same_key k key) (same_key j key) (is_named js key) in
    elim (key_cmp k j) as (λ order. is_named (elim order [
      | Less ↦ k ∷ j ∷ js
      | Equal ↦ j ∷ put_before k js
      | Greater ↦ j ∷ put_before k js
    ]) key ≡ (same_key k key || (same_key j key || is_named js key))) [
      | Less ↦ refl
      | Equal ↦ swapped
      | Greater ↦ swapped
    ]

-- a key that isn't named isn't the first, and isn't behind it
not_first : (key k : Key) (keys : List Key) → is_named (k ∷ keys) key ≡ false
    → (same_key k key ≡ false) × (is_named keys key ≡ false)
not_first key k keys = parts (same_key k key) (is_named keys key)
  where
    parts : (a b : Bool) → (a || b) ≡ false → (a ≡ false) × (b ≡ false)
    parts false b is = (refl, is)
    parts true b is = absurd (let never : true ≡ false = is in cc)

put_rises : (k : Key) (keys : List Key) → is_named keys k ≡ false → Rises keys → Rises (put_before k keys)
put_rises k [] new up = (tt, tt)
put_rises k (j ∷ js) new up =
    let others = not_first k j js new in
    by_order others.0 (put_rises k js others.1 up.1) (key_cmp k j) refl
  where
    by_order : same_key j k ≡ false → Rises (put_before k js) → (order : Ordering) → key_cmp k j ≡ order
        → Rises (elim order [
          | Less ↦ k ∷ j ∷ js
          | Equal ↦ j ∷ put_before k js
          | Greater ↦ j ∷ put_before k js
        ])
    by_order other rest Less is = ((is, below_less k j js is up.0), (up.0, up.1))
    by_order other rest Equal is =
        absurd (let same : same_key j k ≡ true =
        ap (λ (i : Key). same_key i k) (sym (equal_is k j is)) ∙ same_key-self k in
        let never : true ≡ false = sym same ∙ other in cc)
    by_order other rest Greater is = (put_below j k js (greater_back k j is) up.0, rest)

order_named : (keys : List Key) (key : Key) → is_named (in_order keys) key ≡ is_named keys key
order_named [] key = refl
order_named (k ∷ ks) key = by_named (order_named ks key) (is_named ks k) refl
  where
    by_same : (same : Bool) → same_key k key ≡ same → is_named ks k ≡ true
        → is_named ks key ≡ (same || is_named ks key)
    by_same false at named = refl
    by_same true at named = ap (is_named ks) (sym (same_key_is k key at)) ∙ named

    by_named : is_named (in_order ks) key ≡ is_named ks key → (named : Bool) → is_named ks k ≡ named
        → is_named (if named then in_order ks else put_before k (in_order ks)) key ≡ (same_key k key || is_named ks key)
    by_named rest true at = rest ∙ by_same (same_key k key) refl at
    by_named rest false at = put_named k (in_order ks) key ∙ ap (λ (b : Bool). same_key k key || b) rest

pub order_rises : (keys : List Key) → Rises (in_order keys)
order_rises [] = tt
order_rises (k ∷ ks) = by_named (order_rises ks) (is_named ks k) refl
  where
    by_named : Rises (in_order ks) → (named : Bool) → is_named ks k ≡ named
        → Rises (if named then in_order ks else put_before k (in_order ks))
    by_named rest true at = rest
    by_named rest false at = put_rises k (in_order ks) (order_named ks k ∙ at) rest

-- ---- sorted keys, each of which stands once, rise

next_less : (a b : Key) → is_lt (key_cmp b a) ≡ false → same_key a b ≡ false → key_cmp a b ≡ Less
next_less a b up other = by_order (key_cmp b a) refl up
  where
    by_order : (order : Ordering) → key_cmp b a ≡ order → is_lt order ≡ false → key_cmp a b ≡ Less
    by_order Less is up = absurd (let never : true ≡ false = up in cc)
    by_order Equal is up =
        absurd (let same : same_key a b ≡ true =
        ap (same_key a) (equal_is b a is) ∙ same_key-self a in
        let never : true ≡ false = sym same ∙ other in cc)
    by_order Greater is up = greater_back b a is

once_other : (a b : Key) (keys : List Key) → times_named (a ∷ b ∷ keys) b ≤ 1 → same_key a b ≡ false
once_other a b keys few = by_same (same_key a b) refl
  where
    by_same : (same : Bool) → same_key a b ≡ same → same ≡ false
    by_same false at = refl
    by_same true at =
        let one : times_named (a ∷ b ∷ keys) b ≡ 1 + times_named (b ∷ keys) b =
        ap (λ (same : Bool). (if same then 1 else 0) + times_named (b ∷ keys) b) at in
        let two = named_first b keys in
        absurd (omega (arith, few, one, two))

pub sorted_rises : (keys : List Key) → IsSorted key_cmp keys → ((key : Key) → times_named keys key ≤ 1) → Rises keys
sorted_rises [] up once = tt
sorted_rises (a ∷ []) up once = (tt, tt)
sorted_rises (a ∷ b ∷ keys) up once =
    let less : key_cmp a b ≡ Less =
    next_less a b (up 0 a (omega arith) (omega arith)) (once_other a b keys (once b)) in
    let rest : Rises (b ∷ keys) =
    sorted_rises (b ∷ keys) (λ k d low high.
    subst (λ (n : ℕ). is_lt (key_cmp (get_or (a ∷ b ∷ keys) n d) (get_or (b ∷ keys) k d)) ≡ false)
    (let same : suc k + 1 ≡ suc (k + 1) = omega arith in same) (up (suc k) d (omega arith) (omega (arith, high))))
    (λ key. let all = once key in omega (arith, all)) in
    ((less, below_less a b keys less rest.0), rest)

-- ---- a permutation names the same keys

times_sum : (key : Key) (keys : List Key)
    → times_named keys key ≡ sum_by (λ k. if same_key k key then 1 else 0) keys
times_sum key [] = refl
times_sum key (k ∷ ks) =
    let rest = times_sum key ks in
    let more = sum_by-cons (λ j. if same_key j key then 1 else 0) k ks in
    omega (arith, rest, more)

pub moved_named : (some others : List Key) (key : Key) → IsPermutation some others
    → times_named others key ≡ times_named some key
moved_named some others key moved =
    times_sum key others ∙ sum_by-IsPermutation (λ k. if same_key k key then 1 else 0) some others moved
    ∙ sym (times_sum key some)
