-- Keys at places, by the numbers of a pool.
use Rattle.std.proofs.Common.{◌≡◌, ◌↔◌, ◌==◌, ℕ, ◌+◌, ◌<◌, ◌≤◌, Bool, true, false, List, [], ◌∷◌, ◌++◌, map, length}
use Rattle.std.proofs.Common.{Option, Some, None, zero, suc, cond, refl, sym, ap, subst, ◌∙◌, arith, length-append}
use Rattle.std.specs.Prelude.{is_some, nat_lt, slice_index_or, slice_set, IfSome, IfNone, IsSome}
use Rattle.std.specs.Prelude.{IfOk, OnErr, Result, Ok, Err}
use Rattle.std.specs.Option.{option_map}
use Rattle.std.proofs.lemmas.Bool.{false≢true, eqb-true}
use Rattle.std.proofs.lemmas.List.{length-map, length-set, get_or_past}
use Rattle.route_values.specs.declared.key.Key.{Key}
use Rattle.value_pool.specs.Pool.{Pool, IsSound, Adds, TakesOut, item_at, passes}
use Rattle.value_pool.proofs.ListLemmas.{at_set, at_set_none, at_push, same_options}
use Rattle.adj_rib_out.specs.Places.{key_at, place_of, StandOnce}
use Rattle.adj_rib_out.specs.KeyPlaces.{keys_in, padded, AddsKey, TakesKeyOut}
use Rattle.adj_rib_out.proofs.RowLemmas.{found, stands, none_some, some_is}

-- ---- lists with vacant places behind them

pub length_padded : (keys : List (Option Key)) (places : ℕ) → length (padded keys places) ≡ places
length_padded keys zero = refl
length_padded [] (suc places) = ap suc (length_padded [] places)
length_padded (key ∷ keys) (suc places) = ap suc (length_padded keys places)

padded_at : (keys : List (Option Key)) (places i : ℕ) → length keys ≤ places
    → key_at (padded keys places) i ≡ key_at keys i
padded_at [] zero i small = refl
padded_at (key ∷ keys) zero i small = absurd (omega arith)
padded_at [] (suc places) zero small = refl
padded_at [] (suc places) (suc i) small = padded_at [] places i (omega arith)
padded_at (key ∷ keys) (suc places) zero small = refl
padded_at (key ∷ keys) (suc places) (suc i) small = padded_at keys places i (omega arith)

mapped : {X Y : Type 0} (f : X → Y) (xs : List (Option X)) (n : ℕ)
    → slice_index_or (map (option_map f) xs) n None ≡ option_map f (slice_index_or xs n None)
mapped f [] n = refl
mapped f (x ∷ xs) zero = refl
mapped f (x ∷ xs) (suc n) = mapped f xs n

some_mapped : {X Y : Type 0} (f : X → Y) (o : Option X) → is_some (option_map f o) ≡ is_some o
some_mapped f None = refl
some_mapped f (Some x) = refl

abbrev fst : Key × ℕ → Key
fst item = item.0

abbrev pool_of : List (Option (Key × ℕ)) → List ℕ → Pool Key
pool_of items idle = record { items = items; idle = idle }

-- ---- the keys of a pool

module _ (items : List (Option (Key × ℕ))) (places : ℕ) (small : length items ≤ places) where
  abbrev keys : List (Option Key)
  keys = padded (keys_in items) places

  pub key_in : (number : ℕ) → key_at keys number ≡ option_map fst (item_at items number)
  key_in number = padded_at (keys_in items) places number
      (let same = length-map items (option_map fst) in omega arith) ∙ mapped fst items number

  pub item_there : (number : ℕ) → IsSome (key_at keys number) → IsSome (item_at items number)
  item_there number here = sym (ap is_some (key_in number) ∙ some_mapped fst (item_at items number)) ∙ here

  pub key_there : (number : ℕ) → IsSome (item_at items number) → IsSome (key_at keys number)
  key_there number here = ap is_some (key_in number) ∙ some_mapped fst (item_at items number) ∙ here

  module _ (eq : Key → Key → Bool) (decides : (a b : Key) → (eq a b ≡ true) ↔ (a ≡ b)) where
    module _ (key : Key) (number : ℕ) where
      hit : (o : Option (Key × ℕ)) → item_at items number ≡ o → passes (eq key) o ≡ true
          → key_at keys number ≡ Some key
      hit None is test = absurd (false≢true test)
      hit (Some item) is test = key_in number ∙ ap (option_map fst) is
          ∙ ap (λ (k : Key). Some k) (sym ((decides key item.0).0 test))

      miss : (o : Option (Key × ℕ)) → item_at items number ≡ o → passes (eq key) o ≡ false
          → key_at keys number ≡ Some key → ⊥
      miss None is test here = none_some (sym (key_in number ∙ ap (option_map fst) is) ∙ here)
      miss (Some item) is test here = false≢true (sym test ∙ (decides key item.0).1 (some_is (sym here
          ∙ key_in number ∙ ap (option_map fst) is)))

      -- the item that stands where the key does
      record IsItem (item : Key × ℕ) : Type 0 where
        pub is : item_at items number ≡ Some item
        pub key_is : item.0 ≡ key

      item_for : (o : Option (Key × ℕ)) → item_at items number ≡ o → key_at keys number ≡ Some key
          → (item : Key × ℕ) × IsItem item
      item_for None is here = absurd (none_some (sym (key_in number ∙ ap (option_map fst) is) ∙ here))
      item_for (Some item) is here = (
        item,
        record {
          is = is;
          key_is = some_is (sym (key_in number ∙ ap (option_map fst) is) ∙ here);
        },
      )

    pub stand_once : (idle : List ℕ) → IsSound eq (pool_of items idle) → StandOnce keys
    stand_once idle sound i j key at_i at_j =
        let first = item_for key i (item_at items i) refl at_i in
        let second = item_for key j (item_at items j) refl at_j in
        sound.once i j first.0 second.0 first.1.is second.1.is
        ((decides first.0.0 second.0.0).1 (first.1.key_is ∙ sym second.1.key_is))

    module _ (once : StandOnce keys) (key : Key) where
      nowhere : ((number : ℕ) → passes (eq key) (item_at items number) ≡ false) → (o : Option ℕ)
          → place_of keys key ≡ o → None ≡ o
      nowhere none None is = refl
      nowhere none (Some place) is = absurd (miss key place (item_at items place) refl (none place)
          (found keys key place is))

      pub place_is : (result : Option ℕ)
          → IfSome result (λ number. passes (eq key) (item_at items number) ≡ true)
          → IfNone result ((number : ℕ) → passes (eq key) (item_at items number) ≡ false)
          → result ≡ place_of keys key
      place_is None found_there none = nowhere none (place_of keys key) refl
      place_is (Some number) found_there none =
          sym (stands keys key number once (hit key number (item_at items number) refl found_there))

      -- a key that stands nowhere passes no test
      pub absent : place_of keys key ≡ None → (number : ℕ) → passes (eq key) (item_at items number) ≡ false
      absent none number = elim (passes (eq key) (item_at items number)) as (λ t.
          passes (eq key) (item_at items number) ≡ t → t ≡ false) [
            | true ↦ λ test. absurd (none_some (sym none ∙ stands keys key number once
                (hit key number (item_at items number) refl test)))
            | false ↦ λ test. refl
          ] refl

  -- ---- a key more

  module _ (idle later : List ℕ) (more : List (Option (Key × ℕ))) (place : ℕ) (key : Key)
      (vacant : length items < places) (adds : Adds (pool_of items idle) (pool_of more later) place (key, 0)) where
    length_with : (test : Bool)
        → length (cond test (slice_set items place (Some (key, 0))) (items ++ Some (key, 0) ∷ [])) ≤ places
    length_with true = let same = length-set items place (Some (key, 0)) in omega arith
    length_with false = let same = length-append items (Some (key, 0) ∷ []) in omega arith

    pub small_more : length more ≤ places
    small_more = subst (λ (l : List (Option (Key × ℕ))). length l ≤ places) (sym adds.items)
        (length_with (nat_lt place (length items)))

    within : place < places
    within = let next = adds.next in omega arith

    key_if : (test : Bool) (o : Option (Key × ℕ)) → option_map fst (cond test (Some (key, 0)) o)
        ≡ cond test (Some key) (option_map fst o)
    key_if true o = refl
    key_if false o = refl

    pub adds_key : AddsKey (record { keys = keys; idle = idle; used = length items })
        (record { keys = padded (keys_in more) places; idle = later; used = length more }) place key
    adds_key = record {
      free = key_in place ∙ ap (option_map fst) adds.free;
      within = subst (λ n. place < n) (sym (length_padded (keys_in items) places)) within;
      keys = same_options (padded (keys_in more) places) (slice_set keys place (Some key))
          (length_padded (keys_in more) places
          ∙ sym (length-set keys place (Some key) ∙ length_padded (keys_in items) places))
          (λ i. more_at i ∙ sym (at_set keys place i (Some key)
          (subst (λ n. place < n) (sym (length_padded (keys_in items) places)) within)));
      idle = adds.idle;
    }
      where
        more_in : (i : ℕ) → key_at (padded (keys_in more) places) i ≡ option_map fst (item_at more i)
        more_in i = padded_at (keys_in more) places i
            (let same = length-map more (option_map fst) in let few = small_more in omega arith) ∙ mapped fst more i

        more_at : (i : ℕ) → key_at (padded (keys_in more) places) i ≡ cond (i == place) (Some key) (key_at keys i)
        more_at i = more_in i ∙ ap (option_map fst) (adds.others i) ∙ key_if (i == place) (item_at items i)
            ∙ ap (cond (i == place) (Some key)) (sym (key_in i))

  -- so it is behind a call that adds a key or leaves all as it was
  module _ {E : Type 0} (idle later : List ℕ) (more : List (Option (Key × ℕ))) (key : Key)
      (vacant : length items < places) (result : Result ℕ E)
      (adds : IfOk result (λ number. Adds (pool_of items idle) (pool_of more later) number (key, 0))) where
    pub small_then : OnErr result (pool_of more later ≡ pool_of items idle) → length more ≤ places
    small_then same = by result adds same
      where
        by : (r : Result ℕ E) → IfOk r (λ number. Adds (pool_of items idle) (pool_of more later) number (key, 0))
            → OnErr r (pool_of more later ≡ pool_of items idle) → length more ≤ places
        by (Ok number) adds same = small_more idle later more number key vacant adds
        by (Err e) adds same = subst (λ (pool : Pool Key). length pool.items ≤ places) (sym same) small

    pub adds_then : IfOk result (λ number. AddsKey (record { keys = keys; idle = idle; used = length items })
        (record { keys = padded (keys_in more) places; idle = later; used = length more }) number key)
    adds_then = by result adds
      where
        by : (r : Result ℕ E) → IfOk r (λ number. Adds (pool_of items idle) (pool_of more later) number (key, 0))
            → IfOk r (λ number. AddsKey (record { keys = keys; idle = idle; used = length items })
            (record { keys = padded (keys_in more) places; idle = later; used = length more }) number key)
        by (Ok number) adds = adds_key idle later more number key vacant adds
        by (Err e) adds = adds

  -- ---- a key fewer

  module _ (idle later : List ℕ) (fewer : List (Option (Key × ℕ))) (place : ℕ)
      (takes : TakesOut (pool_of items idle) (pool_of fewer later) place) where
    pub same_used : length fewer ≡ length items
    same_used = ap length takes.items ∙ length-set items place None

    pub small_fewer : length fewer ≤ places
    small_fewer = subst (λ n. n ≤ places) (sym same_used) small

    no_key_if : (test : Bool) (o : Option (Key × ℕ)) → option_map fst (cond test None o)
        ≡ cond test None (option_map fst o)
    no_key_if true o = refl
    no_key_if false o = refl

    pub takes_key_out : TakesKeyOut (record { keys = keys; idle = idle; used = length items })
        (record { keys = padded (keys_in fewer) places; idle = later; used = length fewer }) place
    takes_key_out = record {
      keys = same_options (padded (keys_in fewer) places) (slice_set keys place None)
          (length_padded (keys_in fewer) places
          ∙ sym (length-set keys place None ∙ length_padded (keys_in items) places))
          (λ i. fewer_at i ∙ sym (at_set_none keys place i));
      idle = takes.idle;
      used = same_used;
    }
      where
        fewer_in : (i : ℕ) → key_at (padded (keys_in fewer) places) i ≡ option_map fst (item_at fewer i)
        fewer_in i = padded_at (keys_in fewer) places i
            (let same = length-map fewer (option_map fst) in let few = small_fewer in omega arith) ∙ mapped fst fewer i

        fewer_at : (i : ℕ) → key_at (padded (keys_in fewer) places) i ≡ cond (i == place) None (key_at keys i)
        fewer_at i = fewer_in i ∙ ap (option_map fst) (takes.others i) ∙ no_key_if (i == place) (item_at items i)
            ∙ ap (cond (i == place) None) (sym (key_in i))

  -- ---- a place more

  pub widened : padded (keys_in items) (places + 1) ≡ keys ++ None ∷ []
  widened = same_options (padded (keys_in items) (places + 1)) (keys ++ None ∷ [])
      (length_padded (keys_in items) (places + 1)
      ∙ sym (length-append keys (None ∷ []) ∙ ap (λ n. n + 1) (length_padded (keys_in items) places)))
      (λ i. padded_at (keys_in items) (places + 1) i
      (let same = length-map items (option_map fst) in omega arith) ∙ mapped fst items i ∙ sym (key_in i)
      ∙ sym (at_push keys i None ∙ vacant_at i (i == length keys) refl))
    where
      vacant_at : (i : ℕ) (test : Bool) → (i == length keys) ≡ test → cond test None (key_at keys i) ≡ key_at keys i
      vacant_at i false differs = refl
      vacant_at i true same = sym (get_or_past keys i None
          (let is = eqb-true i (length keys) same in omega arith))
