-- Lists that name the same keys, each as often, are of one length.
use Rattle.std.proofs.Common.{◌≡◌, ℕ, ◌+◌, ◌<◌, ◌≤◌, suc, Bool, true, false, not, List, [], ◌∷◌, ◌++◌}
use Rattle.std.proofs.Common.{length}
use Rattle.std.proofs.Common.{Some, None, get_or, take, refl, sym, ap, ◌∙◌, arith}
use Rattle.std.specs.Prelude.{◌&&◌, ◌||◌, count_by, Option, is_some, if◌then◌else◌}
use Rattle.std.proofs.lemmas.List.{take_more}
use Rattle.std.proofs.lemmas.List.Recursion.{is_count_by}
use Rattle.route_values.specs.declared.key.Key.{Key}
use Rattle.route_values.specs.Key.{same_key}
use Rattle.route_values.proofs.KeyLemmas.{same_key_is, same_key-self}
use Rattle.adj_rib_out.specs.State.{State, Row, row_at, is_ready}
use Rattle.adj_rib_out.specs.Nodes.{AreApart, is_node, is_node_row, nodes}
use Rattle.peer_history.specs.Keys.{is_named, times_named}
use Rattle.peer_history.specs.Ordered.{AreThose}
use Rattle.peer_history.proofs.KeyLemmas.{is_named-append, times_named-append}
use Rattle.peer_book.specs.Nodes.{new_keys}
use Rattle.peer_book.proofs.ClearLemmas.{row_found}
use Rattle.peer_book.proofs.TableLemmas.{named_item}

-- 1 where a test is passed, and 0 else
abbrev pub once : Bool → ℕ
once so = if so then 1 else 0

-- ---- lists of one length

-- the list without a key's first place
abbrev without : Key → List Key → List Key
without key [] = []
without key (k ∷ ks) = if same_key k key then ks else k ∷ without key ks

same_first : (one other key : Key) → same_key one other ≡ true → same_key one key ≡ same_key other key
same_first one other key same = ap (λ k. same_key k key) (same_key_is one other same)

times_without : (keys : List Key) (gone key : Key) → is_named keys gone ≡ true
    → times_named keys key ≡ once (same_key gone key) + times_named (without gone keys) key
times_without [] gone key named = absurd (let no_way : false ≡ true = named in cc)
times_without (k ∷ ks) gone key named =
    elim (same_key k gone) as (λ same. same_key k gone ≡ same → (same || is_named ks gone) ≡ true
    → once (same_key k key) + times_named ks key
    ≡ once (same_key gone key) + times_named (if same then ks else k ∷ without gone ks) key) [
      | true ↦ λ same there. ap (λ b. once b + times_named ks key) (same_first k gone key same)
      | false ↦ λ same there.
          let rest = times_without ks gone key there in omega (arith, rest)
    ] refl named

length_without : (keys : List Key) (gone : Key) → is_named keys gone ≡ true
    → length keys ≡ 1 + length (without gone keys)
length_without [] gone named = absurd (let no_way : false ≡ true = named in cc)
length_without (k ∷ ks) gone named =
    elim (same_key k gone) as (λ same. (same || is_named ks gone) ≡ true
    → length (k ∷ ks) ≡ 1 + length (if same then ks else k ∷ without gone ks)) [
      | true ↦ λ there. omega arith
      | false ↦ λ there. let rest = length_without ks gone there in omega (arith, rest)
    ] named

-- a key that is named at all is named
named_times : (keys : List Key) (key : Key) (rest : ℕ) → times_named keys key ≡ 1 + rest → is_named keys key ≡ true
named_times [] key rest is = absurd (omega (arith, is))
named_times (k ∷ ks) key rest is =
    elim (same_key k key) as (λ same. once same + times_named ks key ≡ 1 + rest → (same || is_named ks key) ≡ true) [
      | true ↦ λ at. refl
      | false ↦ λ at. named_times ks key rest (omega (arith, at))
    ] is

self_once : (key : Key) (keys : List Key) → times_named (key ∷ keys) key ≡ 1 + times_named keys key
self_once key keys = ap (λ same. once same + times_named keys key) (same_key-self key)

pub same_lengths : (some others : List Key) → ((key : Key) → times_named some key ≡ times_named others key)
    → length some ≡ length others
same_lengths [] [] same = refl
same_lengths [] (k ∷ ks) same =
    let none = same k in let one = self_once k ks in absurd (omega (arith, none, one))
same_lengths (k ∷ ks) others same =
    let named : is_named others k ≡ true =
    named_times others k (times_named ks k) (sym (same k) ∙ self_once k ks) in
    let rest : length ks ≡ length (without k others) =
    same_lengths ks (without k others) (λ key.
    let both : once (same_key k key) + times_named ks key ≡ times_named others key = same key in
    let split = times_without others k key named in omega (arith, both, split)) in
    let long = length_without others k named in
    omega (arith, rest, long)

-- lists of the keys that pass tests that agree
pub those_same : (test other : Key → Bool) (some others : List Key) → AreThose test some → AreThose other others
    → ((key : Key) → test key ≡ other key) → length some ≡ length others
those_same test other some others are those agree =
    same_lengths some others (λ key. are key ∙ ap once (agree key) ∙ sym (those key))

-- a list whose keys are those of two others
pub those_both : (test first second : Key → Bool) (all some others : List Key) → AreThose test all
    → AreThose first some → AreThose second others
    → ((key : Key) → once (test key) ≡ once (first key) + once (second key))
    → length all ≡ length (some ++ others)
those_both test first second all some others are those these agree =
    same_lengths all (some ++ others) (λ key.
    let one = are key in
    let split = times_named-append some others key in
    let left = those key in
    let right = these key in
    let both = agree key in
    omega (arith, one, split, left, right, both))

-- ---- keys of rows

-- the keys of the rows that pass a test
abbrev pub row_keys : (Key → Bool) → List (Option Row) → List Key
row_keys test [] = []
row_keys test (None ∷ rows) = row_keys test rows
row_keys test (Some row ∷ rows) = if test row.key then row.key ∷ row_keys test rows else row_keys test rows

pub apart_rest : (first : Option Row) (rows : List (Option Row)) → AreApart (first ∷ rows) → AreApart rows
apart_rest first rows apart i j a b at_i at_j same =
    let later = apart (suc i) (suc j) a b at_i at_j same in omega (arith, later)

-- the rows behind the one of a key have none of it
pub none_behind : (row : Row) (rows : List (Option Row)) (key : Key) → AreApart (Some row ∷ rows)
    → same_key row.key key ≡ true → row_at rows key ≡ None
none_behind row rows key apart same = by_found (row_at rows key) refl
  where
    by_found : (found : Option Row) → row_at rows key ≡ found → found ≡ None
    by_found None at = refl
    by_found (Some other) at =
        let found = row_found rows key other at in
        let alike : same_key row.key other.key ≡ true =
        ap (same_key row.key) (same_key_is other.key key found.same) ∙ same in
        let never : 0 ≡ suc found.place = apart 0 (suc found.place) row other refl found.at alike in
        absurd (omega (arith, never))

-- each is the key of one row
pub row_times : (test : Key → Bool) (rows : List (Option Row)) (key : Key) → AreApart rows
    → times_named (row_keys test rows) key ≡ once (is_some (row_at rows key) && test key)
row_times test [] key apart = refl
row_times test (None ∷ rows) key apart = row_times test rows key (apart_rest None rows apart)
row_times test (Some row ∷ rows) key apart =
    let rest = row_times test rows key (apart_rest (Some row) rows apart) in
    elim (same_key row.key key) as (λ same. same_key row.key key ≡ same
    → times_named (if test row.key then row.key ∷ row_keys test rows else row_keys test rows) key
    ≡ once (is_some (if same then Some row else row_at rows key) && test key)) [
      | true ↦ λ same.
          let none : times_named (row_keys test rows) key ≡ 0 =
          rest ∙ ap (λ (found : Option Row). once (is_some found && test key)) (none_behind row rows key apart same) in
          of_first row.key (row_keys test rows) (test row.key) (test key) key same
          (ap test (same_key_is row.key key same)) none
      | false ↦ λ other. of_rest row.key (row_keys test rows) (test row.key) key other ∙ rest
    ] refl
  where
    of_first : (first : Key) (keys : List Key) (passes is : Bool) (key : Key) → same_key first key ≡ true → passes ≡ is
        → times_named keys key ≡ 0 → times_named (if passes then first ∷ keys else keys) key ≡ once is
    of_first first keys true true key same agree none =
        let one : once (same_key first key) ≡ 1 = ap once same in omega (arith, one, none)
    of_first first keys false false key same agree none = none
    of_first first keys true false key same agree none = absurd (let no_way : true ≡ false = agree in cc)
    of_first first keys false true key same agree none = absurd (let no_way : false ≡ true = agree in cc)

    of_rest : (first : Key) (keys : List Key) (passes : Bool) (key : Key) → same_key first key ≡ false
        → times_named (if passes then first ∷ keys else keys) key ≡ times_named keys key
    of_rest first keys true key other =
        let zero : once (same_key first key) ≡ 0 = ap once other in omega (arith, zero)
    of_rest first keys false key other = refl

-- they are those that pass, where a key that passes has a row
pub rows_those : (test : Key → Bool) (rows : List (Option Row)) → AreApart rows
    → ((key : Key) → test key ≡ true → is_some (row_at rows key) ≡ true) → AreThose test (row_keys test rows)
rows_those test rows apart there key =
    row_times test rows key apart ∙ ap once (by_test (test key) (is_some (row_at rows key)) (there key))
  where
    by_test : (passes stands : Bool) → (passes ≡ true → stands ≡ true) → (stands && passes) ≡ passes
    by_test true stands so = ap (λ b. b && true) (so refl)
    by_test false true so = refl
    by_test false false so = refl

-- there are as many as rows that pass
pub count_rows : (test : Key → Bool) (passes : Option Row → Bool) → passes None ≡ false
    → ((row : Row) → passes (Some row) ≡ test row.key) → (rows : List (Option Row))
    → length (row_keys test rows) ≡ count_by passes rows
count_rows test passes none some = is_count_by (λ rows. length (row_keys test rows)) passes refl by_row
  where
    by_so : (so : Bool) (key : Key) (keys : List Key) → length (if so then key ∷ keys else keys)
        ≡ (if so then 1 + length keys else length keys)
    by_so true key keys = omega arith
    by_so false key keys = refl

    by_row : (row : Option Row) (rows : List (Option Row)) → length (row_keys test (row ∷ rows))
        ≡ (if passes row then 1 + length (row_keys test rows) else length (row_keys test rows))
    by_row None rows =
        ap (λ b. if b then 1 + length (row_keys test rows) else length (row_keys test rows)) (sym none)
    by_row (Some row) rows = by_so (test row.key) row.key (row_keys test rows)
        ∙ ap (λ b. if b then 1 + length (row_keys test rows) else length (row_keys test rows)) (sym (some row))

-- the nodes of a table are as many as the keys of a list of just them
pub nodes_listed : (state : State) (test : Key → Bool) (keys : List Key) → AreApart state.rows
    → ((key : Key) → is_node state key ≡ true → is_ready state key ≡ true) → AreThose test keys
    → ((key : Key) → is_node state key ≡ test key) → nodes state ≡ length keys
nodes_listed state test keys apart ready are agree =
    sym (count_rows (is_node state) (is_node_row state) refl (λ row. refl) state.rows)
    ∙ those_same (is_node state) test (row_keys (is_node state) state.rows) keys
    (rows_those (is_node state) state.rows apart ready) are agree

-- ---- new keys

pub new_times : (is : Key → Bool) (keys : List Key)
    → AreThose (λ key. not (is key) && is_named keys key) (new_keys is keys)
new_times is [] key = by_is (is key)
  where
    by_is : (b : Bool) → 0 ≡ once (not b && false)
    by_is true = refl
    by_is false = refl
new_times is (k ∷ ks) key =
    by_same (same_key k key) refl (new_times is ks key)
  where
    -- another key than the first
    passed : (so : Bool) (first : Key) (keys : List Key) → same_key first key ≡ false
        → times_named (if so then keys else first ∷ keys) key ≡ times_named keys key
    passed true first keys other = refl
    passed false first keys other =
        let zero : once (same_key first key) ≡ 0 = ap once other in omega (arith, zero)

    -- the first key, by whether it is none of the others
    taken : (node later : Bool) (keys : List Key) → times_named keys key ≡ once (not node && later)
        → same_key k key ≡ true → times_named (if node || later then keys else k ∷ keys) key ≡ once (not node && true)
    taken true later keys rest same = rest
    taken false true keys rest same = rest
    taken false false keys rest same =
        let one : once (same_key k key) ≡ 1 = ap once same in omega (arith, one, rest)

    by_same : (same : Bool) → same_key k key ≡ same
        → times_named (new_keys is ks) key ≡ once (not (is key) && is_named ks key)
        → times_named (if is k || is_named ks k then new_keys is ks else k ∷ new_keys is ks) key
        ≡ once (not (is key) && (same || is_named ks key))
    by_same true at rest =
        let same_is = same_key_is k key at in
        ap (λ j. times_named (if is j || is_named ks j then new_keys is ks else k ∷ new_keys is ks) key) same_is
        ∙ taken (is key) (is_named ks key) (new_keys is ks) rest at
    by_same false at rest = passed (is k || is_named ks k) k (new_keys is ks) at ∙ rest

-- one more key at the end is one more new key, unless it is none or was among those before it
pub new_more : (is : Key → Bool) (keys : List Key) (key : Key)
    → length (new_keys is (keys ++ key ∷ [])) ≡ length (new_keys is keys) + once (not (is key || is_named keys key))
new_more is keys key = by_so (is key || is_named keys key) refl
  where
    named : (other : Key) → is_named (keys ++ key ∷ []) other ≡ (is_named keys other || (same_key key other || false))
    named other = is_named-append keys (key ∷ []) other

    -- it is none that is new
    old_bits : (node among same : Bool) → (same ≡ true → (node || among) ≡ true)
        → (not node && (among || (same || false))) ≡ (not node && among)
    old_bits true among same so = refl
    old_bits false true same so = refl
    old_bits false false true so = absurd (let no_way : false ≡ true = so refl in cc)
    old_bits false false false so = refl

    -- it is new
    new_bits : (node among same : Bool) → (same ≡ true → (node || among) ≡ false)
        → once (not node && (among || (same || false))) ≡ once same + once (not node && among)
    new_bits true among true so = absurd (let no_way : true ≡ false = so refl in cc)
    new_bits true among false so = refl
    new_bits false true true so = absurd (let no_way : true ≡ false = so refl in cc)
    new_bits false true false so = refl
    new_bits false false true so = refl
    new_bits false false false so = refl

    at_same : (b : Bool) (other : Key) → (is key || is_named keys key) ≡ b → same_key key other ≡ true
        → (is other || is_named keys other) ≡ b
    at_same b other so same = ap (λ k. is k || is_named keys k) (sym (same_key_is key other same)) ∙ so

    by_so : (b : Bool) → (is key || is_named keys key) ≡ b
        → length (new_keys is (keys ++ key ∷ [])) ≡ length (new_keys is keys) + once (not b)
    by_so true so =
        let same : length (new_keys is (keys ++ key ∷ [])) ≡ length (new_keys is keys) =
        those_same (λ k. not (is k) && is_named (keys ++ key ∷ []) k) (λ k. not (is k) && is_named keys k)
        (new_keys is (keys ++ key ∷ [])) (new_keys is keys) (new_times is (keys ++ key ∷ [])) (new_times is keys)
        (λ k. ap (λ n. not (is k) && n) (named k)
        ∙ old_bits (is k) (is_named keys k) (same_key key k) (at_same true k so)) in
        omega (arith, same)
    by_so false so =
        let same : length (new_keys is (keys ++ key ∷ [])) ≡ length (key ∷ new_keys is keys) =
        same_lengths (new_keys is (keys ++ key ∷ [])) (key ∷ new_keys is keys) (λ k.
        new_times is (keys ++ key ∷ []) k ∙ ap (λ n. once (not (is k) && n)) (named k)
        ∙ new_bits (is k) (is_named keys k) (same_key key k) (at_same false k so)
        ∙ ap (λ n. once (same_key key k) + n) (sym (new_times is keys k))) in
        omega (arith, same)

-- ---- one key after another

module _ (is : Key → Bool) (keys : List Key) (count place : ℕ) (key : Key) (new : Bool) (within : place < length keys)
    (at : key ≡ get_or keys place key) (told : new ≡ not (is key || is_named (take place keys) key))
    (counted : count ≡ length (new_keys is (take place keys))) where
  pub count_next : (next : ℕ) → next ≡ count + once new → next ≡ length (new_keys is (take (place + 1) keys))
  count_next next more =
      let one : length (new_keys is (take place keys ++ key ∷ []))
      ≡ length (new_keys is (take place keys)) + once (not (is key || is_named (take place keys) key)) =
      new_more is (take place keys) key in
      let grows : once new ≡ once (not (is key || is_named (take place keys) key)) = ap once told in
      let all : length (new_keys is (take (place + 1) keys)) ≡ length (new_keys is (take place keys ++ key ∷ [])) =
      ap (λ ks. length (new_keys is ks))
      (take_more keys place key within ∙ ap (λ k. take place keys ++ k ∷ []) (sym at)) in
      omega (arith, more, counted, one, grows, all)

  small : (so : Bool) → once so ≤ 1
  small true = omega arith
  small false = omega arith

  pub count_small : (next : ℕ) → next ≡ count + once new → count ≤ place → next ≤ place + 1
  count_small next more few = let one = small new in omega (arith, more, few, one)

-- one more key among those that don't have another
pub named_next : (keys : List Key) (place : ℕ) (other key : Key) → place < length keys → other ≡ get_or keys place other
    → same_key other key ≡ false → is_named (take place keys) key ≡ false → is_named (take (place + 1) keys) key ≡ false
named_next keys place other key within at differs none =
    ap (λ ks. is_named ks key) (take_more keys place other within ∙ ap (λ k. take place keys ++ k ∷ []) (sym at))
    ∙ is_named-append (take place keys) (other ∷ []) key
    ∙ ap (λ b. b || (same_key other key || false)) none ∙ ap (λ b. b || false) differs

pub named_here : (keys : List Key) (place : ℕ) (other key : Key) → place < length keys → other ≡ get_or keys place other
    → same_key other key ≡ true → is_named keys key ≡ true
named_here keys place other key within at same =
    ap (is_named keys) (sym (same_key_is other key same)) ∙ named_item keys place other within at
