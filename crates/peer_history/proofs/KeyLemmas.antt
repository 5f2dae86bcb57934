-- Lists of keys: what they name, and how often.
use Rattle.std.proofs.Common.{◌≡◌, ◌+◌, Bool, true, false, not, List, [], ◌∷◌, ◌++◌, refl, ap, ◌∙◌, subst}
use Rattle.std.proofs.Common.{arith}
use Rattle.std.specs.Prelude.{◌||◌, if◌then◌else◌}
use Rattle.std.specs.List.{AllByRecursion}
use Rattle.std.proofs.lemmas.Bool.{and_parts, both_ways}
use Rattle.route_values.specs.declared.key.Key.{Key}
use Rattle.route_values.specs.Key.{same_key}
use Rattle.route_values.proofs.KeyLemmas.{same_key_is}
use Rattle.peer_history.specs.Keys.{is_named, times_named, AreSomeOf}

pub is_named-append : (xs ys : List Key) (key : Key) → is_named (xs ++ ys) key ≡ (is_named xs key || is_named ys key)
is_named-append [] ys key = refl
is_named-append (x ∷ xs) ys key =
    elim (same_key x key) as (λ b. (b || is_named (xs ++ ys) key) ≡ ((b || is_named xs key) || is_named ys key)) [
      | true ↦ refl
      | false ↦ is_named-append xs ys key
    ]

pub times_named-append : (xs ys : List Key) (key : Key)
    → times_named (xs ++ ys) key ≡ times_named xs key + times_named ys key
times_named-append [] ys key = omega arith
times_named-append (x ∷ xs) ys key = omega (arith, times_named-append xs ys key)

-- a key that is named passes the test
pub some_named : (keys : List Key) (test : Key → Bool) → AreSomeOf test keys → (key : Key)
    → is_named keys key ≡ true → test key ≡ true
some_named [] test h key n = cc
some_named (k ∷ ks) test h key n =
    elim (same_key k key) as (λ b. same_key k key ≡ b → test key ≡ true) [
      | true ↦ λ e. subst (λ x. test x ≡ true) (same_key_is k key e) h.0
      | false ↦ λ e. (and_parts _ _
          (some_named ks _ h.1 key (subst (λ b. (b || is_named ks key) ≡ true) e n))).0
    ] refl

-- each is named once
pub some_once : (keys : List Key) (test : Key → Bool) → AreSomeOf test keys → (key : Key)
    → times_named keys key ≡ (if is_named keys key then 1 else 0)
some_once [] test h key = refl
some_once (k ∷ ks) test h key =
    let rest = some_once ks _ h.1 key in
    elim (same_key k key) as (λ b. same_key k key ≡ b
    → (if b then 1 else 0) + times_named ks key ≡ (if b || is_named ks key then 1 else 0)) [
      | true ↦ λ e. elim (is_named ks key) as (λ n. is_named ks key ≡ n → 1 + times_named ks key ≡ 1) [
        | true ↦ λ n. absurd (both_ways (not (same_key k key)) (ap not e)
            (and_parts _ _ (some_named ks _ h.1 key n)).1)
        | false ↦ λ n.
            let none : times_named ks key ≡ 0 = subst (λ b. times_named ks key ≡ (if b then 1 else 0)) n rest in
            omega arith
      ] refl
      | false ↦ λ e.
          let zero_first : 0 + times_named ks key ≡ times_named ks key = omega arith in zero_first ∙ rest
    ] refl

-- a fact about each holds of one that is named
pub each_named : (P : Key → Type 0) (keys : List Key) → AllByRecursion P keys → (key : Key)
    → is_named keys key ≡ true → P key
each_named P [] h key n = absurd cc
each_named P (k ∷ ks) h key n =
    elim (same_key k key) as (λ b. same_key k key ≡ b → P key) [
      | true ↦ λ e. subst P (same_key_is k key e) h.0
      | false ↦ λ e. each_named P ks h.1 key (subst (λ b. (b || is_named ks key) ≡ true) e n)
    ] refl
