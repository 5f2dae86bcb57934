-- The keys that stand at a neighbour, as a set that tests keys by the definition.
use Rattle.std.proofs.Common.{◌≡◌, ℕ, ◌+◌, ◌<◌, ◌≤◌, Bool, true, false, cond, List, [], ◌∷◌, ◌++◌, length, get_or, take}
use Rattle.std.proofs.Common.{Some, None, refl, sym, ap, ◌∙◌, subst, append_assoc, append-nil}
use Rattle.std.specs.Prelude.{if◌then◌else◌, is_some, map, unwrap_or}
use Rattle.std.specs.Cmp.{IsEquivalence}
use Rattle.std.specs.List.{list_any, IsDistinct}
use Rattle.std.specs.Set.{is_member}
use Rattle.std.proofs.lemmas.Bool.{both_ways}
use Rattle.std.proofs.lemmas.List.{map-append, take_all, take_more}
use Rattle.route_values.specs.contracts.key.KeyPartialEq.TheImpl.{ghosts}
use Rattle.route_values.specs.declared.key.Key.{Key}
use Rattle.route_values.specs.Key.{same_key}
use Rattle.route_values.proofs.ComparedLemmas.{key_tests}
use Rattle.route_values.proofs.KeyLemmas.{same_key_is, same_key-self}
use Rattle.update_grammar.specs.declared.effect.Effect.{Effect}
use Rattle.update_grammar.specs.declared.effect.Effect.TheVariants.{Gone, Here}
use Rattle.update_grammar.specs.Net.{effect_says, last_word, later_of, net}
use Rattle.update_grammar.specs.Packed.{named_by}
use Rattle.update_grammar.proofs.NetLemmas.{last_word-push}
use Rattle.script_play.specs.Standing.{AreLeftAt}

-- a key that was put in stands, and one that was taken out doesn't; no other changes
pub key_set : (old new : List Key) (key : Key) (so : Bool)
    → ((other : Key) → list_any (ghosts.eq other) new ≡ cond (ghosts.eq key other) so (list_any (ghosts.eq other) old))
    → (other : Key) → is_member same_key new other ≡ (if same_key key other then so else is_member same_key old other)
key_set old new key so says =
    let P : (Key → Key → Bool) → Type 0 = λ eq. (other : Key)
    → list_any (eq other) new ≡ cond (eq key other) so (list_any (eq other) old) in
    subst P key_tests says

-- keys that differ by the derived test do so by the definition's
pub keys_differ : (keys : List Key) → IsDistinct ghosts.eq keys → IsDistinct same_key keys
keys_differ keys distinct =
    let P : (Key → Key → Bool) → Type 0 = λ eq. IsDistinct eq keys in subst P key_tests distinct

pub same_sym : (a b : Key) → same_key a b ≡ same_key b a
same_sym a b = by_two (same_key a b) (same_key b a) refl refl
  where
    by_two : (one other : Bool) → same_key a b ≡ one → same_key b a ≡ other → one ≡ other
    by_two true true at back = refl
    by_two false false at back = refl
    by_two true false at back =
        absurd (both_ways (same_key b a) back (ap (same_key b) (same_key_is a b at) ∙ same_key-self b))
    by_two false true at back =
        absurd (both_ways (same_key a b) at (ap (same_key a) (same_key_is b a back) ∙ same_key-self a))

-- the laws of the test
pub same_laws : IsEquivalence same_key
same_laws = record {
  refl = same_key-self;
  symm = same_sym;
  congr = λ x y z same. ap (λ k. same_key k z) (same_key_is x y same);
}

-- ---- one effect more

-- whether an effect leaves something at its key
abbrev pub is_left_by : Effect → Bool
is_left_by (Here key attrs) = true
is_left_by (Gone key) = false

left_by : (effect : Effect) (effects : List Effect) (key : Key) → is_some (net (effects ++ effect ∷ []) key)
    ≡ (if same_key (named_by effect) key then is_left_by effect else is_some (net effects key))
left_by (Here k attrs) effects key =
    ap (λ word. is_some (unwrap_or word None)) (last_word-push effect_says effects (Here k attrs) key)
    ∙ by_same (same_key k key)
  where
    by_same : (same : Bool) → is_some (unwrap_or (later_of (if same then Some (Some attrs) else None)
        (last_word effect_says effects key)) None) ≡ (if same then true else is_some (net effects key))
    by_same true = refl
    by_same false = refl
left_by (Gone k) effects key =
    ap (λ word. is_some (unwrap_or word None)) (last_word-push effect_says effects (Gone k) key)
    ∙ by_same (same_key k key)
  where
    by_same : (same : Bool) → is_some (unwrap_or (later_of (if same then Some None else None)
        (last_word effect_says effects key)) None) ≡ (if same then false else is_some (net effects key))
    by_same true = refl
    by_same false = refl

-- the keys that stand behind one effect more
left_more : (effects : List Effect) (effect : Effect) (old new : List Key) → AreLeftAt effects old
    → ((other : Key) → is_member same_key new other
    ≡ (if same_key (named_by effect) other then is_left_by effect else is_member same_key old other))
    → AreLeftAt (effects ++ effect ∷ []) new
left_more effects effect old new left says = λ key.
    says key
    ∙ ap (λ so. if same_key (named_by effect) key then is_left_by effect else so) (left key)
    ∙ sym (left_by effect effects key)

-- ---- effects that keys have, one key behind the other

module _ (make : Key → Effect) (names : (key : Key) → named_by (make key) ≡ key) (so : Bool)
    (leaves : (key : Key) → is_left_by (make key) ≡ so) where
  -- the keys that stand behind those of the first keys
  abbrev pub Follow : List Key → ℕ → List Key → List Key → Type 0
  Follow keys i was now = (before : List Effect) → AreLeftAt before was
      → AreLeftAt (before ++ map make (take i keys)) now

  pub follow_none : (keys was : List Key) → Follow keys 0 was was
  follow_none keys was = λ before left.
      subst (λ (effects : List Effect). AreLeftAt effects was) (sym (append-nil before)) left

  pub follow_more : (keys : List Key) (i : ℕ) (key : Key) (was mid now : List Key) → i < length keys
      → key ≡ get_or keys i key → Follow keys i was mid
      → ((other : Key) → is_member same_key now other
      ≡ (if same_key key other then so else is_member same_key mid other))
      → Follow keys (i + 1) was now
  follow_more keys i key was mid now below is follow says = λ before left.
      subst (λ (effects : List Effect). AreLeftAt effects now) (sym (next before))
      (left_more (before ++ map make (take i keys)) (make key) mid now (follow before left) says_so)
    where
      next : (before : List Effect)
          → before ++ map make (take (i + 1) keys) ≡ (before ++ map make (take i keys)) ++ make key ∷ []
      next before =
          ap (λ ks. before ++ map make ks) (take_more keys i key below)
          ∙ ap (λ k. before ++ map make (take i keys ++ k ∷ [])) (sym is)
          ∙ ap (λ (es : List Effect). before ++ es) (map-append make (take i keys) (key ∷ []))
          ∙ sym (append_assoc before (map make (take i keys)) (make key ∷ []))

      says_so : (other : Key) → is_member same_key now other
          ≡ (if same_key (named_by (make key)) other then is_left_by (make key) else is_member same_key mid other)
      says_so other =
          says other
          ∙ ap (λ b. if same_key key other then b else is_member same_key mid other) (sym (leaves key))
          ∙ ap (λ k. if same_key k other then is_left_by (make key) else is_member same_key mid other)
          (sym (names key))

  pub follow_all : (keys : List Key) (i : ℕ) (was now : List Key) → length keys ≤ i → Follow keys i was now
      → (before : List Effect) → AreLeftAt before was → AreLeftAt (before ++ map make keys) now
  follow_all keys i was now through follow before left =
      subst (λ (ks : List Key). AreLeftAt (before ++ map make ks) now) (take_all i keys through) (follow before left)
