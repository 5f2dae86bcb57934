-- One more key of a table is changed.
use Rattle.std.proofs.Common.{◌≡◌, ℕ, ◌<◌, zero, suc, Bool, true, false, List, [], ◌∷◌, ◌++◌, refl, sym, ap}
use Rattle.std.proofs.Common.{◌∙◌, ◌+◌, subst, length, get_or, take, arith, inl, inr}
use Rattle.std.proofs.lemmas.List.{take_more}
use Rattle.std.specs.Prelude.{◌||◌, if◌then◌else◌, Option}
use Rattle.std.specs.Option.{option_map}
use Rattle.std.proofs.lemmas.Bool.{or_cases}
use Rattle.route_values.specs.declared.key.Key.{Key}
use Rattle.route_values.specs.Key.{same_key}
use Rattle.route_values.proofs.KeyLemmas.{same_key_is, same_key-self}
use Rattle.adj_rib_out.specs.declared.entry.Owner.{Owner}
use Rattle.adj_rib_out.specs.State.{State, Route, route_at, value_at, route_of}
use Rattle.adj_rib_out.specs.Calls.{Sets}
use Rattle.peer_history.specs.Keys.{is_named}
use Rattle.peer_history.proofs.KeyLemmas.{is_named-append}
use Rattle.peer_book.specs.Slot.{IsKey}
use Rattle.peer_book.specs.Tables.{SetsEach, AreKeys}

-- nothing has changed
pub sets_none : (state : State) (route : Option Route) → SetsEach state state [] route
sets_none state route = record {
  side = refl;
  routes = λ key. refl;
  ready = record { places = refl; keys = λ key. refl; values = λ number. refl };
  session = record { session = refl; told = λ key. refl };
  batch = record { left = refl; markers = refl };
}

one_more : {A : Type 0} (named same : Bool) (route other : A)
    → (if same then route else (if named then route else other))
    ≡ (if named || (same || false) then route else other)
one_more true true route other = refl
one_more true false route other = refl
one_more false true route other = refl
one_more false false route other = refl

pub sets_more : (old mid new : State) (keys : List Key) (key : Key) (route : Option Route)
    → SetsEach old mid keys route → Sets mid new key route → SetsEach old new (keys ++ key ∷ []) route
sets_more old mid new keys key route each sets = record {
  side = sets.side ∙ each.side;
  routes = λ k. sets.routes k ∙ ap (λ (r : Option Route). if same_key key k then route else r) (each.routes k)
      ∙ one_more (is_named keys k) (same_key key k) route (route_at old k)
      ∙ ap (λ (b : Bool). if b then route else route_at old k) (sym (is_named-append keys (key ∷ []) k));
  ready = record {
    places = sets.ready.places ∙ each.ready.places;
    keys = λ k. sets.ready.keys k ∙ each.ready.keys k;
    values = λ n. sets.ready.values n ∙ each.ready.values n;
  };
  session = record {
    session = sets.session.session ∙ each.session.session;
    told = λ k. sets.session.told k ∙ each.session.told k;
  };
  batch = record {
    left = sets.batch.left ∙ each.batch.left;
    markers = sets.batch.markers ∙ each.batch.markers;
  };
}

pub sets_next : (old mid new : State) (keys : List Key) (i : ℕ) (key : Key) (route : Option Route) → i < length keys
    → key ≡ get_or keys i key → SetsEach old mid (take i keys) route → Sets mid new key route
    → SetsEach old new (take (i + 1) keys) route
sets_next old mid new keys i key route within is each sets =
    subst (λ ks. SetsEach old new ks route) (sym (take_more keys i key within))
    (subst (λ k. SetsEach old new (take i keys ++ k ∷ []) route) is (sets_more old mid new
    (take i keys) key route each sets))

-- the route of a value in a table that keeps its side and its values
pub route_same : (old mid : State) (keys : List Key) (route : Option Route) (number : ℕ) (owner : Owner)
    → SetsEach old mid keys route → option_map (λ written. route_of mid.side written owner) (value_at mid number)
    ≡ option_map (λ written. route_of old.side written owner) (value_at old number)
route_same old mid keys route number owner each =
    ap (λ side. option_map (λ written. route_of side written owner) (value_at mid number)) each.side
    ∙ ap (option_map (λ written. route_of old.side written owner)) (each.ready.values number)

-- a key of the list is among them
pub named_at : (keys : List Key) (i : ℕ) (other : Key) → i < length keys → is_named keys (get_or keys i other) ≡ true
named_at [] i other h = absurd (omega arith)
named_at (k ∷ ks) zero other h = ap (λ b. b || is_named ks k) (same_key-self k)
named_at (k ∷ ks) (suc i) other h =
    let later = named_at ks i other (omega arith) in
    elim (same_key k (get_or ks i other)) as (λ b. (b || is_named ks (get_or ks i other)) ≡ true) [
      | true ↦ refl
      | false ↦ later
    ]

pub named_item : (keys : List Key) (i : ℕ) (key : Key) → i < length keys → key ≡ get_or keys i key
    → is_named keys key ≡ true
named_item keys i key within is = ap (is_named keys) is ∙ named_at keys i key within

keys_more : (keys : List Key) (key : Key) → AreKeys keys → IsKey key → AreKeys (keys ++ key ∷ [])
keys_more keys key are is other named =
    elim (or_cases (is_named keys other) (is_named (key ∷ []) other) (sym (is_named-append keys (key ∷ []) other)
    ∙ named)) [
      | inl before ↦ are other before
      | inr last ↦ elim (or_cases (same_key key other) false last) [
        | inl same ↦ subst IsKey (same_key_is key other same) is
        | inr none ↦ absurd cc
      ]
    ]

pub keys_next : (keys : List Key) (i : ℕ) (key : Key) → i < length keys → key ≡ get_or keys i key
    → AreKeys (take i keys) → IsKey key → AreKeys (take (i + 1) keys)
keys_next keys i key within at are is =
    subst AreKeys (sym (take_more keys i key within))
    (subst (λ k. AreKeys (take i keys ++ k ∷ [])) at (keys_more (take i keys) key are is))
