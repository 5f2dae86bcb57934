-- Static routes and their keys: what a set of keys says of a list of routes.
use Rattle.std.proofs.Common.{◌≡◌, Bool, true, false, cond, ◌||◌, List, [], ◌∷◌, ◌++◌, ap, refl, subst, ◌∙◌, sym}
use Rattle.std.specs.List.{list_any}
use Rattle.route_values.specs.contracts.key.KeyPartialEq.TheImpl.{ghosts as key_test}
use Rattle.route_values.specs.declared.key.Key.{Key}
use Rattle.route_values.specs.Key.{same_key}
use Rattle.route_values.proofs.ComparedLemmas.{key_tests}
use Rattle.config_model.specs.declared.sections.StaticRoute.{StaticRoute}
use Rattle.config_reader.specs.Keyed.{AreKeys}
use Rattle.config_reader.specs.Statics.{stood}

-- no key is that of no route
pub no_keys : (keys : List Key) → keys ≡ [] → AreKeys keys []
no_keys keys none key = ap (list_any (same_key key)) none

either_last : (near : Bool) → near || false ≡ cond near true false
either_last true = refl
either_last false = refl

either_behind : (first near before : Bool) → first || cond near true before ≡ cond near true (first || before)
either_behind true true before = refl
either_behind true false before = refl
either_behind false true before = refl
either_behind false false before = refl

-- a key stood among routes with one more at the end: it is that one's, or it stood before
stood_behind : (routes : List StaticRoute) (route : StaticRoute) (key : Key)
    → stood (routes ++ route ∷ []) key ≡ cond (same_key route.key key) true (stood routes key)
stood_behind [] route key = either_last (same_key route.key key)
stood_behind (first ∷ others) route key =
    ap (λ behind. same_key first.key key || behind) (stood_behind others route key)
    ∙ either_behind (same_key first.key key) (same_key route.key key) (stood others key)

keyed_same : (eq : Key → Key → Bool) → eq ≡ same_key → (old new : List Key) (added : Key)
    → ((key : Key) → list_any (eq key) new ≡ cond (eq added key) true (list_any (eq key) old))
    → (key : Key) → list_any (same_key key) new ≡ cond (same_key added key) true (list_any (same_key key) old)
keyed_same eq is old new added says =
    let P : (Key → Key → Bool) → Type 0 = λ test. (key : Key)
    → list_any (test key) new ≡ cond (test added key) true (list_any (test key) old) in
    subst P is says

-- the keys of routes with one more at the end
pub keys_behind : (old new : List Key) (routes : List StaticRoute) (route : StaticRoute)
    → ((key : Key) → list_any (key_test.eq key) new
    ≡ cond (key_test.eq route.key key) true (list_any (key_test.eq key) old))
    → AreKeys old routes → AreKeys new (routes ++ route ∷ [])
keys_behind old new routes route says are key =
    keyed_same key_test.eq key_tests old new route.key says key
    ∙ ap (cond (same_key route.key key) true) (are key)
    ∙ sym (stood_behind routes route key)

-- the map's test of a key among them
pub key_stood : (keys : List Key) (routes : List StaticRoute) (key : Key) → AreKeys keys routes
    → list_any (key_test.eq key) keys ≡ stood routes key
key_stood keys routes key are = ap (λ (test : Key → Key → Bool). list_any (test key) keys) key_tests ∙ are key

pub keys_put : (old new : List Key) (routes all : List StaticRoute) (route : StaticRoute)
    → ((key : Key) → list_any (key_test.eq key) new
    ≡ cond (key_test.eq route.key key) true (list_any (key_test.eq key) old))
    → AreKeys old routes → all ≡ routes ++ route ∷ [] → AreKeys new all
keys_put old new routes all route says are is =
    subst (AreKeys new) (sym is) (keys_behind old new routes route says are)
