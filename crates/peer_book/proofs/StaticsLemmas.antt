-- Static routes that are put into a table.
use Rattle.std.proofs.Common.{◌≡◌, ℕ, ◌+◌, ◌<◌, zero, suc, Bool, true, false, not, List, [], ◌∷◌, ◌++◌, length}
use Rattle.std.proofs.Common.{get_or, take}
use Rattle.std.proofs.Common.{Some, None, refl, sym, ap, ◌∙◌, subst, arith, eq-eqb}
use Rattle.std.specs.Prelude.{◌||◌, Option, is_some, if◌then◌else◌}
use Rattle.std.specs.Option.{option_map, option_or}
use Rattle.std.specs.List.{AllByRecursion}
use Rattle.std.proofs.lemmas.Option.{same_Some}
use Rattle.std.proofs.lemmas.List.{take_more}
use Rattle.route_values.specs.declared.attrs.Attrs.{Attrs}
use Rattle.route_values.specs.declared.key.Key.{Key}
use Rattle.route_values.specs.Key.{family_of_key, same_key}
use Rattle.route_values.specs.Sent.{sent}
use Rattle.route_values.proofs.KeyLemmas.{same_key_is}
use Rattle.batch_cutter.specs.Heads.{IsRoute}
use Rattle.config_model.specs.declared.sections.StaticRoute.{StaticRoute}
use Rattle.adj_rib_out.specs.declared.entry.Owner.TheVariants as keeper
use Rattle.adj_rib_out.specs.State.{State, Route, is_ready, route_at, value_at, route_of}
use Rattle.adj_rib_out.specs.Calls.{Readies}
use Rattle.peer_history.specs.Steps.{Static}
use Rattle.peer_history.specs.Table.{static_at}
use Rattle.peer_history.specs.Table as history
use Rattle.peer_book.specs.Slot.{IsRoutable, IsSound}
use Rattle.peer_book.specs.Stands.{asked}
use Rattle.peer_book.specs.Statics.{static_of, statics_of, PutsStatics}
use Rattle.peer_book.specs.Tables.{SetsEach, AreKeys, AreReady}
use Rattle.peer_book.proofs.KeptLemmas.{IsCalm, FitsEach, sound_calm, sound_sets}

pub calm_readies : (old mid : State) (keys : List Key) (written : Attrs) (number : ℕ)
    → Readies old mid keys written number → IsCalm old mid
calm_readies old mid keys written number ready =
    record { routes = ready.routes; session = ready.session; batch = ready.batch }

-- the value that stands ready is the one that was asked for
pub ready_value : (old mid : State) (keys : List Key) (written : Attrs) (number : ℕ)
    → Readies old mid keys written number → value_at mid number ≡ Some written
ready_value old mid keys written number ready =
    ready.value number ∙ ap (λ b. if b then Some written else value_at old number) (eq-eqb number number refl)

-- an answer that is none
pub none_at : {A B : Type 0} (f : A → B) (o : Option A) (b : Bool) (r : Option B) → is_some o ≡ not b → b ≡ true
    → option_map f o ≡ r → r ≡ None
none_at f None b r is so at = sym at
none_at f (Some a) b r is so at = absurd (let no_way : true ≡ false = is ∙ ap not so in cc)

pub or_none : {A : Type 0} (o : Option A) → o ≡ option_or o None
or_none None = refl
or_none (Some a) = refl

-- ---- one route

module _ (old mid new : State) (key : Key) (written : Attrs) (number : ℕ)
    (ready : Readies old mid (key ∷ []) written number) (free : route_at mid key ≡ None)
    (sets : SetsEach mid new (key ∷ []) (option_map (λ w. route_of mid.side w keeper.Static)
    (value_at mid number))) where
  route_is : option_map (λ w. route_of mid.side w keeper.Static) (value_at mid number)
      ≡ Some (route_of mid.side written keeper.Static)
  route_is = ap (option_map (λ w. route_of mid.side w keeper.Static)) (ready_value old mid
      (key ∷ []) written number ready)

  routes_put : (k : Key) → option_map asked (route_at new k)
      ≡ option_or (option_map asked (route_at old k))
      (static_at (record { key = key; attrs = written } ∷ []) k)
  routes_put k =
      ap (option_map asked) (sets.routes k)
      ∙ elim (same_key key k) as (λ b. same_key key k ≡ b
      → option_map asked (if b || false then option_map (λ w. route_of mid.side w keeper.Static) (value_at mid number)
      else route_at mid k)
      ≡ option_or (option_map asked (route_at old k))
      (if b then Some (record { attrs = written; owner = history.Configuration }) else None)) [
        | true ↦ λ same.
            let none : route_at old k ≡ None =
            sym (ready.routes.routes k) ∙ ap (route_at mid) (sym (same_key_is key k same)) ∙ free in
            ap (option_map asked) route_is
            ∙ ap (λ (r : Option Route). option_or (option_map asked r)
            (Some (record { attrs = written; owner = history.Configuration }))) (sym none)
        | false ↦ λ other. ap (option_map asked) (ready.routes.routes k) ∙ or_none (option_map asked (route_at old k))
      ] refl

  pub put_new : PutsStatics old new (record { key = key; attrs = written } ∷ [])
  put_new = record {
    side = sets.side ∙ ready.routes.side;
    routes = routes_put;
    session = record {
      session = sets.session.session ∙ ready.session.session;
      told = λ k. sets.session.told k ∙ ready.session.told k;
    };
    batch = record {
      left = sets.batch.left ∙ ready.batch.left;
      markers = sets.batch.markers ∙ ready.batch.markers;
    };
  }

  fits_put : AreKeys (key ∷ []) → IsRoute (family_of_key key) (sent written old.side)
      → FitsEach mid (key ∷ []) (option_map (λ w. route_of mid.side w keeper.Static) (value_at mid number))
  fits_put are route k one named is =
      let same_route : route_of mid.side written keeper.Static ≡ one = same_Some _ _ (sym route_is ∙ is) in
      subst (λ (r : Route). IsRoutable k r.attrs × (r.attrs ≡ sent r.written mid.side)) same_route (
        record {
          is_key = are k named;
          route = elim (same_key key k) as (λ b. same_key key k ≡ b → (b || false) ≡ true
              → IsRoute (family_of_key k) (sent written mid.side)) [
                | true ↦ λ same so. subst (λ j. IsRoute (family_of_key j) (sent written mid.side))
                    (same_key_is key k same)
                    (subst (λ side. IsRoute (family_of_key key) (sent written side)) (sym ready.routes.side) route)
                | false ↦ λ other so. absurd cc
              ] refl named;
        },
        refl,
      )

  pub sound_put : IsSound old → AreKeys (key ∷ []) → IsRoute (family_of_key key) (sent written old.side) → IsSound new
  sound_put sound are route =
      sound_sets mid new (key ∷ []) _
      (sound_calm old mid sound (calm_readies old mid (key ∷ []) written number ready)) sets (fits_put are route)

-- a key that has a route already
some_at : {A B : Type 0} (f : A → B) (o : Option A) (b : Bool) (r : Option B) → is_some o ≡ not b → b ≡ false
    → option_map f o ≡ r → is_some r ≡ true
some_at f None b r is so at = absurd (let no_way : false ≡ true = is ∙ ap not so in cc)
some_at f (Some a) b r is so at = ap is_some (sym at)

or_some : {A : Type 0} (o other : Option A) → is_some o ≡ true → o ≡ option_or o other
or_some None other h = cc
or_some (Some a) other h = refl

some_asked : (route : Option Route) → is_some route ≡ true → is_some (option_map asked route) ≡ true
some_asked None h = h
some_asked (Some route) h = refl

pub put_there : {A : Type 0} (f : A → Route) (old mid : State) (key : Key) (written : Attrs) (number : ℕ)
    (found : Option A) (free : Bool) → Readies old mid (key ∷ []) written number → is_some found ≡ not free
    → free ≡ false
    → option_map f found ≡ route_at mid key → PutsStatics old mid (record { key = key; attrs = written } ∷ [])
put_there f old mid key written number found free ready is so at = record {
  side = ready.routes.side;
  routes = λ k. ap (option_map asked) (ready.routes.routes k)
      ∙ elim (same_key key k) as (λ b. same_key key k ≡ b → option_map asked (route_at old k)
      ≡ option_or (option_map asked (route_at old k))
      (if b then Some (record { attrs = written; owner = history.Configuration }) else None)) [
        | true ↦ λ same.
            let there : is_some (route_at old k) ≡ true =
            ap is_some (sym (ready.routes.routes k) ∙ ap (route_at mid) (sym (same_key_is key k same)))
            ∙ some_at f found free (route_at mid key) is so at in
            or_some (option_map asked (route_at old k)) _ (some_asked (route_at old k) there)
        | false ↦ λ other. or_none (option_map asked (route_at old k))
      ] refl;
  session = ready.session;
  batch = ready.batch;
}

-- the key stands ready
pub key_ready : (old mid : State) (key : Key) (written : Attrs) (number : ℕ) → Readies old mid (key ∷ []) written number
    → AreReady mid (key ∷ [])
key_ready old mid key written number ready k named =
    ready.keys k ∙ ap (λ b. b || is_ready old k) named

-- ---- several routes

pub static_more : (statics : List Static) (s : Static) (key : Key)
    → static_at (statics ++ s ∷ []) key ≡ option_or (static_at statics key) (static_at (s ∷ []) key)
static_more [] s key = refl
static_more (t ∷ ts) s key =
    elim (same_key t.key key) as (λ b.
    (if b then Some (record { attrs = t.attrs; owner = history.Configuration }) else static_at (ts ++ s ∷ []) key)
    ≡ option_or (if b then Some (record { attrs = t.attrs; owner = history.Configuration }) else static_at ts key)
    (static_at (s ∷ []) key)) [
      | true ↦ refl
      | false ↦ static_more ts s key
    ]

or_or : {A : Type 0} (a b c : Option A) → option_or (option_or a b) c ≡ option_or a (option_or b c)
or_or None b c = refl
or_or (Some a) b c = refl

pub puts_none : (state : State) → PutsStatics state state []
puts_none state = record {
  side = refl;
  routes = λ key. or_none (option_map asked (route_at state key));
  session = record { session = refl; told = λ key. refl };
  batch = record { left = refl; markers = refl };
}

puts_more : (old mid new : State) (statics : List Static) (s : Static) → PutsStatics old mid statics
    → PutsStatics mid new (s ∷ []) → PutsStatics old new (statics ++ s ∷ [])
puts_more old mid new statics s before puts = record {
  side = puts.side ∙ before.side;
  routes = λ key. puts.routes key
      ∙ ap (λ (r : Option history.Route). option_or r (static_at (s ∷ []) key)) (before.routes key)
      ∙ or_or (option_map asked (route_at old key)) (static_at statics key) (static_at (s ∷ []) key)
      ∙ ap (option_or (option_map asked (route_at old key))) (sym (static_more statics s key));
  session = record {
    session = puts.session.session ∙ before.session.session;
    told = λ key. puts.session.told key ∙ before.session.told key;
  };
  batch = record {
    left = puts.batch.left ∙ before.batch.left;
    markers = puts.batch.markers ∙ before.batch.markers;
  };
}

pub statics_more : (routes : List StaticRoute) (route : StaticRoute)
    → statics_of (routes ++ route ∷ []) ≡ statics_of routes ++ static_of route ∷ []
statics_more [] route = refl
statics_more (r ∷ rs) route = ap (λ ss. static_of r ∷ ss) (statics_more rs route)

pub puts_next : (old mid new : State) (routes : List StaticRoute) (i : ℕ) (route : StaticRoute) → i < length routes
    → route ≡ get_or routes i route → PutsStatics old mid (statics_of (take i routes))
    → PutsStatics mid new (static_of route ∷ []) → PutsStatics old new (statics_of (take (i + 1) routes))
puts_next old mid new routes i route within is before puts =
    subst (λ rs. PutsStatics old new (statics_of rs)) (sym (take_more routes i route within))
    (subst (λ r. PutsStatics old new (statics_of (take i routes ++ r ∷ []))) is
    (subst (PutsStatics old new) (sym (statics_more (take i routes) route))
    (puts_more old mid new (statics_of (take i routes)) (static_of route) before puts)))

-- an item of a list of which a fact holds
pub all_get : {A : Type 0} (P : A → Type 0) (items : List A) (i : ℕ) (other : A) → i < length items
    → AllByRecursion P items → P (get_or items i other)
all_get P [] i other within all = absurd (omega arith)
all_get P (item ∷ items) zero other within all = all.0
all_get P (item ∷ items) (suc i) other within all = all_get P items i other (omega arith) all.1
