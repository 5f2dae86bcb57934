-- A table whose static routes are those of a new section.
use Rattle.std.proofs.Common.{◌≡◌, ℕ, ◌<◌, zero, suc, Bool, true, false, not, List, [], ◌∷◌, length}
use Rattle.std.proofs.Common.{Some, None, get_or, refl, sym, ap, ◌∙◌, subst, arith}
use Rattle.std.specs.Prelude.{◌&&◌, ◌||◌, Option, is_some, if◌then◌else◌}
use Rattle.std.specs.Option.{option_map, option_and_then}
use Rattle.std.proofs.lemmas.Option.{same_Some}
use Rattle.route_values.specs.declared.attrs.Attrs.{Attrs}
use Rattle.route_values.specs.declared.key.Key.{Key}
use Rattle.route_values.specs.declared.settings.Side.{Side}
use Rattle.route_values.specs.Key.{family_of_key, same_key}
use Rattle.route_values.specs.Sent.{sent}
use Rattle.route_values.proofs.KeyLemmas.{same_key_is, same_key-self}
use Rattle.batch_cutter.specs.Heads.{IsRoute}
use Rattle.config_model.specs.declared.sections.StaticRoute.{StaticRoute}
use Rattle.adj_rib_out.specs.declared.entry.Owner.{Owner}
use Rattle.adj_rib_out.specs.declared.entry.Owner.TheVariants as keeper
use Rattle.adj_rib_out.specs.State.{State, Route, route_at, value_at, route_of}
use Rattle.adj_rib_out.specs.Calls.{KeepsReady}
use Rattle.peer_history.specs.Steps.{Static}
use Rattle.peer_history.specs.Table.{is_of_helper, static_at}
use Rattle.peer_history.specs.Table as history
use Rattle.peer_book.specs.Keeping.{CanPut, Drops, KeepsStatics, PutsOver}
use Rattle.peer_book.specs.Numbers.{number_at, is_helpers, is_gone, is_static, route_ready, AreNumbered}
use Rattle.peer_book.specs.Stands.{asked, owner_of}
use Rattle.peer_book.specs.Statics.{statics_of, AreRoutes}
use Rattle.peer_book.proofs.OverLemmas.{given_if, given_helpers, given_plain, ready_same}

-- ---- what stands ready stays so

value_same : (old new : State) → KeepsReady old new → (number : Option ℕ)
    → option_and_then (value_at new) number ≡ option_and_then (value_at old) number
value_same old new ready None = refl
value_same old new ready (Some n) = ready.values n

pub numbered_kept : (old new : State) (statics : List Static) (numbers : List (Key × ℕ)) → KeepsReady old new
    → AreNumbered old statics numbers → AreNumbered new statics numbers
numbered_kept old new statics numbers ready are = record {
  all = are.all;
  ready = λ key is. ready.keys key ∙ are.ready key is;
  values = λ key. value_same old new ready (number_at numbers key) ∙ are.values key;
}

-- ---- what may be put

-- each static route is within the limits, so the first of each key is
route_of_key : (side : Side) (routes : List StaticRoute) (key : Key) (route : history.Route) → AreRoutes side routes
    → static_at (statics_of routes) key ≡ Some route → IsRoute (family_of_key key) (sent route.attrs side)
route_of_key side [] key route are is =
    absurd (let no_way : ◌≡◌ {A = Option history.Route} None (Some route) = is in cc)
route_of_key side (r ∷ rs) key route are is =
    elim (same_key r.key key) as (λ b. same_key r.key key ≡ b
    → (if b then Some (record { attrs = r.attrs; owner = history.Configuration }) else static_at (statics_of rs) key)
    ≡ Some route → IsRoute (family_of_key key) (sent route.attrs side)) [
      | true ↦ λ same at.
          let one : record { attrs = r.attrs; owner = history.Configuration } ≡ route = same_Some _ _ at in
          subst (λ (x : history.Route). IsRoute (family_of_key key) (sent x.attrs side)) one
          (subst (λ (k : Key). IsRoute (family_of_key k) (sent r.attrs side)) (same_key_is r.key key same) are.0)
      | false ↦ λ other at. route_of_key side rs key route are.1 at
    ] refl is

static_there : (routes : List StaticRoute) (i : ℕ) (route : StaticRoute) → i < length routes
    → route ≡ get_or routes i route → is_some (static_at (statics_of routes) route.key) ≡ true
static_there routes i route within is =
    ap (λ (r : StaticRoute). is_some (static_at (statics_of routes) r.key)) is ∙ at_place routes i within
  where
    at_place : (rs : List StaticRoute) (j : ℕ) → j < length rs
        → is_some (static_at (statics_of rs) (get_or rs j route).key) ≡ true
    at_place [] j below = absurd (omega arith)
    at_place (r ∷ rs) zero below =
        ap (λ b. is_some {T = history.Route} (if b then Some (record { attrs = r.attrs; owner = history.Configuration })
        else static_at (statics_of rs) r.key)) (same_key-self r.key)
    at_place (r ∷ rs) (suc j) below =
        let later = at_place rs j (omega arith) in
        elim (same_key r.key (get_or rs j route).key) as (λ b. is_some {T = history.Route} (if b
        then Some (record { attrs = r.attrs; owner = history.Configuration })
        else static_at (statics_of rs) (get_or rs j route).key) ≡ true) [
          | true ↦ refl
          | false ↦ later
        ]

-- what stands ready under a number is the value of a static route
value_of_key : (value : Option Attrs) (route : Option history.Route) (written : Attrs)
    → value ≡ option_map (λ (r : history.Route). r.attrs) route → value ≡ Some written
    → (r : history.Route) × (route ≡ Some r) × (r.attrs ≡ written)
value_of_key value None written is at =
    absurd (let no_way : ◌≡◌ {A = Option Attrs} None (Some written) = sym is ∙ at in cc)
value_of_key value (Some r) written is at = (r, refl, same_Some _ _ (sym is ∙ at))

value_there : (value : Option Attrs) (route : Option history.Route)
    → value ≡ option_map (λ (r : history.Route). r.attrs) route → is_some route ≡ true → is_some value ≡ true
value_there value None is there = absurd (let no_way : false ≡ true = there in cc)
value_there value (Some r) is there = ap (λ (v : Option Attrs). is_some v) is

pub can_put : (table : State) (routes : List StaticRoute) (numbers : List (Key × ℕ)) (i : ℕ) (route : StaticRoute)
    → i < length routes → route ≡ get_or routes i route → AreNumbered table (statics_of routes) numbers
    → AreRoutes table.side routes → CanPut table numbers route.key
can_put table routes numbers i route within is are fit =
    let there = static_there routes i route within is in
    record {
      ready = are.ready route.key (are.all route.key ∙ there);
      value = value_there (option_and_then (value_at table) (number_at numbers route.key))
          (static_at (statics_of routes) route.key) (are.values route.key) there;
      route = λ written at.
          let found = value_of_key (option_and_then (value_at table) (number_at numbers route.key))
          (static_at (statics_of routes) route.key) written (are.values route.key) at in
          subst (λ w. IsRoute (family_of_key route.key) (sent w table.side)) found.2
          (route_of_key table.side routes route.key found.0 fit found.1);
    }

-- ---- the whole

-- the configuration asked for static routes
static_own : (statics : List Static) (key : Key) (route : history.Route) → static_at statics key ≡ Some route
    → route.owner ≡ history.Configuration
static_own [] key route is = absurd (let no_way : ◌≡◌ {A = Option history.Route} None (Some route) = is in cc)
static_own (s ∷ ss) key route is =
    elim (same_key s.key key) as (λ b.
    (if b then Some (record { attrs = s.attrs; owner = history.Configuration }) else static_at ss key) ≡ Some route
    → route.owner ≡ history.Configuration) [
      | true ↦ λ at. ap (λ (r : history.Route). r.owner) (sym (same_Some _ _ at))
      | false ↦ λ at. static_own ss key route at
    ] is

-- a route's owner, as it is in the table and as it was asked for
pub helpers_same : (route : Option Route) → is_of_helper (option_map asked route) ≡ is_helpers route
helpers_same None = refl
helpers_same (Some route) = by (route.owner)
  where
    by : (owner : Owner)
        → is_of_helper (Some (record { attrs = route.written; owner = owner_of owner }))
        ≡ not (is_static owner)
    by keeper.Static = refl
    by keeper.Helper = refl

gone_by : (numbers : List (Key × ℕ)) (key : Key) (route : Option Route) (numbered : Bool)
    → is_some (number_at numbers key) ≡ numbered
    → (if is_gone numbers key route then None else route) ≡ (if is_helpers route || numbered then route else None)
gone_by numbers key None numbered is = by numbered
  where
    by : (b : Bool) → ◌≡◌ {A = Option Route} None (if b then None else None)
    by true = refl
    by false = refl
gone_by numbers key (Some route) numbered is =
    ap (λ n. if is_static route.owner && not n then None else Some route) is ∙ by (is_static route.owner) numbered
  where
    by : (fixed n : Bool) → (if fixed && not n then None else Some route)
        ≡ (if not fixed || n then Some route else None)
    by true true = refl
    by true false = refl
    by false true = refl
    by false false = refl

pub keeps : (old mid new : State) (statics : List Static) (numbers : List (Key × ℕ))
    → AreNumbered old statics numbers → Drops numbers old mid → PutsOver statics numbers mid new
    → KeepsStatics old new statics
keeps old mid new statics numbers are drops puts = record {
  side = puts.side ∙ drops.side;
  routes = λ key. ap (option_map asked) (puts.routes key
      ∙ ap (λ r. given_if (is_some (static_at statics key)) r (route_at mid key))
      (ready_same old mid numbers key drops.side drops.ready)
      ∙ ap (given_if (is_some (static_at statics key)) (route_ready old numbers key)) (drops.routes key
      ∙ gone_by numbers key (route_at old key) (is_some (static_at statics key)) (are.all key)))
      ∙ by_key (route_at old key) (static_at statics key) (option_and_then (value_at old) (number_at numbers key))
      (are.values key) (static_own statics key) (is_helpers (route_at old key)) refl
      ∙ ap (λ b. if b then option_map asked (route_at old key) else static_at statics key)
      (sym (helpers_same (route_at old key)));
  session = record {
    session = puts.session.session ∙ drops.session.session;
    told = λ key. puts.session.told key ∙ drops.session.told key;
  };
  batch = record {
    left = puts.batch.left ∙ drops.batch.left;
    markers = puts.batch.markers ∙ drops.batch.markers;
  };
}
  where
    -- what stands at a key where no helper's route does
    by_static : (was : Option Route) (static : Option history.Route) (value : Option Attrs)
        → value ≡ option_map (λ (r : history.Route). r.attrs) static
        → ((r : history.Route) → static ≡ Some r → r.owner ≡ history.Configuration) → is_helpers was ≡ false
        → option_map asked (given_if (is_some static) (option_map (λ w. route_of old.side w keeper.Static) value)
        (if is_helpers was || is_some static then was else None)) ≡ static
    by_static was None value is fixed plain =
        ap (λ h. option_map asked (if h || false then was else None)) plain
    by_static was (Some r) value is fixed plain =
        let route = option_map (λ w. route_of old.side w keeper.Static) value in
        ap (λ h. option_map asked (given_if true route (if h || true then was else None))) plain
        ∙ ap (option_map asked) (given_plain true route was plain)
        ∙ ap (λ v. option_map asked (option_map (λ w. route_of old.side w keeper.Static) v)) is
        ∙ ap (λ o. Some (record { attrs = r.attrs; owner = o })) (sym (fixed r refl))

    by_key : (was : Option Route) (static : Option history.Route) (value : Option Attrs)
        → value ≡ option_map (λ (r : history.Route). r.attrs) static
        → ((r : history.Route) → static ≡ Some r → r.owner ≡ history.Configuration) → (helpers : Bool)
        → is_helpers was ≡ helpers
        → option_map asked (given_if (is_some static) (option_map (λ w. route_of old.side w keeper.Static) value)
        (if is_helpers was || is_some static then was else None))
        ≡ (if is_helpers was then option_map asked was else static)
    by_key was static value is fixed true own =
        let route = option_map (λ w. route_of old.side w keeper.Static) value in
        ap (λ h. option_map asked (given_if (is_some static) route (if h || is_some static then was else None))) own
        ∙ ap (option_map asked) (given_helpers (is_some static) route was own)
        ∙ ap (λ h. if h then option_map asked was else static) (sym own)
    by_key was static value is fixed false own =
        by_static was static value is fixed own ∙ ap (λ h. if h then option_map asked was else static) (sym own)
