-- Static routes that are put into a table, unless a helper's route stands at their key.
use Rattle.std.proofs.Common.{◌≡◌, ℕ, ◌+◌, ◌<◌, Bool, true, false, not, List, [], ◌∷◌, ◌++◌, length}
use Rattle.std.proofs.Common.{Some, None, get_or, take, refl, sym, ap, ◌∙◌, subst}
use Rattle.std.specs.Prelude.{◌&&◌, ◌||◌, Option, is_some, if◌then◌else◌}
use Rattle.std.specs.Option.{option_map, option_and_then, option_or}
use Rattle.std.proofs.lemmas.List.{take_more}
use Rattle.std.proofs.lemmas.Option.{same_Some}
use Rattle.route_values.specs.declared.attrs.Attrs.{Attrs}
use Rattle.route_values.specs.declared.key.Key.{Key}
use Rattle.route_values.specs.declared.settings.Side.{Side}
use Rattle.route_values.specs.Key.{family_of_key, same_key}
use Rattle.route_values.specs.Sent.{sent}
use Rattle.route_values.proofs.KeyLemmas.{same_key_is}
use Rattle.batch_cutter.specs.Heads.{IsRoute}
use Rattle.config_model.specs.declared.sections.StaticRoute.{StaticRoute}
use Rattle.adj_rib_out.specs.declared.entry.Owner.TheVariants as keeper
use Rattle.adj_rib_out.specs.State.{State, Route, is_ready, route_at, value_at, route_of}
use Rattle.adj_rib_out.specs.Calls.{KeepsReady}
use Rattle.peer_history.specs.Steps.{Static}
use Rattle.peer_history.specs.Table.{is_of_helper, static_at}
use Rattle.peer_history.specs.Table as history
use Rattle.peer_book.specs.Keeping.{CanPut, PutsOver}
use Rattle.peer_book.specs.Numbers.{number_at, is_helpers, route_ready}
use Rattle.peer_book.specs.Slot.{IsRoutable, IsSound}
use Rattle.peer_book.specs.Statics.{static_of, statics_of}
use Rattle.peer_book.specs.Tables.{SetsEach, AreKeys, AreReady}
use Rattle.peer_book.proofs.KeptLemmas.{FitsEach, sound_sets}
use Rattle.peer_book.proofs.StaticsLemmas.{static_more, statics_more}

-- ---- what stands ready stays so

pub ready_same : (old new : State) (numbers : List (Key × ℕ)) (key : Key) → new.side ≡ old.side → KeepsReady old new
    → route_ready new numbers key ≡ route_ready old numbers key
ready_same old new numbers key side ready =
    ap (λ s. option_map (λ written. route_of s written keeper.Static)
    (option_and_then (value_at new) (number_at numbers key))) side
    ∙ ap (option_map (λ written. route_of old.side written keeper.Static)) (by_number (number_at numbers key))
  where
    by_number : (number : Option ℕ) → option_and_then (value_at new) number ≡ option_and_then (value_at old) number
    by_number None = refl
    by_number (Some n) = ready.values n

-- ---- static routes one after another

and_false : (b : Bool) → (b && false) ≡ false
and_false true = refl
and_false false = refl

and_true : (b : Bool) → (b && true) ≡ b
and_true true = refl
and_true false = refl

no_helpers : (value : Option Attrs) (side : Side)
    → is_helpers (option_map (λ written. route_of side written keeper.Static) value) ≡ false
no_helpers None side = refl
no_helpers (Some written) side = refl

-- what stands at a key behind a route is given to it, and behind another one
abbrev pub given_if : Bool → Option Route → Option Route → Option Route
given_if there route was = if there && not (is_helpers was) then route else was

pub given_helpers : (there : Bool) (route was : Option Route) → is_helpers was ≡ true → given_if there route was ≡ was
given_helpers there route was helpers =
    ap (λ h. if there && not h then route else was) helpers ∙ ap (λ b. if b then route else was) (and_false there)

pub given_plain : (there : Bool) (route was : Option Route) → is_helpers was ≡ false
    → given_if there route was ≡ (if there then route else was)
given_plain there route was plain =
    ap (λ h. if there && not h then route else was) plain ∙ ap (λ b. if b then route else was) (and_true there)

given_twice : (first last : Bool) (route was : Option Route) → is_helpers route ≡ false
    → given_if last route (given_if first route was) ≡ given_if (first || last) route was
given_twice first last route was plain = by_owner (is_helpers was) refl
  where
    once_plain : (there : Bool) → is_helpers was ≡ false → is_helpers (if there then route else was) ≡ false
    once_plain true own = plain
    once_plain false own = own

    either : (a b : Bool) → (if b then route else (if a then route else was)) ≡ (if a || b then route else was)
    either true true = refl
    either true false = refl
    either false true = refl
    either false false = refl

    by_owner : (helpers : Bool) → is_helpers was ≡ helpers
        → given_if last route (given_if first route was) ≡ given_if (first || last) route was
    by_owner true own =
        ap (given_if last route) (given_helpers first route was own) ∙ given_helpers last route was own
        ∙ sym (given_helpers (first || last) route was own)
    by_owner false own =
        ap (given_if last route) (given_plain first route was own)
        ∙ given_plain last route (if first then route else was) (once_plain first own)
        ∙ either first last ∙ sym (given_plain (first || last) route was own)

or_some : (was last : Option history.Route) → (is_some was || is_some last) ≡ is_some (option_or was last)
or_some None last = refl
or_some (Some route) last = refl

pub over_none : (numbers : List (Key × ℕ)) (state : State) → PutsOver [] numbers state state
over_none numbers state = record {
  side = refl;
  routes = λ key. refl;
  ready = record { places = refl; keys = λ key. refl; values = λ number. refl };
  session = record { session = refl; told = λ key. refl };
  batch = record { left = refl; markers = refl };
}

pub over_more : (numbers : List (Key × ℕ)) (old mid new : State) (statics : List Static) (static : Static)
    → PutsOver statics numbers old mid → PutsOver (static ∷ []) numbers mid new
    → PutsOver (statics ++ static ∷ []) numbers old new
over_more numbers old mid new statics static before puts = record {
  side = puts.side ∙ before.side;
  routes = λ key.
      let first = is_some (static_at statics key) in
      let last = is_some (static_at (static ∷ []) key) in
      let route = route_ready old numbers key in
      puts.routes key
      ∙ ap (λ r. given_if last r (route_at mid key)) (ready_same old mid numbers key before.side before.ready)
      ∙ ap (given_if last route) (before.routes key)
      ∙ given_twice first last route (route_at old key)
      (no_helpers (option_and_then (value_at old) (number_at numbers key)) old.side)
      ∙ ap (λ b. given_if b route (route_at old key)) (or_some (static_at statics key) (static_at (static ∷ []) key)
      ∙ ap (λ (o : Option history.Route). is_some o) (sym (static_more statics static key)));
  ready = record {
    places = puts.ready.places ∙ before.ready.places;
    keys = λ key. puts.ready.keys key ∙ before.ready.keys key;
    values = λ number. puts.ready.values number ∙ before.ready.values number;
  };
  session = record {
    session = puts.session.session ∙ before.session.session;
    told = λ key. puts.session.told key ∙ before.session.told key;
  };
  batch = record {
    left = puts.batch.left ∙ before.batch.left;
    markers = puts.batch.markers ∙ before.batch.markers;
  };
}

pub over_next : (numbers : List (Key × ℕ)) (old mid new : State) (routes : List StaticRoute) (i : ℕ)
    (route : StaticRoute) → i < length routes → route ≡ get_or routes i route
    → PutsOver (statics_of (take i routes)) numbers old mid → PutsOver (static_of route ∷ []) numbers mid new
    → PutsOver (statics_of (take (i + 1) routes)) numbers old new
over_next numbers old mid new routes i route within is before puts =
    subst (λ rs. PutsOver (statics_of rs) numbers old new) (sym (take_more routes i route within))
    (subst (λ r. PutsOver (statics_of (take i routes ++ r ∷ [])) numbers old new) is
    (subst (λ ss. PutsOver ss numbers old new) (sym (statics_more (take i routes) route))
    (over_more numbers old mid new (statics_of (take i routes)) (static_of route) before puts)))

-- ---- one static route

-- a helper's route stays
pub over_helpers : (numbers : List (Key × ℕ)) (table : State) (static : Static)
    → is_helpers (route_at table static.key) ≡ true → PutsOver (static ∷ []) numbers table table
over_helpers numbers table static helpers = record {
  side = refl;
  routes = λ key. elim (same_key static.key key) as (λ b. same_key static.key key ≡ b → route_at table key
      ≡ given_if (is_some {T = history.Route}
      (if b then Some (record { attrs = static.attrs; owner = history.Configuration }) else None))
      (route_ready table numbers key) (route_at table key)) [
        | true ↦ λ same. sym (given_helpers true (route_ready table numbers key) (route_at table key)
            (ap (λ (k : Key). is_helpers (route_at table k)) (sym (same_key_is static.key key same)) ∙ helpers))
        | false ↦ λ other. refl
      ] refl;
  ready = record { places = refl; keys = λ key. refl; values = λ number. refl };
  session = record { session = refl; told = λ key. refl };
  batch = record { left = refl; markers = refl };
}

module _ (numbers : List (Key × ℕ)) (table new : State) (static : Static) (number : ℕ)
    (plain : is_helpers (route_at table static.key) ≡ false) (found : number_at numbers static.key ≡ Some number)
    (sets : SetsEach table new (static.key ∷ []) (option_map (λ w. route_of table.side w keeper.Static)
    (value_at table number))) where
  ready_is : (key : Key) → same_key static.key key ≡ true
      → option_map (λ w. route_of table.side w keeper.Static) (value_at table number) ≡ route_ready table numbers key
  ready_is key same =
      ap (λ (n : Option ℕ). option_map (λ w. route_of table.side w keeper.Static) (option_and_then (value_at table) n))
      (sym found ∙ ap (number_at numbers) (same_key_is static.key key same))

  pub over_set : PutsOver (static ∷ []) numbers table new
  over_set = record {
    side = sets.side;
    routes = λ key. sets.routes key
        ∙ elim (same_key static.key key) as (λ b. same_key static.key key ≡ b
        → (if b || false then option_map (λ w. route_of table.side w keeper.Static) (value_at table number)
        else route_at table key)
        ≡ given_if (is_some {T = history.Route}
        (if b then Some (record { attrs = static.attrs; owner = history.Configuration }) else None))
        (route_ready table numbers key) (route_at table key)) [
          | true ↦ λ same. ready_is key same
              ∙ sym (given_plain true (route_ready table numbers key) (route_at table key)
              (ap (λ (k : Key). is_helpers (route_at table k)) (sym (same_key_is static.key key same)) ∙ plain))
          | false ↦ λ other. refl
        ] refl;
    ready = sets.ready;
    session = sets.session;
    batch = sets.batch;
  }

  value_is : (can : CanPut table numbers static.key) (written : Attrs) → value_at table number ≡ Some written
      → IsRoute (family_of_key static.key) (sent written table.side)
  value_is can written at = can.route written (ap (option_and_then (value_at table)) found ∙ at)

  fits_over : CanPut table numbers static.key → AreKeys (static.key ∷ [])
      → FitsEach table (static.key ∷ []) (option_map (λ w. route_of table.side w keeper.Static) (value_at table number))
  fits_over can are key one named is = by_value (value_at table number) refl is
    where
      by_same : (written : Attrs) → value_at table number ≡ Some written → (b : Bool) → same_key static.key key ≡ b
          → (b || false) ≡ true → IsRoute (family_of_key key) (sent written table.side)
      by_same written at true same there =
          subst (λ (k : Key). IsRoute (family_of_key k) (sent written table.side)) (same_key_is static.key key same)
          (value_is can written at)
      by_same written at false other there = absurd (let no_way : false ≡ true = there in cc)

      by_value : (value : Option Attrs) → value_at table number ≡ value
          → option_map (λ w. route_of table.side w keeper.Static) value ≡ Some one
          → IsRoutable key one.attrs × (one.attrs ≡ sent one.written table.side)
      by_value None at made = absurd (let no_way : ◌≡◌ {A = Option Route} None (Some one) = made in cc)
      by_value (Some written) at made =
          let same : route_of table.side written keeper.Static ≡ one = same_Some _ _ made in
          subst (λ (r : Route). IsRoutable key r.attrs × (r.attrs ≡ sent r.written table.side)) same (
            record {
              is_key = are key named;
              route = by_same written at (same_key static.key key) refl named;
            },
            refl,
          )

  pub sound_over : IsSound table → CanPut table numbers static.key → AreKeys (static.key ∷ []) → IsSound new
  sound_over sound can are = sound_sets table new (static.key ∷ []) _ sound sets (fits_over can are)

-- the key of a route stands ready
pub over_ready : (table : State) (key : Key) → is_ready table key ≡ true → AreReady table (key ∷ [])
over_ready table key stands other named =
    elim (same_key key other) as (λ b. same_key key other ≡ b → (b || false) ≡ true → is_ready table other ≡ true) [
      | true ↦ λ same there. ap (is_ready table) (sym (same_key_is key other same)) ∙ stands
      | false ↦ λ differs there. absurd (let no_way : false ≡ true = there in cc)
    ] refl named
