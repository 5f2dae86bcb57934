-- What holds of a slot holds behind each call of its table.
use Rattle.std.proofs.Common.{◌≡◌, ℕ, Bool, true, false, List, Some, None, refl, sym, ap, ◌∙◌, subst}
use Rattle.std.specs.Prelude.{Option, IsSome, is_some, if◌then◌else◌, Result, Ok, Err, IfOk, OnErr}
use Rattle.std.specs.Option.{option_map, option_or}
use Rattle.std.specs.List.{AllByRecursion}
use Rattle.route_values.specs.declared.addr.Family.{Family}
use Rattle.route_values.specs.declared.addr.Family.TheVariants.{Ipv4, Ipv6}
use Rattle.std.proofs.lemmas.Option.{same_Some}
use Rattle.route_values.specs.declared.attrs.Attrs.{Attrs}
use Rattle.route_values.specs.declared.key.Key.{Key}
use Rattle.route_values.specs.declared.settings.Settings.{Settings}
use Rattle.route_values.specs.Caps.{Caps}
use Rattle.route_values.specs.Key.{family_of_key}
use Rattle.route_values.specs.Sent.{sent}
use Rattle.update_grammar.specs.Written.{IsCarried}
use Rattle.route_values.specs.Settings.{side_of}
use Rattle.batch_cutter.specs.Heads.{IsRoute}
use Rattle.adj_rib_out.specs.declared.entry.Owner.{Owner}
use Rattle.adj_rib_out.specs.State.{State, Session, Route, route_at, told_at, value_at, route_of}
use Rattle.adj_rib_out.specs.Batch.{AreOnce}
use Rattle.adj_rib_out.specs.Calls.{again, KeepsRoutes, KeepsSession, KeepsBatch, Restarts, Refreshes}
use Rattle.adj_rib_out.specs.Calls.{Readies, ReadiesSome, Trims}
use Rattle.peer_history.specs.Keys.{is_named}
use Rattle.peer_history.specs.Steps.{Code}
use Rattle.peer_book.specs.Slot.{Slot, live_caps, IsSayable, IsSound, IsIdle, IsKept, IsRoutable}
use Rattle.peer_book.specs.Clearing.{UnsetsAll}
use Rattle.peer_book.specs.Tables.{SetsEach, AreKeys, CanAnnounce}

-- routes that stay
routes_stay : (old new : State) → IsSound old → KeepsRoutes old new → (key : Key) (route : Route)
    → route_at new key ≡ Some route → IsRoutable key route.attrs
routes_stay old new sound kept key route is = sound.routes key route (sym (kept.routes key) ∙ is)

sent_stays : (old new : State) → IsSound old → KeepsRoutes old new → (key : Key) (route : Route)
    → route_at new key ≡ Some route → route.attrs ≡ sent route.written new.side
sent_stays old new sound kept key route is =
    sound.sent key route (sym (kept.routes key) ∙ is) ∙ ap (sent route.written) (sym kept.side)

-- a table on which a session begins, or on which none stands
pub sound_restarts : (old new : State) (caps : Option Caps) → IsSound old → Restarts old new caps → IsSound new
sound_restarts old new caps sound restarts = record {
  routes = routes_stay old new sound restarts.routes;
  sent = sent_stays old new sound restarts.routes;
  told = λ session key is there. absurd (let none = restarts.told key in cc);
  left = λ session is. subst (AllByRecursion (IsSayable session.caps)) (sym restarts.left) tt;
  once = subst AreOnce (sym restarts.left) tt;
}

-- the session that stands has the capabilities that one before had
abbrev pub StaysUp : State → State → Type 0
StaysUp old new = (session : Session) → new.session ≡ Some session
    → (before : Session) × (old.session ≡ Some before) × (before.caps ≡ session.caps)

-- a table whose session goes on
pub sound_stays : (old new : State) → IsSound old → KeepsRoutes old new → StaysUp old new
    → ((key : Key) → told_at new key ≡ told_at old key) → new.left ≡ old.left → IsSound new
sound_stays old new sound kept up told left = record {
  routes = routes_stay old new sound kept;
  sent = sent_stays old new sound kept;
  told = λ session key is there.
      let before = up session is in
      subst (λ caps. IsCarried caps (family_of_key key) key) before.2
      (sound.told before.0 key before.1 (sym (ap is_some (told key)) ∙ there));
  left = λ session is.
      let before = up session is in
      subst (λ caps. AllByRecursion (IsSayable caps) new.left) before.2
      (subst (AllByRecursion (IsSayable before.0.caps)) (sym left) (sound.left before.0 before.1));
  once = subst AreOnce (sym left) sound.once;
}

-- nothing was changed that a neighbour could see
pub record IsCalm (old new : State) : Type 0 where
  pub routes : KeepsRoutes old new
  pub session : KeepsSession old new
  pub batch : KeepsBatch old new

pub calm_ready : {E : Type 0} (old new : State) (keys : List Key) (written : Attrs) (result : Result ℕ E)
    → IfOk result (λ number. Readies old new keys written number) → OnErr result (ReadiesSome old new keys)
    → IsCalm old new
calm_ready old new keys written (Ok number) ok err =
    record { routes = ok.routes; session = ok.session; batch = ok.batch }
calm_ready old new keys written (Err fault) ok err =
    record { routes = err.routes; session = err.session; batch = err.batch }

pub calm_trims : (old new : State) → Trims old new → IsCalm old new
calm_trims old new trims = record { routes = trims.routes; session = trims.session; batch = trims.batch }

pub calm_failed : (old new : State) (keys : List Key) → ReadiesSome old new keys → IsCalm old new
calm_failed old new keys some = record { routes = some.routes; session = some.session; batch = some.batch }

pub sound_calm : (old new : State) → IsSound old → IsCalm old new → IsSound new
sound_calm old new sound calm =
    sound_stays old new sound calm.routes (λ session is. (session, sym calm.session.session ∙ is, refl))
    calm.session.told calm.batch.left

-- a route that is put at keys fits each of them
abbrev pub FitsEach : State → List Key → Option Route → Type 0
FitsEach old keys route = (key : Key) (one : Route) → is_named keys key ≡ true → route ≡ Some one
    → IsRoutable key one.attrs × (one.attrs ≡ sent one.written old.side)

sets_fit : (old new : State) (keys : List Key) (route : Option Route) → IsSound old → SetsEach old new keys route
    → FitsEach old keys route → (key : Key) (one : Route) → route_at new key ≡ Some one
    → IsRoutable key one.attrs × (one.attrs ≡ sent one.written old.side)
sets_fit old new keys route sound sets fits key one is =
    elim (is_named keys key) as (λ b. is_named keys key ≡ b → (if b then route else route_at old key) ≡ Some one
    → IsRoutable key one.attrs × (one.attrs ≡ sent one.written old.side)) [
      | true ↦ λ named at. fits key one named at
      | false ↦ λ named at. (sound.routes key one at, sound.sent key one at)
    ] refl (sym (sets.routes key) ∙ is)

pub sound_sets : (old new : State) (keys : List Key) (route : Option Route) → IsSound old
    → SetsEach old new keys route → FitsEach old keys route → IsSound new
sound_sets old new keys route sound sets fits = record {
  routes = λ key one is. (sets_fit old new keys route sound sets fits key one is).0;
  sent = λ key one is. (sets_fit old new keys route sound sets fits key one is).1
      ∙ ap (sent one.written) (sym sets.side);
  told = λ session key is there.
      sound.told session key (sym sets.session.session ∙ is) (sym (ap is_some (sets.session.told key)) ∙ there);
  left = λ session is. subst (AllByRecursion (IsSayable session.caps)) (sym sets.batch.left)
      (sound.left session (sym sets.session.session ∙ is));
  once = subst AreOnce (sym sets.batch.left) sound.once;
}

again_stays : (family : Family) (was : Option Session) (session : Session)
    → option_map (again family) was ≡ Some session
    → (before : Session) × (was ≡ Some before) × (before.caps ≡ session.caps)
again_stays family None session is = absurd cc
again_stays Ipv4 (Some before) session is =
    let same : ◌≡◌ {A = Option Session} (Some (again Ipv4 before)) (Some session) = is in
    (before, refl, ap (λ (o : Option Session). elim o [ None ↦ before.caps | Some s ↦ s.caps ]) same)
again_stays Ipv6 (Some before) session is =
    let same : ◌≡◌ {A = Option Session} (Some (again Ipv6 before)) (Some session) = is in
    (before, refl, ap (λ (o : Option Session). elim o [ None ↦ before.caps | Some s ↦ s.caps ]) same)

pub sound_refreshes : (old new : State) (family : Family) → IsSound old → Refreshes old new family → IsSound new
sound_refreshes old new family sound refreshes =
    sound_stays old new sound refreshes.routes
    (λ session is. again_stays family old.session session (sym refreshes.session ∙ is)) refreshes.told
    refreshes.batch.left

-- ---- slots

caps_again : (family : Family) (was : Option Session)
    → option_map (λ (s : Session). s.caps) (option_map (again family) was) ≡ option_map (λ (s : Session). s.caps) was
caps_again family None = refl
caps_again Ipv4 (Some before) = refl
caps_again Ipv6 (Some before) = refl

abbrev pub slot_with : Slot → State → Option Caps → Option Code → Slot
slot_with slot table session reset =
    record { settings = slot.settings; table = table; session = session; reset = reset }

-- a table that a session begins on, or on which none stands, is idle
idle_restarts : (old new : State) (caps : Option Caps) → Restarts old new caps → new.session ≡ None → IsIdle new
idle_restarts old new caps restarts none = record { told = restarts.told; left = restarts.left }

-- a table without a session that was sent nothing more
pub idle_stays : (old new : State) → (old.session ≡ None → IsIdle old) → (new.session ≡ None → old.session ≡ None)
    → ((key : Key) → told_at new key ≡ told_at old key) → new.left ≡ old.left → new.session ≡ None → IsIdle new
idle_stays old new idle was told left none =
    let before = idle (was none) in
    record { told = λ key. told key ∙ before.told key; left = left ∙ before.left }

-- the same of a call that changes no session
pub idle_same : (old new : State) → (old.session ≡ None → IsIdle old) → KeepsSession old new → KeepsBatch old new
    → new.session ≡ None → IsIdle new
idle_same old new idle session batch =
    idle_stays old new idle (λ none. sym session.session ∙ none) session.told batch.left

-- a table that keeps its routes, in a slot whose live session it has
pub kept_with : (slot : Slot) (new : State) (session : Option Caps) (reset : Option Code) → IsKept slot
    → KeepsRoutes slot.table new → IsSound new → (new.session ≡ None → IsIdle new)
    → option_map (λ s. s.caps) new.session ≡ live_caps (slot_with slot new session reset)
    → IsKept (slot_with slot new session reset)
kept_with slot new session reset kept routes sound idle live = record {
  session = live;
  idle = idle;
  side = λ own is. routes.side ∙ kept.side own is;
  vacant = λ none key. routes.routes key ∙ kept.vacant none key;
  table = sound;
}

pub kept_up : (slot : Slot) (new : State) (caps : Caps) → IsKept slot → Restarts slot.table new (Some caps)
    → IsKept (slot_with slot new (Some caps) None)
kept_up slot new caps kept restarts =
    kept_with slot new (Some caps) None kept restarts.routes
    (sound_restarts slot.table new (Some caps) kept.table restarts)
    (idle_restarts slot.table new (Some caps) restarts)
    (ap (option_map (λ (s : Session). s.caps)) restarts.session)

pub kept_down : (slot : Slot) (new : State) → IsKept slot → Restarts slot.table new None
    → IsKept (slot_with slot new None None)
kept_down slot new kept restarts =
    kept_with slot new None None kept restarts.routes (sound_restarts slot.table new None kept.table restarts)
    (idle_restarts slot.table new None restarts)
    (ap (option_map (λ (s : Session). s.caps)) restarts.session)

-- a session that a code ends has a code
pub ended : (was : Option Code) (code : Code) → IsSome (option_or was (Some code))
ended None code = refl
ended (Some first) code = refl

pub kept_end : (slot : Slot) (new : State) (reset : Option Code) → IsKept slot → Restarts slot.table new None
    → IsSome reset → IsKept (slot_with slot new slot.session reset)
kept_end slot new reset kept restarts ended =
    kept_with slot new slot.session reset kept restarts.routes
    (sound_restarts slot.table new None kept.table restarts)
    (idle_restarts slot.table new None restarts)
    (ap (option_map (λ (s : Session). s.caps)) restarts.session
    ∙ sym (ap (λ (b : Bool). if b then None else slot.session) ended))

none_again : (family : Family) (was : Option Session) → option_map (again family) was ≡ None → was ≡ None
none_again family None is = refl
none_again family (Some before) is = absurd cc

pub kept_refresh : (slot : Slot) (new : State) (family : Family) → IsKept slot → Refreshes slot.table new family
    → IsKept (slot_with slot new slot.session slot.reset)
kept_refresh slot new family kept refreshes =
    kept_with slot new slot.session slot.reset kept refreshes.routes
    (sound_refreshes slot.table new family kept.table refreshes)
    (idle_stays slot.table new kept.idle
    (λ none. none_again family slot.table.session (sym refreshes.session ∙ none)) refreshes.told refreshes.batch.left)
    (ap (option_map (λ (s : Session). s.caps)) refreshes.session ∙ caps_again family slot.table.session ∙ kept.session)

pub kept_calm : (slot : Slot) (new : State) → IsKept slot → IsCalm slot.table new
    → IsKept (slot_with slot new slot.session slot.reset)
kept_calm slot new kept calm =
    kept_with slot new slot.session slot.reset kept calm.routes (sound_calm slot.table new kept.table calm)
    (idle_same slot.table new kept.idle calm.session calm.batch)
    (ap (option_map (λ (s : Session). s.caps)) calm.session.session ∙ kept.session)

pub kept_sets : (slot : Slot) (new : State) (keys : List Key) (route : Option Route) → IsKept slot
    → SetsEach slot.table new keys route → FitsEach slot.table keys route
    → (slot.settings ≡ None → route ≡ None) → IsKept (slot_with slot new slot.session slot.reset)
kept_sets slot new keys route kept sets fits vacant = record {
  session = ap (option_map (λ (s : Session). s.caps)) sets.session.session ∙ kept.session;
  idle = idle_same slot.table new kept.idle sets.session sets.batch;
  side = λ own is. sets.side ∙ kept.side own is;
  vacant = λ none key. sets.routes key
      ∙ elim (is_named keys key) as (λ b. (if b then route else route_at slot.table key) ≡ None) [
        | true ↦ vacant none
        | false ↦ kept.vacant none key
      ];
  table = sound_sets slot.table new keys route kept.table sets fits;
}

-- routes of a value of the program fit their keys
pub value_fits : (slot : Slot) (keys : List Key) (number : ℕ) (owner : Owner) → IsKept slot
    → CanAnnounce slot keys number → AreKeys keys
    → FitsEach slot.table keys (option_map (λ written. route_of slot.table.side written owner)
    (value_at slot.table number))
value_fits slot keys number owner kept can are key one named is =
    let side : slot.table.side ≡ side_of can.own = kept.side can.own can.placed in
    let made : Some (route_of slot.table.side can.written owner) ≡ Some one =
    sym (ap (option_map (λ written. route_of slot.table.side written owner)) can.value) ∙ is in
    let same : route_of slot.table.side can.written owner ≡ one = same_Some _ _ made in
    subst (λ (r : Route). IsRoutable key r.attrs × (r.attrs ≡ sent r.written slot.table.side)) same (
      record {
        is_key = are key named;
        route = subst (λ side. IsRoute (family_of_key key) (sent can.written side)) (sym side) (can.routes key named);
      },
      refl,
    )

pub placed_not : (settings : Option Settings) (own : Settings) → settings ≡ Some own → settings ≡ None → ⊥
placed_not None own is none = cc
placed_not (Some other) own is none = cc

pub kept_clear : (slot : Slot) (new : State) → IsKept slot → UnsetsAll slot.table new
    → IsKept (slot_with slot new slot.session slot.reset)
kept_clear slot new kept unsets = record {
  session = ap (option_map (λ (s : Session). s.caps)) unsets.session.session ∙ kept.session;
  idle = idle_same slot.table new kept.idle unsets.session unsets.batch;
  side = λ own is. unsets.side ∙ kept.side own is;
  vacant = λ none key. unsets.routes key;
  table = record {
    routes = λ key route is. absurd (no_route key route is);
    sent = λ key route is. absurd (no_route key route is);
    told = λ session key is there.
        kept.table.told session key (sym unsets.session.session ∙ is)
        (sym (ap is_some (unsets.session.told key)) ∙ there);
    left = λ session is. subst (AllByRecursion (IsSayable session.caps)) (sym unsets.batch.left)
        (kept.table.left session (sym unsets.session.session ∙ is));
    once = subst AreOnce (sym unsets.batch.left) kept.table.once;
  };
}
  where
    no_route : (key : Key) (route : Route) → route_at new key ≡ Some route → ⊥
    no_route key route is = let none : ◌≡◌ {A = Option Route} None (Some route) = sym (unsets.routes key) ∙ is in cc
