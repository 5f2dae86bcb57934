-- Slots that exchange their neighbours.
use Rattle.std.proofs.Common.{◌≡◌, List, [], ◌∷◌, Some, None, refl, sym, ap, ◌∙◌, subst}
use Rattle.std.specs.Prelude.{Option, is_some, if◌then◌else◌}
use Rattle.std.specs.Option.{option_map, option_or}
use Rattle.route_values.specs.declared.settings.Settings.{Settings}
use Rattle.route_values.specs.declared.settings.Side.{Side}
use Rattle.route_values.specs.Caps.{Caps}
use Rattle.route_values.specs.Settings.{side_of}
use Rattle.adj_rib_out.specs.State.{State, Session, Route, route_at}
use Rattle.adj_rib_out.specs.Calls.{empty}
use Rattle.peer_history.specs.Sessions.{session, reset, live}
use Rattle.peer_history.specs.Steps.{Step, Static, Code}
use Rattle.peer_history.specs.Steps.Step.{Announced, Withdrawn, Cleared, Placed, Kept, Vacated, Up, Down, Ended}
use Rattle.peer_history.specs.Steps.Step.{Refreshed, Cut}
use Rattle.peer_history.specs.Table.{static_at}
use Rattle.peer_book.specs.Slot.{Slot, live_caps, IsSound, IsIdle, IsKept}
use Rattle.peer_book.specs.Stands.{asked, Stands}
use Rattle.peer_book.specs.Statics.{PutsStatics, StandsWithout, IsExchange}
use Rattle.peer_book.proofs.KeptLemmas.{idle_same}

-- an empty table
pub sound_empty : (table : State) (side : Side) → table ≡ empty side → IsSound table
sound_empty table side is = subst IsSound (sym is) (record {
  routes = λ key route at. absurd (let none : ◌≡◌ {A = Option Route} None (Some route) = at in cc);
  sent = λ key route at. absurd (let none : ◌≡◌ {A = Option Route} None (Some route) = at in cc);
  told = λ session key at there. absurd (let none : ◌≡◌ {A = Option Session} None (Some session) = at in cc);
  left = λ session at. tt;
  once = tt;
})

pub idle_empty : (table : State) (side : Side) → table ≡ empty side → IsIdle table
idle_empty table side is = subst IsIdle (sym is) (record { told = λ key. refl; left = refl })

-- the step changes no session
pub exchange_same : (step : Step) (steps : List Step) → IsExchange step
    → (session (step ∷ steps) ≡ session steps) × (reset (step ∷ steps) ≡ reset steps)
exchange_same (Placed settings statics) steps is = (refl, refl)
exchange_same (Kept settings statics) steps is = (refl, refl)
exchange_same Vacated steps is = (refl, refl)
exchange_same (Announced keys attrs) steps is = absurd is
exchange_same (Withdrawn keys) steps is = absurd is
exchange_same Cleared steps is = absurd is
exchange_same (Up caps) steps is = absurd is
exchange_same Down steps is = absurd is
exchange_same (Ended code) steps is = absurd is
exchange_same (Refreshed family) steps is = absurd is
exchange_same (Cut answer) steps is = absurd is

-- a session that a code ended
abbrev pub ended_session : Slot → Option Caps
ended_session slot = if is_some slot.reset then slot.session else None

abbrev pub exchanged : Slot → Slot → Slot
exchanged slot other =
    record { settings = other.settings; table = other.table; session = ended_session slot; reset = slot.reset }

none_left : (code : Option Code) (up : Option Caps)
    → (if is_some code then None else (if is_some code then up else None)) ≡ None
none_left None up = refl
none_left (Some code) up = refl

pub kept_exchange : (slot other : Slot) → IsKept other → live_caps other ≡ None → IsKept (exchanged slot other)
kept_exchange slot other kept fresh = record {
  session = kept.session ∙ fresh ∙ sym (none_left slot.reset slot.session);
  idle = kept.idle;
  side = kept.side;
  vacant = kept.vacant;
  table = kept.table;
}

-- where no session is live, the one that stands is one that a code ended
ended_stands : (code : Option Code) (up : Option Caps) → (if is_some code then None else up) ≡ None
    → (if is_some code then up else None) ≡ up
ended_stands None up none = sym none
ended_stands (Some code) up none = refl

pub stands_exchange : (steps : List Step) (step : Step) (slot other : Slot) → IsExchange step → live steps ≡ None
    → Stands steps slot → StandsWithout (step ∷ steps) other → Stands (step ∷ steps) (exchanged slot other)
stands_exchange steps step slot other is none stands without =
    let same = exchange_same step steps is in
    let later : live (step ∷ steps) ≡ live steps =
    ap (λ (code : Option Code). if is_some code then None else session (step ∷ steps)) same.1
    ∙ ap (λ (up : Option Caps). if is_some (reset steps) then None else up) same.0 in
    record {
      settings = without.settings;
      routes = without.routes;
      session = ap (λ (code : Option Code). if is_some code then slot.session else None) stands.reset
          ∙ ap (λ (up : Option Caps). if is_some (reset steps) then up else None) stands.session
          ∙ ended_stands (reset steps) (session steps) none ∙ sym same.0;
      reset = stands.reset ∙ sym same.1;
      live = λ caps at. absurd (let no_way : ◌≡◌ {A = Option Caps} None (Some caps) = sym (later ∙ none) ∙ at in cc);
    }

-- ---- new slots

abbrev pub new_slot : Option Settings → State → Slot
new_slot settings table = record { settings = settings; table = table; session = None; reset = None }

pub kept_vacant : (table : State) → table ≡ empty table.side → IsKept (new_slot None table)
kept_vacant table is = record {
  session = ap (λ (t : State). option_map (λ (s : Session). s.caps) t.session) is;
  idle = λ none. idle_empty table table.side is;
  side = λ own at. absurd (let none : ◌≡◌ {A = Option Settings} None (Some own) = at in cc);
  vacant = λ none key. ap (λ (t : State). route_at t key) is;
  table = sound_empty table table.side is;
}

pub kept_placed : (settings : Settings) (table new : State) (statics : List Static) → table ≡ empty (side_of settings)
    → PutsStatics table new statics → IsSound new → IsKept (new_slot (Some settings) new)
kept_placed settings table new statics is puts sound = record {
  session = ap (option_map (λ (s : Session). s.caps)) puts.session.session
      ∙ ap (λ (t : State). option_map (λ (s : Session). s.caps) t.session) is;
  idle = idle_same table new (λ none. idle_empty table (side_of settings) is) puts.session puts.batch;
  side = λ own at. puts.side ∙ ap (λ (t : State). t.side) is ∙ placed_side settings own at;
  vacant = λ none key. absurd (let some : ◌≡◌ {A = Option Settings} (Some settings) None = none in cc);
  table = sound;
}
  where
    placed_side : (settings own : Settings) → ◌≡◌ {A = Option Settings} (Some settings) (Some own)
        → side_of settings ≡ side_of own
    placed_side settings own at = ap (λ
        (o : Option Settings). elim o [ None ↦ side_of settings | Some s ↦ side_of s ]) at

pub without_placed : (steps : List Step) (settings : Settings) (table new : State) (statics : List Static)
    → table ≡ empty (side_of settings) → PutsStatics table new statics
    → StandsWithout (Placed settings statics ∷ steps) (new_slot (Some settings) new)
without_placed steps settings table new statics is puts = record {
  settings = refl;
  routes = λ key. puts.routes key
      ∙ ap (λ (t : State). option_or (option_map asked (route_at t key)) (static_at statics key)) is;
}

pub stands_placed : (settings : Settings) (table new : State) (statics : List Static) → table ≡ empty (side_of settings)
    → PutsStatics table new statics → Stands (Placed settings statics ∷ []) (new_slot (Some settings) new)
stands_placed settings table new statics is puts = record {
  settings = refl;
  routes = (without_placed [] settings table new statics is puts).routes;
  session = refl;
  reset = refl;
  live = λ caps at. absurd (let none : ◌≡◌ {A = Option Caps} None (Some caps) = at in cc);
}

pub stands_vacant : (table : State) → table ≡ empty table.side → Stands [] (new_slot None table)
stands_vacant table is = record {
  settings = refl;
  routes = λ key. ap (λ (t : State). option_map asked (route_at t key)) is;
  session = refl;
  reset = refl;
  live = λ caps at. absurd (let none : ◌≡◌ {A = Option Caps} None (Some caps) = at in cc);
}
