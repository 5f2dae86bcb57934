-- Slots whose neighbour has a new section.
use Rattle.std.proofs.Common.{◌≡◌, ℕ, List, ◌∷◌, Some, None, refl, sym, ap, ◌∙◌}
use Rattle.std.specs.Prelude.{Option}
use Rattle.std.specs.Option.{option_map}
use Rattle.std.proofs.lemmas.Option.{same_Some}
use Rattle.route_values.specs.declared.key.Key.{Key}
use Rattle.route_values.specs.declared.settings.Settings.{Settings}
use Rattle.route_values.specs.declared.settings.Side.{Side}
use Rattle.route_values.specs.Addr.{family_of}
use Rattle.route_values.specs.Settings.{side_of}
use Rattle.config_model.specs.declared.sections.StaticRoute.{StaticRoute}
use Rattle.adj_rib_out.specs.State.{State, Session, Route}
use Rattle.adj_rib_out.specs.Calls.{empty, ReadiesSome}
use Rattle.peer_history.specs.Steps.{Step, Static}
use Rattle.peer_history.specs.Steps.Step.{Kept}
use Rattle.peer_book.specs.Copying.{Copies, SendsAlike}
use Rattle.peer_book.specs.Keeping.{kept_by, KeepsStatics}
use Rattle.peer_book.specs.Numbers.{CanKeep}
use Rattle.peer_book.specs.Slot.{Slot, IsSound, IsKept}
use Rattle.peer_book.specs.Stands.{asked, Stands}
use Rattle.peer_book.specs.Statics.{StandsWithout}
use Rattle.peer_book.proofs.KeptLemmas.{IsCalm, idle_same}
use Rattle.peer_book.proofs.StandsLemmas.{live_kept}
use Rattle.peer_book.proofs.ExchangeLemmas.{idle_empty, new_slot}

pub calm_some : (old new : State) (keys : List Key) → ReadiesSome old new keys → IsCalm old new
calm_some old new keys some = record { routes = some.routes; session = some.session; batch = some.batch }

-- a side, by the settings that it is of
side_is : (settings own : Settings) → ◌≡◌ {A = Option Settings} (Some settings) (Some own)
    → side_of settings ≡ side_of own
side_is settings own is = ap (λ (s : Settings). side_of s) (same_Some _ _ is)

-- ---- a neighbour that stays

abbrev pub resettled : Slot → Settings → State → Slot
resettled slot settings table =
    record { settings = Some settings; table = table; session = slot.session; reset = slot.reset }

pub kept_side : (slot : Slot) (settings : Settings) (statics : List StaticRoute) (numbers : List (Key × ℕ))
    → IsKept slot → CanKeep slot settings statics numbers → slot.table.side ≡ side_of settings
kept_side slot settings statics numbers kept can = kept.side can.own can.placed ∙ sym can.side

pub kept_keep : (slot : Slot) (settings : Settings) (new : State) (statics : List Static) → IsKept slot
    → slot.table.side ≡ side_of settings → KeepsStatics slot.table new statics → IsSound new
    → IsKept (resettled slot settings new)
kept_keep slot settings new statics kept side keeps sound = record {
  session = ap (option_map (λ (s : Session). s.caps)) keeps.session.session ∙ kept.session;
  idle = idle_same slot.table new kept.idle keeps.session keeps.batch;
  side = λ own is. keeps.side ∙ side ∙ side_is settings own is;
  vacant = λ none key. absurd (let no_way : ◌≡◌ {A = Option Settings} (Some settings) None = none in cc);
  table = sound;
}

pub stands_keep : (steps : List Step) (slot : Slot) (settings : Settings) (new : State) (statics : List Static)
    → Stands steps slot → KeepsStatics slot.table new statics
    → Stands (Kept settings statics ∷ steps) (resettled slot settings new)
stands_keep steps slot settings new statics stands keeps = record {
  settings = refl;
  routes = λ key. keeps.routes key ∙ ap (kept_by statics key) (stands.routes key);
  session = stands.session;
  reset = stands.reset;
  live = λ caps is. live_kept caps steps (Kept settings statics ∷ steps) slot.table new refl refl refl (λ key. refl)
      keeps.session keeps.batch (stands.live caps is);
}

-- ---- a neighbour that gets a new table

-- its routes are sent with next hops of the same families
pub sends_alike : (slot : Slot) (settings : Settings) → IsKept slot
    → ((own : Settings) → slot.settings ≡ Some own → family_of settings.local ≡ family_of own.local)
    → SendsAlike slot.table (side_of settings)
sends_alike slot settings kept alike key route is = by_settings slot.settings refl
  where
    by_settings : (placed : Option Settings) → slot.settings ≡ placed
        → family_of settings.local ≡ family_of slot.table.side.local
    by_settings None at =
        absurd (let no_way : ◌≡◌ {A = Option Route} None (Some route) = sym (kept.vacant at key) ∙ is in cc)
    by_settings (Some own) at =
        alike own at ∙ ap (λ (side : Side). family_of side.local) (sym (kept.side own at))

module _ (slot : Slot) (settings : Settings) (table copied mid : State) (keys : List Key)
    (is : table ≡ empty (side_of settings)) (copies : Copies slot.table table copied)
    (some : ReadiesSome copied mid keys) where
  pub side_moved : mid.side ≡ side_of settings
  side_moved = some.routes.side ∙ copies.side ∙ ap (λ (t : State). t.side) is

  module _ (new : State) (statics : List Static) (keeps : KeepsStatics mid new statics) where
    pub kept_moved : IsSound new → IsKept (new_slot (Some settings) new)
    kept_moved sound = record {
      session = ap (option_map (λ (s : Session). s.caps)) (keeps.session.session ∙ some.session.session
          ∙ copies.session.session ∙ ap (λ (t : State). t.session) is);
      idle = idle_same mid new (idle_same copied mid (idle_same table copied
          (λ none. idle_empty table (side_of settings) is) copies.session copies.batch) some.session some.batch)
          keeps.session keeps.batch;
      side = λ own at. keeps.side ∙ side_moved ∙ side_is settings own at;
      vacant = λ none key. absurd (let no_way : ◌≡◌ {A = Option Settings} (Some settings) None = none in cc);
      table = sound;
    }

    pub without_moved : (steps : List Step) → Stands steps slot
        → StandsWithout (Kept settings statics ∷ steps) (new_slot (Some settings) new)
    without_moved steps stands = record {
      settings = refl;
      routes = λ key. keeps.routes key ∙ ap (kept_by statics key) (ap (option_map asked) (some.routes.routes key)
          ∙ copies.routes key ∙ stands.routes key);
    }
