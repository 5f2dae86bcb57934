-- What is planned for a slot.
use Rattle.std.proofs.Common.{◌≡◌, ℕ, Bool, true, false, not, List, [], ◌∷◌, ◌++◌, Some, None, refl}
use Rattle.std.proofs.Common.{sym, ap, ◌∙◌, subst, eqb-true}
use Rattle.std.proofs.lemmas.Bool.{and_parts}
use Rattle.std.specs.Prelude.{Option, if◌then◌else◌}
use Rattle.arrayvec.specs.ArrayVec.{ArrayVec}
use Rattle.route_values.specs.declared.addr.Addr.{Addr}
use Rattle.route_values.specs.declared.key.Key.{Key}
use Rattle.route_values.specs.declared.settings.Settings.{Settings}
use Rattle.route_values.specs.declared.settings.Side.{Side}
use Rattle.route_values.specs.Key.{same_addr}
use Rattle.route_values.specs.Settings.{side_of}
use Rattle.route_values.proofs.KeyLemmas.{same_addr_is}
use Rattle.config_model.specs.declared.sections.Neighbor.{Neighbor}
use Rattle.config_model.specs.declared.sections.StaticRoute.{StaticRoute}
use Rattle.config_model.specs.Plan.{same_settings}
use Rattle.peer_history.specs.Steps.{Step, Code}
use Rattle.peer_history.specs.Steps.Step.{Kept, Placed, Vacated, Ended}
use Rattle.peer_book.specs.Numbers.{AreNumbered}
use Rattle.peer_book.specs.Slot.{Slot, live_caps}
use Rattle.peer_book.specs.Stands as of_peer
use Rattle.peer_book.specs.Statics.{StandsWithout}
use Rattle.peer_book.specs.Statics as of_table
use Rattle.book_history.specs.PeerSteps.{cease, changed, deconfigured, statics_of, step_if}
use Rattle.book_core.specs.declared.peering.Peering.{Peering}
use Rattle.book_core.specs.Changing.{ends, exchanged_by, PlansExchange, PlansKept}
use Rattle.book_core.specs.Planning.{IsHeld}

-- ---- a slot whose neighbour has no section any longer

pub leaves : (was : Slot) (own : Settings) (code : Code) (with : Slot) (names : List (ArrayVec ℕ))
    → was.settings ≡ Some own → code ≡ cease deconfigured
    → ((steps : List Step) → StandsWithout (Vacated ∷ steps) with) → live_caps with ≡ None → names ≡ []
    → PlansExchange was None (Some code) with names
leaves was own code with names placed is vacated closed none = record {
  step = Vacated;
  is = tt;
  settled = ap (λ (s : Option Settings). exchanged_by s None) placed
      ∙ ap (λ (c : Code). Vacated ∷ Ended c ∷ []) (sym is);
  vacant = λ no. absurd (let no_way : ◌≡◌ {A = Option Code} (Some code) None = no in cc);
  stands = λ steps stands. vacated (ends (Some code) ++ steps);
  closed = closed;
  heard = none;
}

-- ---- a slot in which another neighbour is placed

pub comes : (was : Slot) (new : Neighbor) (end : Option Code) (with : Slot) (names : List (ArrayVec ℕ))
    (statics : List StaticRoute) → statics ≡ new.statics
    → exchanged_by was.settings (Some new) ≡ Placed new.settings (statics_of new) ∷ ends end
    → (end ≡ None → was.settings ≡ None)
    → ((steps : List Step) → StandsWithout (Placed new.settings (of_table.statics_of statics) ∷ steps) with)
    → live_caps with ≡ None → names ≡ new.processes → PlansExchange was (Some new) end with names
comes was new end with names statics same settled vacant placed closed heard = record {
  step = Placed new.settings (statics_of new);
  is = tt;
  settled = settled;
  vacant = vacant;
  stands = λ steps stands. subst (λ s. StandsWithout (Placed new.settings (of_table.statics_of s) ∷ ends end ++ steps)
      with) same (placed (ends end ++ steps));
  closed = closed;
  heard = heard;
}

-- ---- a slot whose neighbour stays

resettles : (was : Option Settings) (own : Settings) (new : Neighbor) (so : Bool) → was ≡ Some own
    → same_addr own.peer new.settings.peer ≡ true → same_settings own new.settings ≡ so
    → exchanged_by was (Some new)
    ≡ Kept new.settings (statics_of new) ∷ step_if (not so) (Ended (cease changed) ∷ [])
resettles was own new so placed peer same =
    ap (λ (s : Option Settings). exchanged_by s (Some new)) placed
    ∙ ap (λ b. if b then Kept new.settings (statics_of new)
    ∷ step_if (not (same_settings own new.settings)) (Ended (cease changed) ∷ [])
    else Placed new.settings (statics_of new) ∷ Ended (cease deconfigured) ∷ []) peer
    ∙ ap (λ b. Kept new.settings (statics_of new) ∷ step_if (not b) (Ended (cease changed) ∷ [])) same

sides : (a b : Addr) (m n p q : ℕ) → a ≡ b → m ≡ n → p ≡ q
    → ◌≡◌ {A = Side} (record { local = b; local_as = n; peer_as = q }) (record { local = a; local_as = m; peer_as = p })
sides a b m n p q same own other =
    ap (λ (x : Addr). record { local = x; local_as = n; peer_as = q }) (sym same)
    ∙ ap (λ x. record { local = a; local_as = x; peer_as = q }) (sym own)
    ∙ ap (λ x. record { local = a; local_as = m; peer_as = x }) (sym other)

-- settings that are the same send routes alike
pub same_sides : (own new : Settings) → same_settings own new ≡ true → side_of new ≡ side_of own
same_sides own new same =
    let by_hold = (and_parts _ _ same).0 in
    let by_id = (and_parts _ _ by_hold).0 in
    let by_peer = (and_parts _ _ by_id).0 in
    let peer_as = and_parts _ _ by_peer in
    let local_as = and_parts _ _ peer_as.0 in
    let port = and_parts _ _ local_as.0 in
    let local = and_parts _ _ port.0 in
    sides own.local new.local own.local_as new.local_as own.peer_as new.peer_as
    (same_addr_is own.local new.local local.1) (eqb-true own.local_as new.local_as local_as.1)
    (eqb-true own.peer_as new.peer_as peer_as.1)

pub stays : (was : Peering) (ready : Slot) (new : Neighbor) (numbers : List (Key × ℕ)) (names : List (ArrayVec ℕ))
    (statics : List StaticRoute) → statics ≡ new.statics → IsHeld was new true
    → ready.settings ≡ was.slot.settings → AreNumbered ready.table (of_table.statics_of statics) numbers
    → names ≡ new.processes → PlansKept ready (Some new) numbers names
stays was ready new numbers names statics same held kept numbered heard = record {
  new = new;
  section = refl;
  settled = resettles ready.settings held.own new true (kept ∙ held.placed) held.peer held.same;
  own = held.own;
  placed = kept ∙ held.placed;
  side = same_sides held.own new.settings held.same;
  numbered = subst (λ s. AreNumbered ready.table (of_table.statics_of s) numbers) same numbered;
  heard = heard;
}

-- an end says nothing of the neighbour and its routes
unended : (settings : Settings) (neighbor : Neighbor) (code : Code) (steps : List Step) (with : Slot)
    → StandsWithout (Kept settings (statics_of neighbor) ∷ steps) with
    → StandsWithout (Kept settings (statics_of neighbor) ∷ Ended code ∷ steps) with
unended settings neighbor code steps with stands = record { settings = stands.settings; routes = stands.routes }

pub changes : (was : Peering) (new : Neighbor) (code : Code) (with : Slot) (names : List (ArrayVec ℕ))
    (statics : List StaticRoute) → statics ≡ new.statics → IsHeld was new false → code ≡ cease changed
    → ((steps : List Step) → of_peer.Stands steps was.slot
    → StandsWithout (Kept new.settings (of_table.statics_of statics) ∷ steps) with) → live_caps with ≡ None
    → names ≡ new.processes → PlansExchange was.slot (Some new) (Some code) with names
changes was new code with names statics same held is moved closed heard = record {
  step = Kept new.settings (statics_of new);
  is = tt;
  settled = resettles was.slot.settings held.own new false held.placed held.peer held.same
      ∙ ap (λ (c : Code). Kept new.settings (statics_of new) ∷ Ended c ∷ []) (sym is);
  vacant = λ no. absurd (let no_way : ◌≡◌ {A = Option Code} (Some code) None = no in cc);
  stands = λ steps stands. unended new.settings new code steps with
      (subst (λ s. StandsWithout (Kept new.settings (of_table.statics_of s) ∷ steps) with) same (moved steps stands));
  closed = closed;
  heard = heard;
}
