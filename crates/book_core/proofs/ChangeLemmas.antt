-- A slot to which a reload did what was planned for it.
use Rattle.std.proofs.Common.{◌≡◌, ℕ, List, ◌∷◌, ◌++◌, Some, None, refl, sym, ap, ◌∙◌, subst}
use Rattle.std.proofs.lemmas.Option.{same_Some}
use Rattle.std.specs.Prelude.{Option, is_some, if◌then◌else◌, IfSome}
use Rattle.std.specs.Option.{option_or}
use Rattle.arrayvec.specs.ArrayVec.{ArrayVec}
use Rattle.route_values.specs.declared.key.Key.{Key}
use Rattle.route_values.specs.declared.settings.Settings.{Settings}
use Rattle.route_values.specs.Caps.{Caps}
use Rattle.route_values.specs.Settings.{side_of}
use Rattle.config_model.specs.declared.sections.Neighbor.{Neighbor}
use Rattle.config_model.specs.declared.sections.StaticRoute.{StaticRoute}
use Rattle.peer_history.specs.Sessions.{live, reset, session}
use Rattle.peer_history.specs.Steps.{Step, Code}
use Rattle.peer_history.specs.Steps.Step.{Kept}
use Rattle.peer_book.specs.Numbers.{CanKeep}
use Rattle.peer_book.specs.Slot.{Slot}
use Rattle.peer_book.specs.Stands as of_peer
use Rattle.peer_book.specs.Statics.{AreRoutes, StandsWithout, IsExchange}
use Rattle.peer_book.specs.Statics as of_table
use Rattle.book_history.specs.PeerSteps.{statics_of}
use Rattle.book_core.specs.declared.peering.Peering.{Peering}
use Rattle.book_core.specs.Changing.{ends, exchanged_by, IsSection, PlansExchange, PlansKept, Settles}
use Rattle.book_core.specs.Stands.{names_heard}

-- ---- a neighbour that stays

module _ (was : Peering) (after : Option Neighbor) (numbers : List (Key × ℕ)) (names : List (ArrayVec ℕ))
    (new : Neighbor) (plan : PlansKept was.slot after numbers names) (there : after ≡ Some new) where
  planned_new : plan.new ≡ new
  planned_new = same_Some plan.new new (sym plan.section ∙ there)

  pub can_keep : IfSome after IsSection → (statics : List StaticRoute) → statics ≡ new.statics
      → CanKeep was.slot new.settings statics numbers
  can_keep section statics same =
      let is_section : IsSection new = subst (λ (o : Option Neighbor). IfSome o IsSection) there section in
      subst (λ s. CanKeep was.slot new.settings s numbers) (sym same)
      (subst (λ (n : Neighbor). AreRoutes (side_of n.settings) n.statics
      → CanKeep was.slot n.settings n.statics numbers)
      planned_new (λ routes. record {
        own = plan.own;
        placed = plan.placed;
        side = plan.side;
        numbered = plan.numbered;
        routes = routes;
      }) is_section.routes)

  pub kept_settles : (statics : List StaticRoute) (is : Slot) → statics ≡ new.statics
      → ((steps : List Step) → of_peer.Stands steps was.slot
      → of_peer.Stands (Kept new.settings (of_table.statics_of statics) ∷ steps) is)
      → Settles after was (record { slot = is; names = names })
  kept_settles statics is same kept = record {
    slot = λ steps closed stands. subst (λ these. of_peer.Stands (these ++ steps) is) (sym plan.settled)
        (subst (λ (n : Neighbor). of_peer.Stands (Kept n.settings (statics_of n) ∷ steps) is) (sym planned_new)
        (subst (λ s. of_peer.Stands (Kept new.settings (of_table.statics_of s) ∷ steps) is) same
        (kept steps stands)));
    names = λ steps stands none. plan.heard ∙ ap names_heard (sym plan.section);
  }

-- ---- a slot that gets another table

ended_live : (code : Code) (was : Option Code) (up : Option Caps)
    → (if is_some (option_or was (Some code)) then None else up) ≡ None
ended_live code None up = refl
ended_live code (Some first) up = refl

-- no session is live behind an end, nor in a slot that needs none
pub closed_ends : (end : Option Code) (steps : List Step) → (end ≡ None → live steps ≡ None)
    → live (ends end ++ steps) ≡ None
closed_ends None steps closed = closed refl
closed_ends (Some code) steps closed = ended_live code (reset steps) (session steps)

pub exchange_settles : (was : Peering) (after : Option Neighbor) (end : Option Code) (with mid is : Slot)
    (names : List (ArrayVec ℕ)) → PlansExchange was.slot after end with names
    → ((steps : List Step) → of_peer.Stands steps was.slot → of_peer.Stands (ends end ++ steps) mid)
    → ((steps : List Step) (step : Step) → IsExchange step → live steps ≡ None → of_peer.Stands steps mid
    → StandsWithout (step ∷ steps) with → of_peer.Stands (step ∷ steps) is)
    → Settles after was (record { slot = is; names = names })
exchange_settles was after end with mid is names plan ended law = record {
  slot = λ steps closed stands.
      let none : live (ends end ++ steps) ≡ None =
      closed_ends end steps (λ silent. closed (sym stands.settings ∙ plan.vacant silent)) in
      subst (λ these. of_peer.Stands (these ++ steps) is) (sym plan.settled)
      (law (ends end ++ steps) plan.step plan.is none (ended steps stands) (plan.stands steps stands));
  names = λ steps stands none. plan.heard;
}

-- ---- a slot in which no neighbour is, and none comes

pub vacant_settles : (was : Peering) (after : Option Neighbor) → was.slot.settings ≡ None → after ≡ None
    → Settles after was was
vacant_settles was after none gone = record {
  slot = λ steps closed stands.
      subst (λ (own : Option Settings). of_peer.Stands (exchanged_by own after ++ steps) was.slot)
      (sym none) (subst (λ (o : Option Neighbor). of_peer.Stands (exchanged_by None o ++ steps) was.slot) (sym gone)
      stands);
  names = λ steps stands empty. empty none ∙ ap names_heard (sym gone);
}
