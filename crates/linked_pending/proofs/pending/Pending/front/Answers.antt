use Rattle.std.proofs.Common.{◌≡◌, ◌≢◌, ℕ, ◌/◌, Some, refl, sym, ap, ◌∙◌, arith}
use Rattle.std.proofs.lemmas.Grind.{common_steps}
use Rattle.std.specs.Prelude.{Option}
use Rattle.linked_pending.specs.declared.pending.Place.{Place}
use Rattle.linked_pending.specs.Listing.{first_or}
use Rattle.linked_pending.specs.Links.{link}
use Rattle.linked_pending.specs.Group.{front_of}
use Rattle.linked_pending.specs.Pending.{Queues}
use Rattle.linked_pending.proofs.FrontLemmas.{empty_without_room, front_member, front_shown}
use Rattle.linked_pending.proofs.pending.Pending.front.Goals as goal

pub returns-then-room-eq0-clause-first : goal.returns-then-room-eq0-clause-first
returns-then-room-eq0-clause-first c =
    let empty = empty_without_room _ _ c.self.invariant.second (grind (arith, common_steps)) in
    sym (ap front_of empty) ∙ ap (λ (queues : Queues). front_of queues.frozen) c.self.view_is

pub returns-then-room-eq0-clause-none : goal.returns-then-room-eq0-clause-none
returns-then-room-eq0-clause-none c =
    let empty = empty_without_room _ _ c.self.invariant.second (grind (arith, common_steps)) in
    let now_empty = sym (ap (λ (queues : Queues). queues.frozen) c.self.view_is) ∙ empty in
    (λ none. now_empty, λ empty. refl)

pub index-requires : goal.index-requires
index-requires c =
    let read : c.after-first.result ≡ first_or 0 c.self.inside.frozen.items = grind (arith, common_steps) in
    let linked : c.after-first.result ≢ 0 = grind (arith, common_steps) in
    let inside = (front_shown _ _ c.after-first.result c.self.invariant.second read linked).1 in
    grind (arith, common_steps)

pub returns-clause-first : goal.returns-clause-first
returns-clause-first c =
    let read : c.after-first.result ≡ first_or 0 c.self.inside.frozen.items = grind (arith, common_steps) in
    let linked : c.after-first.result ≢ 0 = grind (arith, common_steps) in
    let inside = (front_shown _ _ c.after-first.result c.self.invariant.second read linked).1 in
    let number_is : c.index.result.now ≡ link c.self.inside.groups.items (c.after-first.result / 2) =
    grind (arith, common_steps) in
    let place : ℕ → Option Place = λ number. Some (record { group = number; node = c.after-first.result / 2 }) in
    ap place number_is
    ∙ (front_shown _ _ c.after-first.result c.self.invariant.second read linked).0
    ∙ ap (λ (queues : Queues). front_of queues.frozen) c.self.view_is

pub returns-clause-member : goal.returns-clause-member
returns-clause-member c =
    front_member c.args.self.now.frozen (record { group = c.index.result.now; node = c.after-first.result / 2 })
    (returns-clause-first c)
