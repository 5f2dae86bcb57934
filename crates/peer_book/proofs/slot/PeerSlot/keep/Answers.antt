use Rattle.std.proofs.Common.{sym, subst}
use Rattle.peer_book.specs.Numbers.{CanKeep}
use Rattle.peer_book.specs.Seen.{seen}
use Rattle.peer_book.specs.Slot.{Slot}
use Rattle.peer_book.specs.Stands.{Stands}
use Rattle.peer_book.specs.Statics.{statics_of, AreRoutes}
use Rattle.peer_book.proofs.ReloadLemmas.{kept_side, kept_keep, stands_keep}
use Rattle.peer_book.proofs.slot.PeerSlot.keep.Goals as goal

pub keep_statics-requires-clause-sound : goal.keep_statics-requires-clause-sound
keep_statics-requires-clause-sound c = c.self.invariant.table

pub keep_statics-requires-clause-routes : goal.keep_statics-requires-clause-routes
keep_statics-requires-clause-routes c =
    let can = subst (λ (s : Slot). CanKeep s c.args.settings c.args.statics.now c.args.numbers.now)
    (sym c.self.view_is) c.requires in
    subst (λ side. AreRoutes side c.args.statics.now)
    (sym (kept_side (seen c.self.inside) c.args.settings c.args.statics.now c.args.numbers.now c.self.invariant can))
    can.routes

pub keep_statics-requires-clause-numbered : goal.keep_statics-requires-clause-numbered
keep_statics-requires-clause-numbered c =
    (subst (λ (s : Slot). CanKeep s c.args.settings c.args.statics.now c.args.numbers.now) (sym c.self.view_is)
    c.requires).numbered

pub invariant_of-self : goal.invariant_of-self
invariant_of-self c =
    let can = subst (λ (s : Slot). CanKeep s c.args.settings c.args.statics.now c.args.numbers.now)
    (sym c.self.view_is) c.requires in
    kept_keep (seen c.self.inside) c.args.settings c.keep_statics.new.table (statics_of c.args.statics.now)
    c.self.invariant
    (kept_side (seen c.self.inside) c.args.settings c.args.statics.now c.args.numbers.now c.self.invariant can)
    c.keep_statics.ensures.keeps c.keep_statics.ensures.sound

pub returns : goal.returns
returns c = λ steps stands.
    stands_keep steps (seen c.self.inside) c.args.settings c.keep_statics.new.table (statics_of c.args.statics.now)
    (subst (Stands steps) (sym c.self.view_is) stands) c.keep_statics.ensures.keeps
