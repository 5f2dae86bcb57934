use Rattle.std.proofs.Common.{refl, sym, ap, ◌∙◌, subst}
use Rattle.adj_rib_out.specs.Calls.{empty}
use Rattle.peer_book.specs.Copying.{SendsAlike}
use Rattle.peer_book.specs.Numbers.{keys_in}
use Rattle.peer_book.specs.Seen.{seen}
use Rattle.peer_book.specs.Slot.{Slot}
use Rattle.peer_book.specs.Stands.{Stands}
use Rattle.peer_book.specs.Statics.{statics_of, AreRoutes}
use Rattle.peer_book.proofs.KeptLemmas.{sound_calm}
use Rattle.peer_book.proofs.ReloadLemmas.{calm_some, sends_alike, side_moved, kept_moved, without_moved}
use Rattle.peer_book.proofs.slot.PeerSlot.moved.Goals as goal

pub copy_routes-requires-clause-given : goal.copy_routes-requires-clause-given
copy_routes-requires-clause-given c = c.self.invariant.table

pub copy_routes-requires-clause-empty : goal.copy_routes-requires-clause-empty
copy_routes-requires-clause-empty c = c.requires.table ∙ ap empty (sym c.side.ensures)

pub copy_routes-requires-clause-alike : goal.copy_routes-requires-clause-alike
copy_routes-requires-clause-alike c =
    subst (SendsAlike c.self.inside.table) (sym c.side.ensures)
    (sends_alike (seen c.self.inside) c.args.settings c.self.invariant
    (λ own at. c.requires.family own (ap (λ (s : Slot). s.settings) (sym c.self.view_is) ∙ at)))

pub keep_statics-requires-clause-sound : goal.keep_statics-requires-clause-sound
keep_statics-requires-clause-sound c =
    sound_calm c.copy_routes.new.table c.number_statics.new.table c.copy_routes.ensures.sound
    (calm_some c.copy_routes.new.table c.number_statics.new.table (keys_in c.args.statics.now)
    c.number_statics.ensures.some)

pub keep_statics-requires-clause-routes : goal.keep_statics-requires-clause-routes
keep_statics-requires-clause-routes c =
    subst (λ side. AreRoutes side c.args.statics.now)
    (sym (side_moved (seen c.self.inside) c.args.settings c.args.table c.copy_routes.new.table
    c.number_statics.new.table (keys_in c.args.statics.now) c.requires.table c.in_ok-copy_routes.ensures.ok
    c.number_statics.ensures.some)) c.requires.routes

pub keep_statics-requires-clause-numbered : goal.keep_statics-requires-clause-numbered
keep_statics-requires-clause-numbered c = c.in_ok-numbers.ensures.ok

pub invariant_of-result : goal.invariant_of-result
invariant_of-result c =
    kept_moved (seen c.self.inside) c.args.settings c.args.table c.copy_routes.new.table c.number_statics.new.table
    (keys_in c.args.statics.now) c.requires.table c.in_ok-copy_routes.ensures.ok c.number_statics.ensures.some
    c.keep_statics.new.table (statics_of c.args.statics.now) c.keep_statics.ensures.keeps c.keep_statics.ensures.sound

pub returns-clause-moved : goal.returns-clause-moved
returns-clause-moved c = λ steps stands.
    without_moved (seen c.self.inside) c.args.settings c.args.table c.copy_routes.new.table c.number_statics.new.table
    (keys_in c.args.statics.now) c.requires.table c.in_ok-copy_routes.ensures.ok c.number_statics.ensures.some
    c.keep_statics.new.table (statics_of c.args.statics.now) c.keep_statics.ensures.keeps steps
    (subst (Stands steps) (sym c.self.view_is) stands)

pub returns-clause-closed : goal.returns-clause-closed
returns-clause-closed c = refl
