use Rattle.std.proofs.Common.{sym, ap, refl, subst}
use Rattle.route_values.specs.Settings.{side_of}
use Rattle.adj_rib_out.specs.State.{State}
use Rattle.peer_book.specs.Statics.{statics_of, AreRoutes}
use Rattle.peer_book.proofs.ExchangeLemmas.{sound_empty, kept_placed, without_placed, stands_placed}
use Rattle.peer_book.proofs.slot.PeerSlot.placed.Goals as goal

pub put_statics-requires-clause-sound : goal.put_statics-requires-clause-sound
put_statics-requires-clause-sound c = sound_empty c.args.table (side_of c.args.settings) c.requires.table

pub put_statics-requires-clause-routes : goal.put_statics-requires-clause-routes
put_statics-requires-clause-routes c =
    subst (λ side. AreRoutes side c.args.statics.now) (sym (ap (λ (t : State). t.side) c.requires.table))
    c.requires.routes

pub invariant_of-result : goal.invariant_of-result
invariant_of-result c =
    kept_placed c.args.settings c.args.table c.put_statics.new.table (statics_of c.args.statics.now) c.requires.table
    c.in_ok-put_statics.ensures.puts c.put_statics.ensures.sound

pub returns-clause-stands : goal.returns-clause-stands
returns-clause-stands c =
    stands_placed c.args.settings c.args.table c.put_statics.new.table (statics_of c.args.statics.now) c.requires.table
    c.in_ok-put_statics.ensures.puts

pub returns-clause-placed : goal.returns-clause-placed
returns-clause-placed c = λ steps.
    without_placed steps c.args.settings c.args.table c.put_statics.new.table (statics_of c.args.statics.now)
    c.requires.table c.in_ok-put_statics.ensures.puts

pub returns-clause-closed : goal.returns-clause-closed
returns-clause-closed c = refl
