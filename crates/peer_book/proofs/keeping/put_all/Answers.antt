use Rattle.std.proofs.Common.{sym, subst}
use Rattle.std.proofs.lemmas.List.{take_all}
use Rattle.peer_book.specs.Keeping.{PutsOver}
use Rattle.peer_book.specs.Statics.{statics_of, AreRoutes}
use Rattle.peer_book.proofs.KeepingLemmas.{can_put, numbered_kept}
use Rattle.peer_book.proofs.OverLemmas.{over_none, over_next}
use Rattle.peer_book.proofs.keeping.put_all.Goals as goal

pub put_over-requires-clause-sound : goal.put_over-requires-clause-sound
put_over-requires-clause-sound c = c.routes.invariant.sound

pub put_over-requires-clause-can : goal.put_over-requires-clause-can
put_over-requires-clause-can c =
    can_put c.routes.table c.args.routes.now c.args.numbers.now c.routes.route-index c.route-item.result
    c.routes-test.true c.route-item.is
    (numbered_kept c.args.table.now c.routes.table (statics_of c.args.routes.now) c.args.numbers.now
    c.routes.invariant.puts.ready c.requires.numbered)
    (subst (λ side. AreRoutes side c.args.routes.now) (sym c.routes.invariant.puts.side) c.requires.routes)

pub routes-init : goal.routes-init
routes-init c = record { puts = over_none c.args.numbers.now c.args.table.now; sound = c.requires.sound }

pub routes-preserved : goal.routes-preserved
routes-preserved c = record {
  puts = over_next c.args.numbers.now c.args.table.now c.routes.table c.put_over.new.table c.args.routes.now
      c.routes.route-index c.route-item.result c.routes-test.true c.route-item.is c.routes.invariant.puts
      c.put_over.ensures.puts;
  sound = c.put_over.ensures.sound;
}

pub returns-clause-puts : goal.returns-clause-puts
returns-clause-puts c =
    subst (λ rs. PutsOver (statics_of rs) c.args.numbers.now c.args.table.now c.routes.table)
    (take_all c.routes.route-index c.args.routes.now c.routes-test.false) c.routes.invariant.puts

pub returns-clause-sound : goal.returns-clause-sound
returns-clause-sound c = c.routes.invariant.sound
