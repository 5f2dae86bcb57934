use Rattle.std.proofs.Common.{sym, subst}
use Rattle.peer_book.specs.Statics.{statics_of, AreRoutes}
use Rattle.peer_book.proofs.DroppingLemmas.{sound_drops}
use Rattle.peer_book.proofs.KeepingLemmas.{keeps, numbered_kept}
use Rattle.peer_book.proofs.keeping.keep_statics.Goals as goal

pub put_all-requires-clause-sound : goal.put_all-requires-clause-sound
put_all-requires-clause-sound c =
    sound_drops c.args.numbers.now c.args.table.now c.drop_gone.new.table c.requires.sound c.drop_gone.ensures

pub put_all-requires-clause-routes : goal.put_all-requires-clause-routes
put_all-requires-clause-routes c =
    subst (λ side. AreRoutes side c.args.routes.now) (sym c.drop_gone.ensures.side) c.requires.routes

pub put_all-requires-clause-numbered : goal.put_all-requires-clause-numbered
put_all-requires-clause-numbered c =
    numbered_kept c.args.table.now c.drop_gone.new.table (statics_of c.args.routes.now) c.args.numbers.now
    c.drop_gone.ensures.ready c.requires.numbered

pub returns-clause-keeps : goal.returns-clause-keeps
returns-clause-keeps c =
    keeps c.args.table.now c.drop_gone.new.table c.put_all.new.table (statics_of c.args.routes.now) c.args.numbers.now
    c.requires.numbered c.drop_gone.ensures c.put_all.ensures.puts

pub returns-clause-sound : goal.returns-clause-sound
returns-clause-sound c = c.put_all.ensures.sound
