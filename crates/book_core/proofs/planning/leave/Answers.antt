use Rattle.std.proofs.Common.{sym}
use Rattle.book_core.proofs.PlanLemmas.{leaves}
use Rattle.book_core.proofs.planning.leave.Goals as goal

pub returns : goal.returns
returns c =
    leaves c.args.peering.now.slot c.in-Some.own c.new.result c.vacant-with.result c.new-2.result
    (sym c.in-Some.ensures.value) c.new.ensures c.vacant-with.ensures.vacated c.vacant-with.ensures.closed
    c.new-2.ensures
