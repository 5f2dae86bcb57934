use Rattle.book_core.specs.Settling.{section_in}
use Rattle.book_core.proofs.SettleLemmas.{reloads_then}
use Rattle.book_core.proofs.settling.reload_peers.Goals as goal

pub returns-in-Ok : goal.returns-in-Ok
returns-in-Ok c =
    reloads_then (section_in c.args.sections.now c.args.places.now) c.args.peers.now.items c.plan_all.new.peers.items
    c.plan_all.ensures.moved c.carry_few.new.peers.items c.carry_few.result c.carry_few.ensures

pub returns-in-Err : goal.returns-in-Err
returns-in-Err c = c.plan_all.ensures.moved
