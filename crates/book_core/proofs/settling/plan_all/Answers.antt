use Rattle.std.proofs.Common.{◌+◌, sym, subst, arith}
use Rattle.book_core.specs.Settling.{section_in, ArePlannedTo}
use Rattle.book_core.specs.Moves.{nothing}
use Rattle.book_core.proofs.EndLemmas.{none_moved}
use Rattle.book_core.proofs.SettleLemmas.{first_moved, none_planned}
use Rattle.book_core.proofs.settling.plan_all.Goals as goal

pub peers-init : goal.peers-init
peers-init c = (
  subst (ArePlannedTo 0 (section_in c.args.sections.now c.args.places.now) c.args.peers.now.items)
      (sym c.new-changes.ensures.items)
      (none_planned (section_in c.args.sections.now c.args.places.now) c.args.peers.now.items),
  none_moved nothing c.args.peers.now.items,
)

pub peers-preserved : goal.peers-preserved
peers-preserved c = (
  c.in_ok-plan_next.ensures.planned (section_in c.args.sections.now c.args.places.now)
      (sym c.section_in-section.ensures)
      c.peers.invariant.0,
  c.plan_next.ensures.moved c.args.peers.now.items c.peers.invariant.1,
)

pub returns-in_err-plan_next-clause-moved : goal.returns-in_err-plan_next-clause-moved
returns-in_err-plan_next-clause-moved c =
    first_moved (c.peers.n + 1) c.args.peers.now.items c.plan_next.new.peers.items
    (c.plan_next.ensures.moved c.args.peers.now.items c.peers.invariant.1)

pub returns : goal.returns
returns c =
    let over = c.peers-test.false in
    let within = c.peers.auto.n-end in
    record {
      planned = subst (λ k. ArePlannedTo k (section_in c.args.sections.now c.args.places.now) c.peers.peers.items
          c.peers.changes.items) (omega (arith, over, within)) c.peers.invariant.0;
      moved = first_moved c.peers.n c.args.peers.now.items c.peers.peers.items c.peers.invariant.1;
    }
