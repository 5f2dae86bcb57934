use Rattle.std.proofs.Common.{ℕ, ap, sym, subst, ◌∙◌, length, arith}
use Rattle.std.specs.Prelude.{slice_get, IfSome}
use Rattle.book_core.specs.Changing.{IsSection}
use Rattle.book_core.specs.declared.peering.Peering.{Peering}
use Rattle.book_core.specs.Opening.{Opens}
use Rattle.book_core.proofs.OpeningLemmas.{EachIs, each_none, each_next, count_next, got}
use Rattle.book_core.proofs.opening.open_peers.Goals as goal

pub peers-init : goal.peers-init
peers-init c =
    let is : ℕ → Peering → Type 0 = λ n is. Opens (slice_get c.args.sections.now n) is in
    (ap length c.new-peers.ensures.items, subst (EachIs is) (sym c.new-peers.ensures.items) (each_none is))

pub open_peer-requires : goal.open_peer-requires
open_peer-requires c = subst (λ section. IfSome section IsSection)
    (sym (got c.args.sections.now c.peers.n c.get.result c.get.ensures.lookup)) (c.requires c.peers.n)

pub peers-preserved : goal.peers-preserved
peers-preserved c =
    let is : ℕ → Peering → Type 0 = λ n is. Opens (slice_get c.args.sections.now n) is in
    let opens : Opens (slice_get c.args.sections.now c.peers.n) c.in_ok-peering.peering =
    subst (λ section. Opens section c.in_ok-peering.peering)
    (got c.args.sections.now c.peers.n c.get.result c.get.ensures.lookup) c.in_ok-peering.ensures in (
      ap length c.in_ok-push.ensures.items
          ∙ count_next is c.peers.peers.items c.peers.n c.in_ok-peering.peering c.peers.invariant.0,
      subst (EachIs is) (sym c.in_ok-push.ensures.items)
          (each_next is c.peers.peers.items c.peers.n c.in_ok-peering.peering c.peers.invariant.0 opens
          c.peers.invariant.1),
    )

pub returns-clause-count : goal.returns-clause-count
returns-clause-count c =
    let over = c.peers-test.false in
    let within = c.peers.auto.n-end in
    let count = c.peers.invariant.0 in
    omega (arith, over, within, count)

pub returns-clause-each : goal.returns-clause-each
returns-clause-each c = c.peers.invariant.1
