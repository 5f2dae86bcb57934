use Rattle.std.proofs.Common.{ℕ, ap, sym, subst, ◌∙◌, length, arith}
use Rattle.std.specs.Prelude.{slice_get}
use Rattle.helper_book.specs.Seen.{Seen as Helper}
use Rattle.book_core.specs.Opening.{OpensHelper}
use Rattle.book_core.proofs.OpeningLemmas.{EachIs, each_none, each_next, count_next, got}
use Rattle.book_core.proofs.opening.open_helpers.Goals as goal

pub helpers-init : goal.helpers-init
helpers-init c =
    let is : ℕ → Helper → Type 0 = λ h helper. OpensHelper (slice_get c.args.processes.now h) helper in
    (ap length c.new-helpers.ensures.items, subst (EachIs is) (sym c.new-helpers.ensures.items) (each_none is))

pub helpers-preserved : goal.helpers-preserved
helpers-preserved c =
    let is : ℕ → Helper → Type 0 = λ h helper. OpensHelper (slice_get c.args.processes.now h) helper in
    let opens : OpensHelper (slice_get c.args.processes.now c.helpers.h) c.in_ok-helper.helper =
    subst (λ process. OpensHelper process c.in_ok-helper.helper)
    (got c.args.processes.now c.helpers.h c.get.result c.get.ensures.lookup) c.in_ok-helper.ensures in (
      ap length c.in_ok-push.ensures.items
          ∙ count_next is c.helpers.helpers.items c.helpers.h c.in_ok-helper.helper c.helpers.invariant.0,
      subst (EachIs is) (sym c.in_ok-push.ensures.items)
          (each_next is c.helpers.helpers.items c.helpers.h c.in_ok-helper.helper c.helpers.invariant.0 opens
          c.helpers.invariant.1),
    )

pub returns-clause-count : goal.returns-clause-count
returns-clause-count c =
    let over = c.helpers-test.false in
    let within = c.helpers.auto.h-end in
    let count = c.helpers.invariant.0 in
    omega (arith, over, within, count)

pub returns-clause-each : goal.returns-clause-each
returns-clause-each c = c.helpers.invariant.1
