use Rattle.std.proofs.Common.{Ok, sym, subst, ◌∙◌}
use Rattle.std.proofs.lemmas.Result.{err_from_is_err_and}
use Rattle.answers.specs.declared.memory.NoMemory.{NoMemory}
use Rattle.book_core.specs.Draining.{cut_each}
use Rattle.book_core.specs.Stands.{Stands}
use Rattle.book_core.proofs.DrainLemmas.{drains_ended, drains_failed, drains_on, ended_by, err_drains, leave_tables}
use Rattle.book_core.proofs.DrainLemmas.{tables_left}
use Rattle.book_core.proofs.book.Book.drain.Goals as goal

pub cuts-init : goal.cuts-init
cuts-init c = (
  λ cfg H is. subst (λ ms. Stands cfg (cut_each c.args.n ms H) c.args.self.now) (sym c.requires.empty) is,
  c.requires.room,
)

pub cuts-preserved : goal.cuts-preserved
cuts-preserved c = (
  λ cfg H is.
      drains_on cfg c.args.n H c.cuts.sent c.send_one.new.sent c.send_one.new.out.bytes c.send_one.result
      c.in_ok-given.given c.send_one.new.self c.in_ok-given.was (sym c.is_some.ensures ∙ c.if-is_some.false)
      (c.send_one.ensures.stands cfg (cut_each c.args.n c.cuts.sent H) (c.cuts.invariant.0 cfg H is)),
  c.send_one.ensures.room ∙ c.cuts.invariant.1,
)

pub returns-then-is_some-clause-stands : goal.returns-then-is_some-clause-stands
returns-then-is_some-clause-stands c = λ cfg H is.
    drains_ended cfg c.args.n H c.cuts.sent c.send_one.new.sent c.send_one.new.out.bytes c.send_one.result
    c.in_ok-given.given c.send_one.new.self c.in_ok-given.was (sym c.is_some.ensures ∙ c.if-is_some.true)
    (c.send_one.ensures.stands cfg (cut_each c.args.n c.cuts.sent H) (c.cuts.invariant.0 cfg H is))

pub returns-then-is_some-clause-batches : goal.returns-then-is_some-clause-batches
returns-then-is_some-clause-batches c = λ cfg H caps is at.
    tables_left cfg c.args.n {E = NoMemory} c.whole_batches.ensures H caps c.send_one.new.sent c.send_one.new.out.bytes
    (Ok c.in_ok-given.given) c.send_one.new.self (returns-then-is_some-clause-stands c cfg H is) at

pub returns-then-is_some-clause-end : goal.returns-then-is_some-clause-end
returns-then-is_some-clause-end c = λ cfg H caps is at.
    ended_by cfg c.args.n c.whole_batches-2.ensures c.batches_are_packed.ensures c.nothing_pending.ensures
    {E = NoMemory} H caps
    c.send_one.new.sent c.send_one.new.out.bytes (Ok c.in_ok-given.given) c.send_one.new.self
    (returns-then-is_some-clause-stands c cfg H is) at

pub returns-in_err-given-clause-stands : goal.returns-in_err-given-clause-stands
returns-in_err-given-clause-stands c = λ cfg H is.
    let made = err_from_is_err_and c.from_residual.result c.from_residual.ensures.1 in
    err_drains cfg c.args.n H c.send_one.new.sent c.send_one.new.out.bytes c.from_residual.result made.0
    c.send_one.new.self made.1
    (drains_failed cfg c.args.n H c.cuts.sent c.send_one.new.sent c.send_one.new.out.bytes c.send_one.result
    c.in_err-given.field-0.0 c.send_one.new.self c.in_err-given.was
    (c.send_one.ensures.stands cfg (cut_each c.args.n c.cuts.sent H) (c.cuts.invariant.0 cfg H is)))

pub returns-in_err-given-clause-batches : goal.returns-in_err-given-clause-batches
returns-in_err-given-clause-batches c = λ cfg H caps is at.
    tables_left cfg c.args.n c.whole_batches.ensures H caps c.send_one.new.sent c.send_one.new.out.bytes
    c.from_residual.result c.send_one.new.self (returns-in_err-given-clause-stands c cfg H is) at

pub returns-clause-stands : goal.returns-clause-stands
returns-clause-stands c = c.cuts.invariant.0

pub returns-clause-batches : goal.returns-clause-batches
returns-clause-batches c = λ cfg H caps is at.
    leave_tables cfg c.args.n c.whole_batches.ensures H caps c.cuts.sent (c.cuts.invariant.0 cfg H is).held.legal at
