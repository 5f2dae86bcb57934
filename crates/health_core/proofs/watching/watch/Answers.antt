use Rattle.std.proofs.Common.{List, ℕ, ap, subst, ◌∙◌}
use Rattle.std.specs.declared.option.Option.TheVariants.{Some}
use Rattle.outside.specs.Ended.{Gathers}
use Rattle.outside.specs.Probing.{checked}
use Rattle.health_core.specs.declared.watching.Unwatched.TheVariants as why
use Rattle.health_core.specs.Watching.{command_of}
use Rattle.health_core.proofs.WatchLemmas.{held_breaks, held_next, held_none, no_err, none_breaks, on_err}
use Rattle.health_core.proofs.watching.watch.Goals as goal

pub returns-in_err-begin-clause-part : goal.returns-in_err-begin-clause-part
returns-in_err-begin-clause-part g c =
    on_err c.from_residual.result (none_breaks c.args.health.now _ _ _ c.in_err-begin.ensures.part)

pub turns-init : goal.turns-init
turns-init g c = record {
  held = held_none c.args.health.now c.new-counter.result (g.B.Probe.checks c.args.probe.now) _ _ c.new-counter.ensures
      c.in_ok-begin.ensures.ok c.in_ok-begin.ensures.says;
  faults = c.in_ok-begin.ensures.write_same (λ is. no_err _ why.Write is);
}

pub returns-in_err-put_command-clause-part : goal.returns-in_err-put_command-clause-part
returns-in_err-put_command-clause-part g c =
    let held = c.turns.invariant.held in
    let health = c.args.health.now in
    on_err c.from_residual-in_err-put_command.result
    (held_breaks health c.turns.counter c.turns.turn c.check-outcome.result c.command_of.result _
    (g.B.Probe.checks c.turns.probe) (g.B.Probe.checks c.check-outcome.new.self) _ (g.K.Sink.taken c.turns.output) _
    held
    c.turns-test.true
    (c.command_of.ensures
    ∙ ap command_of (c.step-change.ensures.change health.rise health.fall held.outcomes held.counts))
    (subst (λ (run : List ℕ). Gathers (g.B.Probe.checks c.turns.probe) (g.B.Probe.checks c.check-outcome.new.self)
    (Some (checked run c.check-outcome.result))) c.deref.ensures.0 c.check-outcome.ensures)
    c.in_err-put_command.ensures.part)

pub turns-preserved : goal.turns-preserved
turns-preserved g c =
    let held = c.turns.invariant.held in
    let health = c.args.health.now in
    record {
      held =
          held_next health c.turns.counter c.step-change.new.self c.turns.turn c.check-outcome.result
          c.command_of.result _ (g.B.Probe.checks c.turns.probe) (g.B.Probe.checks c.check-outcome.new.self) _
          (g.K.Sink.taken c.turns.output) _ held
          (c.step-change.ensures.counted health.rise health.fall held.outcomes held.counts)
          (c.command_of.ensures
          ∙ ap command_of (c.step-change.ensures.change health.rise health.fall held.outcomes held.counts))
          (subst (λ (run : List ℕ). Gathers (g.B.Probe.checks c.turns.probe)
          (g.B.Probe.checks c.check-outcome.new.self) (Some (checked run c.check-outcome.result))) c.deref.ensures.0
          c.check-outcome.ensures)
          c.in_ok-put_command.ensures.ok c.in_ok-put_command.ensures.says;
      faults = c.in_ok-put_command.ensures.write_same (λ is. no_err _ why.Write is) ∙ c.turns.invariant.faults;
    }
