use Rattle.pass_entries.specs.Making.{own}
use Rattle.helper_worker.specs.Serving.{IsFreshBehind, Serves}
use Rattle.helper_worker.proofs.replying.reply.Given as goal

-- helpers were answered, and the next is a later one
abbrev pub invariant-loop : goal.invariant-loop
invariant-loop g l =
    Serves l.fn.h l.initial.last l.last l.initial.pass l.pass × IsFreshBehind l.last (own l.pass)
