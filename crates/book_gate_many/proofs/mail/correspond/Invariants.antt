use Rattle.std.proofs.Common.{◌≡◌, ◌<◌, true}
use Rattle.book_gate_many.specs.Adding.{Adds, has_made}
use Rattle.book_gate_many.proofs.mail.correspond.Given as goal

-- The pass makes no entry. After a letter it has seen one of the other
abbrev pub invariant-loop-i : goal.invariant-loop-i
invariant-loop-i g l =
    Adds 0 l.initial.pass l.pass × (0 < l.i → has_made g.M.GateName.writer l.pass.seen ≡ true)
