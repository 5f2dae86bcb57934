use Rattle.std.proofs.Common.{◌≡◌, drop}
use Rattle.outside.specs.Held.{content_at}
use Rattle.outside.proofs.memory.held.content_of.Given as goal

abbrev pub invariant-loop-file : goal.invariant-loop-file
invariant-loop-file l = content_at l.held l.path ≡ content_at (drop l.file-index l.held) l.path
