use Rattle.std.proofs.Common.{Err, ap, sym, subst}
use Rattle.exa_top.specs.Files.{IsLost}
use Rattle.exa_top.proofs.FileLemmas.{lost_is}
use Rattle.exa_top.proofs.files.bytes_at.Goals as goal

pub returns-in-Err-clause-lost : goal.returns-in-Err-clause-lost
returns-in-Err-clause-lost g c =
    subst (IsLost (g.F.Files.content c.args.files.now) c.args.path.now) (sym c.status_unread.ensures)
    (lost_is _ _ c.in-Err.unread (λ is. c.in-Err.ensures.long (ap Err is)))
