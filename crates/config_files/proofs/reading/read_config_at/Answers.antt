use Rattle.std.proofs.Common.{Err, ap, sym, subst}
use Rattle.config_files.specs.Configured.{IsNoneAt}
use Rattle.config_files.proofs.UnreadLemmas.{unread_is_none}
use Rattle.config_files.proofs.reading.read_config_at.Goals as goal

pub returns-in-Err-clause-none : goal.returns-in-Err-clause-none
returns-in-Err-clause-none g c =
    subst (IsNoneAt (g.F.Files.content c.args.files.now) c.args.path.now c.args.slots) (sym c.why_unread.ensures)
    (unread_is_none _ _ _ c.in-Err.unread (λ is. c.in-Err.ensures.long (ap Err is)))
