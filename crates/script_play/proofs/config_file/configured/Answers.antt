use Rattle.std.proofs.Common.{Err, ap, sym, subst}
use Rattle.script_play.specs.Status.{IsUnread}
use Rattle.script_play.proofs.UnreadLemmas.{unread_is}
use Rattle.script_play.proofs.config_file.configured.Goals as goal

pub returns-in-Err-clause-unread : goal.returns-in-Err-clause-unread
returns-in-Err-clause-unread g c =
    subst (IsUnread (g.F.Files.content c.args.files.now) c.args.path.now c.args.slots) (sym c.status_unread.ensures)
    (unread_is _ _ _ c.in-Err.unread (λ is. c.in-Err.ensures.long (ap Err is)))
