use Rattle.std.proofs.Common.{refl}
use Rattle.book_history.specs.Entries.Entry.{MessageCut}
use Rattle.script_play.proofs.AskedLemmas.{stands_behind}
use Rattle.script_play.proofs.player.Player.cut_next.Goals as goal

pub returns : goal.returns
returns c =
    stands_behind c.args.self.now _ (MessageCut c.args.n c.cut.new.self.bytes c.cut.result) (λ n H. refl)
    c.cut.ensures.stands refl c.cut.ensures.room
