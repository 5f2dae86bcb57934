use Rattle.std.proofs.Common.{◌≡◌, refl}
use Rattle.book_history.specs.Entries.Entry.{ReloadRefused}
use Rattle.script_play.proofs.AskedLemmas.{stands_behind}
use Rattle.script_play.proofs.ReloadLemmas.{puts_entry}
use Rattle.script_play.proofs.player.Player.refuse.Goals as goal

pub returns : goal.returns
returns c =
    let entry = ReloadRefused c.args.why in
    puts_entry c.args.self.now _ (λ other. other ≡ entry) entry c.put_not_read.result c.clear.new.self.items
    c.clear.ensures.items refl
    (stands_behind c.args.self.now _ entry (λ n H. refl) (λ cfg H is. c.reload_refused.ensures cfg H is) refl refl)
    c.put_not_read.ensures
