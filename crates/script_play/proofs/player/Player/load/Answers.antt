use Rattle.std.proofs.Common.{refl}
use Rattle.book_history.specs.Entries.Entry.{Reloaded}
use Rattle.script_play.specs.Reloading.{IsLoaded}
use Rattle.script_play.proofs.AskedLemmas.{stands_behind}
use Rattle.script_play.proofs.ReloadLemmas.{puts_entry}
use Rattle.script_play.proofs.player.Player.load.Goals as goal

pub returns : goal.returns
returns c =
    let entry = Reloaded c.args.config c.reload-given.result in
    puts_entry c.args.self.now _ (IsLoaded c.args.config) entry c.put_reload.result c.clear.new.self.items
    c.clear.ensures.items (c.reload-given.result, refl)
    (stands_behind c.args.self.now _ entry (λ n H. refl) (λ cfg H is. (c.reload-given.ensures cfg H is).1) refl refl)
    c.put_reload.ensures
