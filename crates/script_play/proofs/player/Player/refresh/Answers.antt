use Rattle.std.proofs.Common.{refl}
use Rattle.book_history.specs.Entries.Entry.{RefreshAsked}
use Rattle.script_grammar.specs.Events.{Refresh}
use Rattle.script_play.proofs.AskedLemmas.{puts_asked, stands_behind}
use Rattle.script_play.proofs.player.Player.refresh.Goals as goal

pub returns : goal.returns
returns c =
    let entry = RefreshAsked c.args.n c.args.family in
    puts_asked c.args.self.now _ (Refresh c.args.n c.args.family) entry c.put_ok.result c.clear.new.self.items
    c.clear.ensures.items
    (λ content cfg H is known. refl)
    (stands_behind c.args.self.now _ entry (λ n H. refl) (λ cfg H is. c.refresh.ensures cfg H is) refl refl)
    c.put_ok.ensures
