use Rattle.std.proofs.Common.{refl}
use Rattle.book_history.specs.Entries.Entry.{WentDown}
use Rattle.script_grammar.specs.Events.{Down}
use Rattle.script_play.proofs.AskedLemmas.{puts_asked, stands_behind}
use Rattle.script_play.proofs.player.Player.down.Goals as goal

pub returns : goal.returns
returns c =
    let entry = WentDown c.args.n in
    puts_asked c.args.self.now _ (Down c.args.n) entry c.put_ok.result c.clear.new.self.items
    c.clear.ensures.items
    (λ content cfg H is known. refl)
    (stands_behind c.args.self.now _ entry (λ n H. refl) (λ cfg H is. c.down.ensures cfg H is) refl refl)
    c.put_ok.ensures
