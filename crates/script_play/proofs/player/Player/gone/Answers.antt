use Rattle.std.proofs.Common.{refl}
use Rattle.book_history.specs.Entries.Entry.{HelperGone}
use Rattle.script_grammar.specs.Events.{Gone}
use Rattle.script_play.proofs.AskedLemmas.{puts_asked, stands_behind}
use Rattle.script_play.proofs.player.Player.gone.Goals as goal

pub returns : goal.returns
returns c =
    let entry = HelperGone c.args.h c.args.inc in
    puts_asked c.args.self.now _ (Gone c.args.h c.args.inc) entry c.put_ok.result c.clear.new.self.items
    c.clear.ensures.items
    (λ content cfg H is known. refl)
    (stands_behind c.args.self.now _ entry (λ n H. refl) (λ cfg H is. c.gone.ensures cfg H is) refl refl)
    c.put_ok.ensures
