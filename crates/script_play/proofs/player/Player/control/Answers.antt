use Rattle.std.proofs.Common.{refl}
use Rattle.book_history.specs.Entries.Entry.{ControlAsked}
use Rattle.script_grammar.specs.Events.{Control}
use Rattle.script_play.proofs.AskedLemmas.{puts_asked, stands_behind}
use Rattle.script_play.proofs.player.Player.control.Goals as goal

pub returns : goal.returns
returns c =
    let entry = ControlAsked c.control-given.result in
    puts_asked c.args.self.now _ Control entry c.put_control.result c.clear.new.self.items c.clear.ensures.items
    (λ content cfg H is known. (c.control-given.result, refl))
    (stands_behind c.args.self.now _ entry (λ n H. refl) (λ cfg H is. (c.control-given.ensures cfg H is).1) refl refl)
    c.put_control.ensures
