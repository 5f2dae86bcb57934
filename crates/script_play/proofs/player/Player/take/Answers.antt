use Rattle.std.proofs.Common.{refl}
use Rattle.book_history.specs.Entries.Entry.{RepliesTaken}
use Rattle.script_grammar.specs.Events.{Take}
use Rattle.script_play.proofs.AskedLemmas.{puts_asked, stands_behind}
use Rattle.script_play.proofs.player.Player.take.Goals as goal

pub returns : goal.returns
returns c =
    let entry = RepliesTaken c.args.h c.args.inc c.take-given.result in
    puts_asked c.args.self.now _ (Take c.args.h c.args.inc) entry c.put_take.result c.clear.new.self.items
    c.clear.ensures.items
    (λ content cfg H is known. (c.take-given.result, refl))
    (stands_behind c.args.self.now _ entry (λ n H. refl) (λ cfg H is. (c.take-given.ensures cfg H is).1) refl refl)
    c.put_take.ensures
