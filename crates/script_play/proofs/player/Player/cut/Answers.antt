use Rattle.std.proofs.Common.{refl}
use Rattle.book_history.specs.Entries.Entry.{MessageCut}
use Rattle.script_grammar.specs.Events.{Cut}
use Rattle.script_play.proofs.AskedLemmas.{puts_asked}
use Rattle.script_play.proofs.player.Player.cut.Goals as goal

pub returns : goal.returns
returns c =
    let bytes = c.cut_next-given.new.self.message.bytes in
    let given = c.cut_next-given.result in
    let entry = MessageCut c.args.n bytes given in
    puts_asked c.args.self.now c.put_cut.new.self (Cut c.args.n) entry c.put_cut.result _ refl
    (λ content cfg H is known. (bytes, given, refl))
    (λ cfg H is. c.put_cut.ensures.stands cfg _ (c.cut_next-given.ensures cfg H is))
    c.put_cut.ensures.text
