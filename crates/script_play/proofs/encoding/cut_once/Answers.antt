use Rattle.std.proofs.Common.{◌∷◌, sym, ap}
use Rattle.book_history.specs.Entries.Entry.{MessageCut}
use Rattle.text_history.specs.Plays.{is_message}
use Rattle.script_play.proofs.RunLemmas.{made_once, no_message}
use Rattle.script_play.proofs.encoding.cut_once.Goals as goal

pub returns-in-Message : goal.returns-in-Message
returns-in-Message g c = λ cfg H stands.
    let given = c.cut_next-given.result in
    let bytes = c.cut_next-given.new.self.message.bytes in
    made_once _ bytes given _ cfg H _ _ _ (ap is_message (sym c.in-Message.is))
    (c.write_cut.ensures.stands cfg (MessageCut c.args.n bytes given ∷ H) (c.cut_next-given.ensures cfg H stands))
    c.in_ok-write_cut.ensures.writes

pub returns-in_default : goal.returns-in_default
returns-in_default g c = λ cfg H stands.
    let given = c.cut_next-given.result in
    let bytes = c.cut_next-given.new.self.message.bytes in
    made_once _ bytes given _ cfg H _ _ _ (no_message given c.in_default.not-Message)
    (c.write_cut.ensures.stands cfg (MessageCut c.args.n bytes given ∷ H) (c.cut_next-given.ensures cfg H stands))
    c.in_ok-write_cut.ensures.writes
