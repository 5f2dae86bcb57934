use Rattle.std.proofs.Common.{◌∷◌}
use Rattle.peer_history.specs.Steps.Step.{Announced}
use Rattle.book_core.proofs.AnnounceLemmas.{is_announced, not_announced}
use Rattle.book_core.proofs.announcing.announce_one.Goals as goal

pub returns-then-not-so : goal.returns-then-not-so
returns-then-not-so c = λ written steps readied stands.
    not_announced c.args.so c.args.keys.now written steps c.args.slot.now c.if-not-so.true stands

pub announce-requires : goal.announce-requires
announce-requires c = (c.requires c.if-not-so.false).1.can

pub returns : goal.returns
returns c = λ written steps readied stands.
    is_announced c.args.so c.args.keys.now written steps c.trim.new.self c.if-not-so.false
    (c.trim.ensures.stands (Announced c.args.keys.now written ∷ steps)
    (c.announce.ensures steps written (readied c.if-not-so.false).value stands))
