use Rattle.std.proofs.Common.{sym, ◌∙◌}
use Rattle.peer_book.proofs.TestLemmas.{can_announce}
use Rattle.peer_book.proofs.tests.calls.announce.Goals as goal

pub announce-requires : goal.announce-requires
announce-requires c =
    can_announce c.args.slot.now.table c.prepare.new.self c.in-Some.own c.args.key.now c.new-attrs.result
    c.in_ok-number.number (c.prepare.ensures.settings ∙ sym c.settings.ensures.value ∙ c.in-Some.is)
    c.in_ok-number.ensures.ok (c.is_route.ensures (sym (sym c.if-not-is_route.false)))
