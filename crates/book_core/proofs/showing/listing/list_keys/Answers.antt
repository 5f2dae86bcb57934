use Rattle.std.proofs.Common.{sym}
use Rattle.std.proofs.lemmas.List.{append-nil}
use Rattle.book_core.proofs.ShownSlotLemmas.{each_all, each_next}
use Rattle.book_core.proofs.showing.listing.list_keys.Goals as goal

pub keys-init : goal.keys-init
keys-init c = λ steps stands. sym (append-nil c.args.routes.now.items)

pub keys-preserved : goal.keys-preserved
keys-preserved c = λ steps stands.
    each_next c.args.settings.now steps c.args.keys.now c.keys.key-index c.key-item.result c.args.routes.now.items
    c.keys.routes.items c.list_key.new.routes.items c.keys-test.true c.key-item.is (c.keys.invariant steps stands)
    (c.in_ok-list_key.ensures steps stands)

pub returns : goal.returns
returns c = λ steps stands.
    each_all c.args.settings.now steps c.args.keys.now c.keys.key-index c.args.routes.now.items c.keys.routes.items
    c.keys-test.false (c.keys.invariant steps stands)
