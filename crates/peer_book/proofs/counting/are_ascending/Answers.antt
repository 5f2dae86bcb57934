use Rattle.std.proofs.Common.{sym, ap, ◌∙◌, arith}
use Rattle.std.specs.Ordering.{is_lt}
use Rattle.route_values.specs.contracts.key.KeyOrd.TheImpl.{ghosts as order}
use Rattle.route_values.specs.contracts.key.KeyOrd.TheImpl.Laws.{total-law}
use Rattle.peer_book.proofs.AscendingLemmas.{ascends_next, first_named}
use Rattle.peer_book.proofs.counting.are_ascending.Goals as goal

pub keys-init : goal.keys-init
keys-init c = λ place key below. absurd (omega (arith, below))

pub keys-preserved : goal.keys-preserved
keys-preserved c =
    ascends_next order.cmp c.args.keys.now c.keys.place c.index-keys-place.result c.index-keys-place-in-keys.result
    c.keys.auto.place c.keys-test.true c.index-keys-place.is c.index-keys-place-in-keys.is c.keys.invariant
    (ap is_lt (sym c.cmp.ensures) ∙ sym c.is_lt.ensures ∙ c.if-not-is_lt.false)

pub returns : goal.returns
returns c = λ so.
    first_named order.cmp total-law c.args.keys.now (λ place key below.
    c.keys.invariant place key (omega (arith, below, c.keys-test.false)))
