use Rattle.std.proofs.Common.{refl, sym, ap, ◌∙◌}
use Rattle.std.proofs.lemmas.List.{take_all}
use Rattle.peer_history.specs.Keys.{is_named}
use Rattle.peer_book.proofs.CountingLemmas.{named_here, named_next}
use Rattle.peer_book.proofs.counting.is_named.Goals as goal

pub keys-init : goal.keys-init
keys-init c = refl

pub keys-preserved : goal.keys-preserved
keys-preserved c =
    named_next c.args.keys.now c.keys.other-index c.other-item.result c.args.key.now c.keys-test.true c.other-item.is
    (sym c.is_same.ensures ∙ c.if-is_same.false) c.keys.invariant

pub returns : goal.returns
returns c =
    sym (ap (λ ks. is_named ks c.args.key.now) (sym (take_all c.keys.other-index c.args.keys.now c.keys-test.false))
    ∙ c.keys.invariant)

pub returns-then-is_same : goal.returns-then-is_same
returns-then-is_same c =
    sym (named_here c.args.keys.now c.keys.other-index c.other-item.result c.args.key.now c.keys-test.true
    c.other-item.is (sym c.is_same.ensures ∙ c.if-is_same.true))
