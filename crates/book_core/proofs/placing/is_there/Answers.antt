use Rattle.std.proofs.Common.{◌∙◌, ap, sym}
use Rattle.book_core.specs.declared.peering.Peering.{Peering}
use Rattle.book_core.specs.Settling.{is_of}
use Rattle.book_core.proofs.FoundLemmas.{none_more, none_passes, one_passes}
use Rattle.book_core.proofs.placing.is_there.Goals as goal

pub peers-preserved : goal.peers-preserved
peers-preserved c =
    none_more (λ (peering : Peering). is_of c.args.new.now peering.slot.settings) c.args.peers.now
    c.peers.peering-index c.peering-item.result c.peers-test.true c.peering-item.is
    (ap (is_of c.args.new.now) (sym c.settings.ensures.value) ∙ sym c.is_of.ensures ∙ c.if-is_of.false)
    c.peers.invariant

pub returns-then-is_of : goal.returns-then-is_of
returns-then-is_of c =
    sym (one_passes (λ (peering : Peering). is_of c.args.new.now peering.slot.settings) c.args.peers.now
    c.peers.peering-index c.peering-item.result c.peers-test.true c.peering-item.is
    (ap (is_of c.args.new.now) (sym c.settings.ensures.value) ∙ sym c.is_of.ensures ∙ c.if-is_of.true))

pub returns : goal.returns
returns c =
    sym (none_passes (λ (peering : Peering). is_of c.args.new.now peering.slot.settings) c.args.peers.now
    c.peers.peering-index c.peers-test.false c.peers.invariant)
