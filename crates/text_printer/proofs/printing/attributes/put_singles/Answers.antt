use Rattle.std.proofs.Common.{codes, decimal}
use Rattle.text_printer.specs.Items.{named_if, stands_if, aggregator_text}
use Rattle.text_printer.proofs.SpacedLemmas.{goes_then}
use Rattle.text_printer.proofs.printing.attributes.put_singles.Goals as goal

pub returns : goal.returns
returns c =
    let sent = c.args.sent.now in
    goes_then _ (named_if (codes "aggregator") aggregator_text sent.aggregator) _ _ _
    (goes_then _ (stands_if (codes "atomic-aggregate") sent.atomic) _ _ _
    (goes_then (named_if (codes "med") decimal sent.med) (named_if (codes "local-preference") decimal sent.local_pref)
    _ _ _ c.in_ok-put_named_if.ensures c.in_ok-put_named_if-2.ensures) c.in_ok-put_if.ensures)
    c.in_ok-put_named_if-3.ensures
