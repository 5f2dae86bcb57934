use Rattle.std.proofs.Common.{codes}
use Rattle.text_forms.specs.Printed.{ipv4_text}
use Rattle.text_printer.specs.Items.{named_if, listed, community_text, extended_text, large_text}
use Rattle.text_printer.proofs.SpacedLemmas.{goes_then}
use Rattle.text_printer.proofs.printing.attributes.put_lists.Goals as goal

pub returns : goal.returns
returns c =
    let sent = c.args.sent.now in
    goes_then _ (listed (codes "large-community") large_text sent.large) _ _ _
    (goes_then _ (listed (codes "extended-community") extended_text sent.extended) _ _ _
    (goes_then _ (listed (codes "cluster-list") ipv4_text sent.clusters) _ _ _
    (goes_then (listed (codes "community") community_text sent.communities)
    (named_if (codes "originator-id") ipv4_text sent.originator) _ _ _ c.in_ok-put_listed.ensures
    c.in_ok-put_named_if.ensures) c.in_ok-put_listed-2.ensures) c.in_ok-put_listed-3.ensures)
    c.in_ok-put_listed-4.ensures
