use Rattle.text_forms.proofs.OptionLemmas.{none_map}
use Rattle.route_grammar.proofs.ExtendedLemmas.{no_addr_parts}
use Rattle.route_grammar.proofs.extended.bytes_of.Goals as goal

pub returns-in-Some-clause-none : goal.returns-in-Some-clause-none
returns-in-Some-clause-none c =
    none_map c.with_half.result _ _
    (λ large bytes are. no_addr_parts c.args.text.now c.in-Some.addr c.args.sort c.args.low bytes
    c.in-Some.ensures.found large are)
    c.with_half.ensures.none
