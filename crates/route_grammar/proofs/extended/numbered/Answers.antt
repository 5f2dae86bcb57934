use Rattle.route_grammar.proofs.ExtendedLemmas.{no_number_parts}
use Rattle.route_grammar.proofs.extended.numbered.Goals as goal

pub returns-in_err-high-clause-none : goal.returns-in_err-high-clause-none
returns-in_err-high-clause-none c =
    rw c.from_residual.ensures (λ bytes are. no_number_parts c.args.text.now c.args.sort c.args.low bytes c.requires
    c.in_err-high.ensures.none are)
