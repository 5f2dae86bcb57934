use Rattle.route_grammar.proofs.communities.paired.Goals as goal

pub returns-in_err-asn-clause-none : goal.returns-in_err-asn-clause-none
returns-in_err-asn-clause-none c =
    rw c.from_residual.ensures (λ asn addr asn_is addr_is. c.in_err-asn.ensures.none asn asn_is)

pub returns-in_err-addr-clause-none : goal.returns-in_err-addr-clause-none
returns-in_err-addr-clause-none c =
    rw c.from_residual-in_err-addr.ensures (λ asn addr asn_is addr_is. c.in_err-addr.ensures.none addr addr_is)
