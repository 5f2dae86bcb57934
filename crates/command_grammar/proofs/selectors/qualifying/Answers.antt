use Rattle.std.proofs.Common.{ℕ, Some, Ok, Err}
use Rattle.std.proofs.lemmas.Result.{err_from_is_err_and}
use Rattle.route_values.specs.declared.addr.Addr.{Addr}
use Rattle.text_forms.specs.Addresses.{IsIpv4}
use Rattle.text_forms.specs.Families.{IsAddrText}
use Rattle.text_forms.specs.Numbers.{IsAsn}
use Rattle.route_grammar.specs.Limits.{in_force}
use Rattle.route_grammar.specs.Productions.{OneWord, nothing_further}
use Rattle.route_grammar.proofs.AnsweredLemmas.{saying_answers, saying_reads}
use Rattle.command_grammar.specs.declared.keywords.Qualifier.TheVariants.{LocalIp, LocalAs, PeerAs, RouterId}
use Rattle.command_grammar.proofs.SelectorLemmas.{kind_answers}
use Rattle.command_grammar.proofs.selectors.qualifying.Goals as goal

pub returns-in_err-addr_at-in-LocalIp-clause-read : goal.returns-in_err-addr_at-in-LocalIp-clause-read
returns-in_err-addr_at-in-LocalIp-clause-read c =
    let e = err_from_is_err_and c.from_residual.result c.from_residual.ensures.1 in
    rw (e.1, e.2)
    (kind_answers c.args.which LocalIp c.args.pick c.args.words.now.left c.addr_at.new.words.left
    c.addr_at.new.words.end
    (Err c.in_err-addr_at-in-LocalIp.field-0.0) c.in-LocalIp.is
    (saying_answers (λ (value : Addr). record c.args.pick { local = Some value }) (OneWord IsAddrText) nothing_further
    in_force
    c.args.words.now.left c.addr_at.new.words.left c.addr_at.new.words.end c.in_err-addr_at-in-LocalIp.field-0.0
    c.in_err-addr_at-in-LocalIp.ensures.read))

pub returns-in_ok-addr_at-in-LocalIp-clause-read : goal.returns-in_ok-addr_at-in-LocalIp-clause-read
returns-in_ok-addr_at-in-LocalIp-clause-read c =
    kind_answers c.args.which LocalIp c.args.pick c.args.words.now.left c.addr_at.new.words.left c.addr_at.new.words.end
    (Ok (record c.args.pick { local = Some c.in_ok-addr_at-in-LocalIp.field-0 })) c.in-LocalIp.is
    (saying_reads (λ (value : Addr). record c.args.pick { local = Some value }) (OneWord IsAddrText) nothing_further
    in_force
    c.args.words.now.left c.addr_at.new.words.left c.in_ok-addr_at-in-LocalIp.field-0
    c.in_ok-addr_at-in-LocalIp.ensures.read)

pub returns-in_err-asn_at-in-LocalAs-clause-read : goal.returns-in_err-asn_at-in-LocalAs-clause-read
returns-in_err-asn_at-in-LocalAs-clause-read c =
    let e = err_from_is_err_and c.from_residual-in_err-asn_at-in-LocalAs.result
    c.from_residual-in_err-asn_at-in-LocalAs.ensures.1 in
    rw (e.1, e.2)
    (kind_answers c.args.which LocalAs c.args.pick c.args.words.now.left c.asn_at.new.words.left c.asn_at.new.words.end
    (Err c.in_err-asn_at-in-LocalAs.field-0.0) c.in-LocalAs.is
    (saying_answers (λ (value : ℕ). record c.args.pick { local_as = Some value }) (OneWord IsAsn) nothing_further
    in_force
    c.args.words.now.left c.asn_at.new.words.left c.asn_at.new.words.end c.in_err-asn_at-in-LocalAs.field-0.0
    c.in_err-asn_at-in-LocalAs.ensures.read))

pub returns-in_ok-asn_at-in-LocalAs-clause-read : goal.returns-in_ok-asn_at-in-LocalAs-clause-read
returns-in_ok-asn_at-in-LocalAs-clause-read c =
    kind_answers c.args.which LocalAs c.args.pick c.args.words.now.left c.asn_at.new.words.left c.asn_at.new.words.end
    (Ok (record c.args.pick { local_as = Some c.in_ok-asn_at-in-LocalAs.field-0 })) c.in-LocalAs.is
    (saying_reads (λ (value : ℕ). record c.args.pick { local_as = Some value }) (OneWord IsAsn) nothing_further in_force
    c.args.words.now.left c.asn_at.new.words.left c.in_ok-asn_at-in-LocalAs.field-0
    c.in_ok-asn_at-in-LocalAs.ensures.read)

pub returns-in_err-asn_at-in-PeerAs-clause-read : goal.returns-in_err-asn_at-in-PeerAs-clause-read
returns-in_err-asn_at-in-PeerAs-clause-read c =
    let e = err_from_is_err_and c.from_residual-in_err-asn_at-in-PeerAs.result
    c.from_residual-in_err-asn_at-in-PeerAs.ensures.1 in
    rw (e.1, e.2)
    (kind_answers c.args.which PeerAs c.args.pick c.args.words.now.left c.asn_at-in-PeerAs.new.words.left
    c.asn_at-in-PeerAs.new.words.end
    (Err c.in_err-asn_at-in-PeerAs.field-0.0) c.in-PeerAs.is
    (saying_answers (λ (value : ℕ). record c.args.pick { peer_as = Some value }) (OneWord IsAsn) nothing_further
    in_force
    c.args.words.now.left c.asn_at-in-PeerAs.new.words.left c.asn_at-in-PeerAs.new.words.end
    c.in_err-asn_at-in-PeerAs.field-0.0 c.in_err-asn_at-in-PeerAs.ensures.read))

pub returns-in_ok-asn_at-in-PeerAs-clause-read : goal.returns-in_ok-asn_at-in-PeerAs-clause-read
returns-in_ok-asn_at-in-PeerAs-clause-read c =
    kind_answers c.args.which PeerAs c.args.pick c.args.words.now.left c.asn_at-in-PeerAs.new.words.left
    c.asn_at-in-PeerAs.new.words.end
    (Ok (record c.args.pick { peer_as = Some c.in_ok-asn_at-in-PeerAs.field-0 })) c.in-PeerAs.is
    (saying_reads (λ (value : ℕ). record c.args.pick { peer_as = Some value }) (OneWord IsAsn) nothing_further in_force
    c.args.words.now.left c.asn_at-in-PeerAs.new.words.left c.in_ok-asn_at-in-PeerAs.field-0
    c.in_ok-asn_at-in-PeerAs.ensures.read)

pub returns-in_err-ipv4_at-in-RouterId-clause-read : goal.returns-in_err-ipv4_at-in-RouterId-clause-read
returns-in_err-ipv4_at-in-RouterId-clause-read c =
    let e = err_from_is_err_and c.from_residual-in_err-ipv4_at-in-RouterId.result
    c.from_residual-in_err-ipv4_at-in-RouterId.ensures.1 in
    rw (e.1, e.2)
    (kind_answers c.args.which RouterId c.args.pick c.args.words.now.left c.ipv4_at.new.words.left
    c.ipv4_at.new.words.end
    (Err c.in_err-ipv4_at-in-RouterId.field-0.0) c.in-RouterId.is
    (saying_answers (λ (value : ℕ). record c.args.pick { router_id = Some value }) (OneWord IsIpv4) nothing_further
    in_force
    c.args.words.now.left c.ipv4_at.new.words.left c.ipv4_at.new.words.end c.in_err-ipv4_at-in-RouterId.field-0.0
    c.in_err-ipv4_at-in-RouterId.ensures.read))

pub returns-in_ok-ipv4_at-in-RouterId-clause-read : goal.returns-in_ok-ipv4_at-in-RouterId-clause-read
returns-in_ok-ipv4_at-in-RouterId-clause-read c =
    kind_answers c.args.which RouterId c.args.pick c.args.words.now.left c.ipv4_at.new.words.left
    c.ipv4_at.new.words.end
    (Ok (record c.args.pick { router_id = Some c.in_ok-ipv4_at-in-RouterId.field-0 })) c.in-RouterId.is
    (saying_reads (λ (value : ℕ). record c.args.pick { router_id = Some value }) (OneWord IsIpv4) nothing_further
    in_force
    c.args.words.now.left c.ipv4_at.new.words.left c.in_ok-ipv4_at-in-RouterId.field-0
    c.in_ok-ipv4_at-in-RouterId.ensures.read)
