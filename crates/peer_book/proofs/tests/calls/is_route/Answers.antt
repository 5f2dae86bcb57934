use Rattle.std.proofs.Common.{◌≡◌, rules, sym, ap, ◌∙◌, subst}
use Rattle.route_values.specs.declared.settings.Side.{Side}
use Rattle.route_values.specs.Addr.{family_of}
use Rattle.route_values.specs.Key.{family_of_key}
use Rattle.route_values.specs.Sent.{hop_sent, sent}
use Rattle.route_values.specs.contracts.addr.Family.{the_type}
use Rattle.batch_cutter.specs.Heads.{IsRoute}
use Rattle.peer_book.proofs.tests.calls.is_route.Goals as goal
use denote.Enum.Bare.{same_true}

pub returns-then-eq : goal.returns-then-eq
returns-then-eq c = λ so.
    let same : c.hop_family.result ≡ c.family.result =
    same_true the_type (search rules) _ _ (sym c.eq.ensures ∙ c.if-eq.true) in
    subst (λ (side : Side). IsRoute (family_of_key c.args.key.now) (sent c.args.attrs.now side)) c.side.ensures
    (c.known_route.ensures (family_of_key c.args.key.now)
    (ap (λ (side : Side). family_of (hop_sent c.args.attrs.now.hop side)) c.side.ensures
    ∙ sym c.hop_family.ensures ∙ same ∙ c.family.ensures)
    (c.is_within_limits.ensures.0 so))
