use Rattle.std.proofs.Common.{sym, ◌∙◌, subst}
use Rattle.std.specs.Bool.{OnTrue}
use Rattle.update_codec.specs.Open.{AddsHere}
use Rattle.batch_cutter.proofs.packer.put_here.Goals as goal

pub returns-in-Ipv4-clause-ok : goal.returns-in-Ipv4-clause-ok
returns-in-Ipv4-clause-ok c =
    subst (λ f. OnTrue c.put_nlri.result (AddsHere c.args.caps.now f c.args.key.now c.args.out.now.bytes
    c.put_nlri.new.out.bytes)) (sym c.in-Ipv4.is ∙ c.family.ensures) c.put_nlri.ensures.ok

pub returns-in-Ipv6-clause-ok : goal.returns-in-Ipv6-clause-ok
returns-in-Ipv6-clause-ok c =
    subst (λ f. OnTrue c.put_reach.result (AddsHere c.args.caps.now f c.args.key.now c.args.out.now.bytes
    c.put_reach.new.out.bytes)) (sym c.in-Ipv6.is ∙ c.family.ensures) c.put_reach.ensures.ok
