use Rattle.std.proofs.Common.{arith}
use Rattle.text_forms.proofs.Ipv6Lemmas.{spelled_by}
use Rattle.text_forms.proofs.ipv6_texts.number_of.Goals as goal

pub returns-in-len8-clause-found : goal.returns-in-len8-clause-found
returns-in-len8-clause-found c =
    let spelled = spelled_by c.args.groups.now c.four-high.result c.four-low.result (omega arith) c.four-high.ensures
    c.four-low.ensures in
    (omega arith, omega (arith, spelled, c.from.ensures, c.from-in-len8.ensures))
