use Rattle.std.proofs.Common.{arith}
use Rattle.attr_codec.proofs.GroupLemmas.{length-groups, groups_appended}
use Rattle.attr_codec.proofs.writing.append_attrs.Goals as goal

pub put_first-requires-clause-fits : goal.put_first-requires-clause-fits
put_first-requires-clause-fits c = omega (arith, length-groups c.args.family c.args.attrs.now c.requires.hop)

pub put_second-requires : goal.put_second-requires
put_second-requires c = omega (arith, length-groups c.args.family c.args.attrs.now c.requires.hop)

pub put_third-requires-clause-fits : goal.put_third-requires-clause-fits
put_third-requires-clause-fits c = omega (arith, length-groups c.args.family c.args.attrs.now c.requires.hop)

pub put_last-requires-clause-fits : goal.put_last-requires-clause-fits
put_last-requires-clause-fits c = omega (arith, length-groups c.args.family c.args.attrs.now c.requires.hop)

pub returns : goal.returns
returns c =
    groups_appended c.args.family c.args.attrs.now _ _ _ _ _ c.requires.hop c.put_first.ensures c.put_second.ensures
    c.put_third.ensures c.put_last.ensures
