use Rattle.std.proofs.Common.{◌≡◌, arith}
use Rattle.std.proofs.lemmas.Grind.{common_steps}
use Rattle.linked_pending.specs.Links.{link}
use Rattle.linked_pending.proofs.CrossedLemmas.{inverse_crossed_at}
use Rattle.linked_pending.proofs.chain.cross.Goals as goal

pub returns-clause-links : goal.returns-clause-links
returns-clause-links c =
    let behind_place : c.index.result.now ≡ link c.args.nexts.now.items c.args.place = grind (arith, common_steps) in
    let behind_other : c.index-2.result.now ≡ link c.args.nexts.now.items c.args.other = grind (arith, common_steps) in
    inverse_crossed_at _ _ _ _ _ _ c.requires.links c.requires.place c.requires.other behind_place behind_other
