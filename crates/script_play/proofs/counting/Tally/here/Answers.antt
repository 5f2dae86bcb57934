use Rattle.std.proofs.Common.{◌<◌, ◌≤◌, List, length, subst, arith}
use Rattle.std.specs.List.{flat_map}
use Rattle.std.proofs.lemmas.Grind.{common_steps}
use Rattle.std.proofs.lemmas.List.{take_all}
use Rattle.update_codec.specs.declared.effects.Announced.{Announced}
use Rattle.update_codec.specs.Effects.{announced_effects}
use Rattle.script_play.specs.Counting.{TookEffects}
use Rattle.script_play.proofs.CountingLemmas.{took_more, took_none}
use Rattle.script_play.proofs.counting.Tally.here.Goals as goal

pub announced-init : goal.announced-init
announced-init c = took_none c.args.self.now

pub announced-preserved : goal.announced-preserved
announced-preserved c =
    let below : c.announced.announced-index < length c.args.here.now = grind (arith, common_steps) in
    took_more c.args.here.now c.announced.announced-index c.announced-item.result _ _ _ below c.announced-item.is
    c.announced.invariant c.in_ok-announced.ensures

pub returns : goal.returns
returns c =
    let through : length c.args.here.now ≤ c.announced.announced-index = grind (arith, common_steps) in
    subst (λ (items : List Announced). TookEffects (flat_map announced_effects items) c.args.self.now c.announced.self)
    (take_all c.announced.announced-index c.args.here.now through) c.announced.invariant
