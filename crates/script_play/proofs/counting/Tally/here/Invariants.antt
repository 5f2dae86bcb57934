use Rattle.std.proofs.Common.{take}
use Rattle.std.specs.List.{flat_map}
use Rattle.update_codec.specs.Effects.{announced_effects}
use Rattle.script_play.specs.Counting.{TookEffects}
use Rattle.script_play.proofs.counting.Tally.here.Given as goal

-- the announcements so far were counted
abbrev pub invariant-announced : goal.invariant-announced
invariant-announced l = TookEffects (flat_map announced_effects (take l.announced-index l.here)) l.fn.self l.self
