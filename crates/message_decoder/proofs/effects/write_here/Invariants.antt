use Rattle.std.proofs.Common.{take}
use Rattle.std.specs.List.{flat_map}
use Rattle.outside.specs.Seen.{sink_seen}
use Rattle.update_codec.specs.Effects.{announced_effects}
use Rattle.message_decoder.specs.Decoding.{AreEffectLines}
use Rattle.message_decoder.specs.Streams.{Wrote}
use Rattle.message_decoder.proofs.effects.write_here.Given as goal

-- the lines of what was announced so far were written
abbrev pub invariant-announced : goal.invariant-announced
invariant-announced g l =
    Wrote (AreEffectLines (flat_map announced_effects (take l.announced-index l.here)))
    (sink_seen g.K.Sink.taken g.K.Sink.faults l.fn.output) (sink_seen g.K.Sink.taken g.K.Sink.faults l.output)
