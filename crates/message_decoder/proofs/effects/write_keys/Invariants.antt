use Rattle.std.proofs.Common.{take, [], ◌∷◌}
use Rattle.std.specs.List.{flat_map}
use Rattle.outside.specs.Seen.{sink_seen}
use Rattle.update_grammar.specs.declared.effect.Effect.TheVariants.{Here}
use Rattle.message_decoder.specs.Decoding.{AreEffectLines}
use Rattle.message_decoder.specs.Streams.{Wrote}
use Rattle.message_decoder.proofs.effects.write_keys.Given as goal

-- the lines of the keys so far were written
abbrev pub invariant-keys : goal.invariant-keys
invariant-keys g l =
    Wrote (AreEffectLines (flat_map (λ key. Here key l.sent ∷ []) (take l.key-index l.keys)))
    (sink_seen g.K.Sink.taken g.K.Sink.faults l.fn.output) (sink_seen g.K.Sink.taken g.K.Sink.faults l.output)
