use Rattle.std.proofs.Common.{◌≡◌, map, take}
use Rattle.update_grammar.specs.ReadValues.{large_from}
use Rattle.attr_codec.proofs.reading.values.larges_from.Given as goal

abbrev pub invariant-loop-chunk : goal.invariant-loop-chunk
invariant-loop-chunk l = l.larges ≡ map large_from (take l.chunk-index l.chunks)
