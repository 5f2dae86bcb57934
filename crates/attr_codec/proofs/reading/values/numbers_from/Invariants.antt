use Rattle.std.proofs.Common.{◌≡◌, map, take}
use Rattle.update_grammar.specs.ReadValues.{number_from}
use Rattle.attr_codec.proofs.reading.values.numbers_from.Given as goal

abbrev pub invariant-loop-chunk : goal.invariant-loop-chunk
invariant-loop-chunk l = l.numbers.items ≡ map number_from (take l.chunk-index l.chunks)
