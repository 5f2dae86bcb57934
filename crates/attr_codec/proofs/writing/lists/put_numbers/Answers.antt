use Rattle.std.proofs.Common.{arith}
use Rattle.std.specs.Int.{w32, to_be_bytes}
use Rattle.std.proofs.lemmas.List.Folds.{length-flat_map-take}
use Rattle.attr_codec.proofs.writing.lists.put_numbers.Goals as goal

pub append_u32-requires : goal.append_u32-requires
append_u32-requires c =
    omega (arith, length-flat_map-take (to_be_bytes w32) c.args.numbers.now c.loop-number.number-index 0 (omega arith))
