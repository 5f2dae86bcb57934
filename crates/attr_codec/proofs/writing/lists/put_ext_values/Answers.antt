use Rattle.std.proofs.Common.{arith, []}
use Rattle.std.proofs.lemmas.List.Folds.{length-flat_map-take}
use Rattle.attr_codec.proofs.writing.lists.put_ext_values.Goals as goal

pub append-requires : goal.append-requires
append-requires c =
    omega (arith, length-flat_map-take (λ ext. ext) c.args.exts.now c.loop-ext.ext-index [] (omega arith))
