use Rattle.std.proofs.Common.{arith}
use Rattle.std.proofs.lemmas.List.Folds.{length-flat_map-take}
use Rattle.route_values.specs.declared.attrs.Large.{Large}
use Rattle.update_grammar.specs.Values.{large_text}
use Rattle.attr_codec.proofs.writing.lists.put_large_values.Goals as goal

abbrev no_large : Large
no_large = record { global = 0; first = 0; second = 0 }

pub put_large-requires : goal.put_large-requires
put_large-requires c =
    omega (arith, length-flat_map-take large_text c.args.larges.now c.loop-large.large-index no_large (omega arith))
