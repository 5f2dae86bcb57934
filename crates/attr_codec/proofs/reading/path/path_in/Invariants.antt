use Rattle.std.proofs.Common.{◌≡◌, length}
use Rattle.route_values.specs.Path.{AllFilled}
use Rattle.update_grammar.specs.ReadValues.{path_in}
use Rattle.attr_codec.proofs.PathLemmas.{path_so_far}
use Rattle.attr_codec.proofs.reading.path.path_in.Given as goal

abbrev pub invariant-parts : goal.invariant-parts
invariant-parts l = record {
  filled : AllFilled l.segments.items;
  so_far : path_so_far l.good l.segments.items l.rest ≡ path_in l.value;
}

abbrev pub decreases-parts : goal.decreases-parts
decreases-parts l = length l.rest
