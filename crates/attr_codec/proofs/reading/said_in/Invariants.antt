use Rattle.std.proofs.Common.{◌≡◌, ◌≤◌, ℕ, List, length}
use Rattle.update_grammar.specs.ReadAttributes.{attrs_in}
use Rattle.attr_codec.specs.Marks.{HasCodes}
use Rattle.attr_codec.proofs.AttributeLemmas.{attrs_so_far}
use Rattle.attr_codec.proofs.reading.said_in.Given as goal

abbrev pub invariant-attrs : goal.invariant-attrs
invariant-attrs l = record {
  within : length l.rest ≤ length l.bytes;
  so_far : (before : List ℕ) × HasCodes l.codes before × (attrs_so_far l.caps l.bytes before l.list l.rest
      ≡ attrs_in l.caps l.bytes);
}

abbrev pub decreases-attrs : goal.decreases-attrs
decreases-attrs l = length l.rest
