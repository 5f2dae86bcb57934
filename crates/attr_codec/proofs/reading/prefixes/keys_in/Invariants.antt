use Rattle.std.proofs.Common.{◌≡◌, ◌≤◌, length}
use Rattle.update_grammar.specs.ReadPrefixes.{keys_in}
use Rattle.attr_codec.proofs.KeysLemmas.{keys_so_far}
use Rattle.attr_codec.proofs.reading.prefixes.keys_in.Given as goal

abbrev pub invariant-keys : goal.invariant-keys
invariant-keys l = record {
  within : length l.rest ≤ length l.bytes;
  so_far : keys_so_far l.path l.family l.bytes l.keys l.rest ≡ keys_in l.path l.family l.bytes;
}

abbrev pub decreases-keys : goal.decreases-keys
decreases-keys l = length l.rest
