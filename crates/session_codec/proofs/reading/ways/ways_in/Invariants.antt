use Rattle.std.proofs.Common.{◌≡◌, length, Ok}
use Rattle.update_grammar.specs.Steps.{◌>>=◌, each}
use Rattle.session_codec.specs.Found.{entry_step}
use Rattle.session_codec.specs.Said.{ways_by, ways_then}
use Rattle.session_codec.proofs.GatherLemmas.{gathered}
use Rattle.session_codec.proofs.reading.ways.ways_in.Given as goal

abbrev pub invariant-entries : goal.invariant-entries
invariant-entries l =
    gathered ways_then ways_by l.ways (each entry_step tt l.rest)
    ≡ (each entry_step tt l.value >>= λ entries. Ok (ways_by entries))

abbrev pub decreases-entries : goal.decreases-entries
decreases-entries l = length l.rest
