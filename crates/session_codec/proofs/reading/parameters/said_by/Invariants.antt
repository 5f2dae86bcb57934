use Rattle.std.proofs.Common.{◌≡◌, length}
use Rattle.update_grammar.specs.Steps.{each}
use Rattle.session_codec.specs.ReadOpen.{cap_step}
use Rattle.session_codec.specs.Said.{said_by, said_then, said_in_caps}
use Rattle.session_codec.proofs.GatherLemmas.{gathered}
use Rattle.session_codec.proofs.reading.parameters.said_by.Given as goal

abbrev pub invariant-caps : goal.invariant-caps
invariant-caps l = gathered said_then said_by l.said (each cap_step tt l.rest) ≡ said_in_caps l.bytes

abbrev pub decreases-caps : goal.decreases-caps
decreases-caps l = length l.rest
