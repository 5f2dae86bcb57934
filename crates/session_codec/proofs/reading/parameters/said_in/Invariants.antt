use Rattle.std.proofs.Common.{◌≡◌, length}
use Rattle.update_grammar.specs.Steps.{each}
use Rattle.session_codec.specs.ReadOpen.{parameter_step}
use Rattle.session_codec.specs.Said.{said_then, said_in_all}
use Rattle.session_codec.proofs.GatherLemmas.{gathered}
use Rattle.session_codec.proofs.SaidLemmas.{said_by_all}
use Rattle.session_codec.proofs.reading.parameters.said_in.Given as goal

abbrev pub invariant-parameters : goal.invariant-parameters
invariant-parameters l = gathered said_then said_by_all l.said (each parameter_step tt l.rest) ≡ said_in_all l.bytes

abbrev pub decreases-parameters : goal.decreases-parameters
decreases-parameters l = length l.rest
