use Rattle.text_forms.proofs.SpelledLemmas.{addr_spelled, block_spelled}
use Rattle.text_forms.proofs.families.printed_is_spelled.Goals as goal

pub returns-clause-addr : goal.returns-clause-addr
returns-clause-addr c = addr_spelled

pub returns-clause-prefix : goal.returns-clause-prefix
returns-clause-prefix c = block_spelled
