-- The law, clause by clause.
use Rattle.text_printer.specs.Printing.{effect_tokens}
use Rattle.text_printer.proofs.CleanLemmas.{clean_effect}
use Rattle.text_printer.proofs.LengthLemmas.{effect_short}
use Rattle.text_printer.proofs.NetLemmas.{net_kept}
use Rattle.text_printer.proofs.ReadBackLemmas.{effect_found, effect_read_back}
use Rattle.text_printer.proofs.SpelledEffectLemmas.{effects_are}
use Rattle.text_printer.proofs.TokenLemmas.{spaced_tokens}
use Rattle.text_printer.proofs.laws.lines_read_back.Goals as goal

pub returns-clause-effects : goal.returns-clause-effects
returns-clause-effects c = effects_are

pub returns-clause-tokens : goal.returns-clause-tokens
returns-clause-tokens c = λ effect is. spaced_tokens (effect_tokens effect) (clean_effect effect is)

pub returns-clause-reads : goal.returns-clause-reads
returns-clause-reads c = effect_found

pub returns-clause-short : goal.returns-clause-short
returns-clause-short c = effect_short

pub returns-clause-reads_back : goal.returns-clause-reads_back
returns-clause-reads_back c = effect_read_back

pub returns-clause-net : goal.returns-clause-net
returns-clause-net c = net_kept
