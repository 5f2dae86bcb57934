use Rattle.text_forms.proofs.OptionLemmas.{some_map}
use Rattle.route_grammar.proofs.ExtendedLemmas.{extended_one}
use Rattle.route_grammar.proofs.item_words.ExtendedWordSpelling.read.Goals as goal

pub returns-clause-only : goal.returns-clause-only
returns-clause-only c =
    some_map c.extended_of.result _ _ (λ value is other also. extended_one c.args.word.now other value also is)
    c.extended_of.ensures.found
