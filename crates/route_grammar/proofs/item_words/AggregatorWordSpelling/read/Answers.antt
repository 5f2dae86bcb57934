use Rattle.text_forms.proofs.OptionLemmas.{some_map}
use Rattle.route_grammar.proofs.TextLemmas.{aggregator_one}
use Rattle.route_grammar.proofs.item_words.AggregatorWordSpelling.read.Goals as goal

pub returns-clause-only : goal.returns-clause-only
returns-clause-only c =
    some_map c.aggregator_of.result _ _ (λ value is other also. aggregator_one c.args.word.now other value also is)
    c.aggregator_of.ensures.found
