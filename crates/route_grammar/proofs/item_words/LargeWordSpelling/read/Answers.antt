use Rattle.text_forms.proofs.OptionLemmas.{some_map}
use Rattle.route_grammar.proofs.TextLemmas.{large_one}
use Rattle.route_grammar.proofs.item_words.LargeWordSpelling.read.Goals as goal

pub returns-clause-only : goal.returns-clause-only
returns-clause-only c =
    some_map c.large_of.result _ _ (λ value is other also. large_one c.args.word.now other value also is)
    c.large_of.ensures.found
