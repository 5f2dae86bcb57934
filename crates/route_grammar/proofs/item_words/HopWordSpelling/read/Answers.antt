use Rattle.text_forms.proofs.OptionLemmas.{some_map}
use Rattle.route_grammar.proofs.ValueLemmas.{hop_one}
use Rattle.route_grammar.proofs.item_words.HopWordSpelling.read.Goals as goal

pub returns-clause-only : goal.returns-clause-only
returns-clause-only c =
    some_map c.hop_of.result _ _ (λ value is other also. hop_one c.args.self.now.family c.args.word.now other value
    also is) c.hop_of.ensures.found
