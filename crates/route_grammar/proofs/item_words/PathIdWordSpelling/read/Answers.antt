use Rattle.text_forms.proofs.OptionLemmas.{some_map}
use Rattle.route_grammar.proofs.TextLemmas.{path_id_one}
use Rattle.route_grammar.proofs.item_words.PathIdWordSpelling.read.Goals as goal

pub returns-clause-only : goal.returns-clause-only
returns-clause-only c =
    some_map c.path_id_of.result _ _ (λ value is other also. path_id_one c.args.word.now other value also is)
    c.path_id_of.ensures.found
