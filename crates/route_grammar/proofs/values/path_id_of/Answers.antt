use Rattle.text_forms.proofs.OptionLemmas.{none_map}
use Rattle.route_grammar.proofs.TextLemmas.{no_path_id}
use Rattle.route_grammar.proofs.values.path_id_of.Goals as goal

pub returns-in-None-clause-none : goal.returns-in-None-clause-none
returns-in-None-clause-none c =
    none_map c.ipv4.result _ _ (λ none other is. no_path_id c.args.word.now other c.in-None.ensures.none none is)
    c.ipv4.ensures.none
