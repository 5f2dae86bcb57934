use Rattle.std.proofs.Common.{ap, ◌∙◌}
use Rattle.text_forms.proofs.OptionLemmas.{none_map}
use Rattle.command_grammar.specs.Selectors.{further_pick}
use Rattle.command_grammar.proofs.SelectorLemmas.{no_qualifier}
use Rattle.command_grammar.proofs.selectors.qualifier_at.Goals as goal

pub returns-in-Some-clause-none : goal.returns-in-Some-clause-none
returns-in-Some-clause-none c =
    none_map c.qualifier_of.result _ _
    (λ none. ap further_pick c.in-Some.ensures.found ∙ no_qualifier c.in-Some.word.now none)
    c.qualifier_of.ensures.none
