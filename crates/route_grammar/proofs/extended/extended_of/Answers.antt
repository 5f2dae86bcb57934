use Rattle.text_forms.proofs.OptionLemmas.{none_map}
use Rattle.route_grammar.proofs.ExtendedLemmas.{no_sorted, no_hexadecimal}
use Rattle.route_grammar.proofs.extended.extended_of.Goals as goal

pub returns-in-Some-clause-none : goal.returns-in-Some-clause-none
returns-in-Some-clause-none c =
    none_map c.sorted.result _ _
    (λ none other is. no_sorted c.args.word.now c.in-Some.name.now c.in-Some.parts.now other c.in-Some.ensures.first
    c.in-Some.ensures.found none is)
    c.sorted.ensures.none

pub returns-in-None-clause-none : goal.returns-in-None-clause-none
returns-in-None-clause-none c =
    none_map c.hexadecimal.result _ _
    (λ none other is. no_hexadecimal c.args.word.now other c.in-None.ensures.none none is)
    c.hexadecimal.ensures.none
