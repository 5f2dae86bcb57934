use Rattle.text_forms.proofs.OptionLemmas.{none_map}
use Rattle.route_grammar.proofs.TextLemmas.{no_aggregator, no_aggregator_uncut}
use Rattle.route_grammar.proofs.communities.aggregator_of.Goals as goal

pub returns-in-Some-clause-none : goal.returns-in-Some-clause-none
returns-in-Some-clause-none c =
    none_map c.paired.result _ _
    (λ none other is. no_aggregator c.args.word.now c.in-Some.number.now c.in-Some.address.now other
    c.in-Some.ensures.first c.in-Some.ensures.found none is)
    c.paired.ensures.none

pub returns-in-None-clause-none : goal.returns-in-None-clause-none
returns-in-None-clause-none c = λ other is.
    no_aggregator_uncut c.args.word.now other c.in-None.ensures.none is
