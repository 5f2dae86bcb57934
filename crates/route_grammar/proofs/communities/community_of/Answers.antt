use Rattle.text_forms.proofs.OptionLemmas.{none_map}
use Rattle.route_grammar.proofs.TextLemmas.{no_joined, no_named}
use Rattle.route_grammar.proofs.communities.community_of.Goals as goal

pub returns-in-Some-clause-none : goal.returns-in-Some-clause-none
returns-in-Some-clause-none c =
    none_map c.joined.result _ _
    (λ none other is. no_joined c.args.word.now c.in-Some.high.now c.in-Some.low.now other c.in-Some.ensures.first
    c.in-Some.ensures.found none is)
    c.joined.ensures.none

pub returns-in-None-clause-none : goal.returns-in-None-clause-none
returns-in-None-clause-none c =
    none_map c.named.result _ _
    (λ none other is. no_named c.args.word.now other c.in-None.ensures.none none is)
    c.named.ensures.none
