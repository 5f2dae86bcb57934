use Rattle.text_forms.proofs.OptionLemmas.{none_map}
use Rattle.text_forms.proofs.Ipv6ReadLemmas.{no_room_for_two, no_end}
use Rattle.text_forms.proofs.groups.ended.Goals as goal

pub returns-in-Some-clause-none : goal.returns-in-Some-clause-none
returns-in-Some-clause-none c =
    none_map c.with_two.result _ _
    (λ many last short end. no_room_for_two c.args.text.now c.args.groups.items last c.in-Some.high c.in-Some.low
    c.in-Some.ensures.found many short end)
    c.with_two.ensures.none

pub returns-in-None-clause-none : goal.returns-in-None-clause-none
returns-in-None-clause-none c =
    none_map c.with_group.result _ _
    (λ none last short end. no_end c.args.text.now c.args.groups.items last c.in-None.ensures.none none short end)
    c.with_group.ensures.none
