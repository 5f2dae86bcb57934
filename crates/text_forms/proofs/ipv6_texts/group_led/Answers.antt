use Rattle.text_forms.proofs.OptionLemmas.{none_map}
use Rattle.text_forms.proofs.Ipv6ReadLemmas.{no_coloned, no_cut, no_whole}
use Rattle.text_forms.proofs.ipv6_texts.group_led.Goals as goal

pub returns-in_err-groups-clause-none : goal.returns-in_err-groups-clause-none
returns-in_err-groups-clause-none c =
    rw c.from_residual.ensures (λ other is.
    no_coloned c.args.text.now other c.requires c.in_err-groups.ensures.none is)

pub returns-in-Some-clause-none : goal.returns-in-Some-clause-none
returns-in-Some-clause-none c =
    none_map c.shortened.result _ _
    (λ none other is. no_cut c.args.text.now c.in_ok-groups.groups.items c.in_ok-groups.rest.now c.in-Some.back.now
    other
    c.requires c.in_ok-groups.ensures.found c.in-Some.ensures.found none is)
    c.shortened.ensures.none

pub returns-in-None-clause-none : goal.returns-in-None-clause-none
returns-in-None-clause-none c =
    none_map c.whole.result _ _
    (λ none other is. no_whole c.args.text.now c.in_ok-groups.groups.items c.in_ok-groups.rest.now other c.requires
    c.in_ok-groups.ensures.found c.in_ok-groups.ensures.stops c.in-None.ensures.none none is)
    c.whole.ensures.none
