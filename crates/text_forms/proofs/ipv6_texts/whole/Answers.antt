use Rattle.std.proofs.Common.{length, ap, ◌∙◌}
use Rattle.text_forms.proofs.OptionLemmas.{none_map}
use Rattle.text_forms.proofs.Ipv6ReadLemmas.{no_eight}
use Rattle.text_forms.proofs.ipv6_texts.whole.Goals as goal

pub returns-clause-none : goal.returns-clause-none
returns-clause-none c =
    none_map c.number_of.result _ _
    (λ none last other end spell. no_eight c.args.rest.now c.args.groups.items c.in_ok-all.all.items
    c.in_ok-all.ensures.found.0 last other c.in_ok-all.ensures.found.2 c.in_ok-all.ensures.found.1
    (λ eight. none (ap length c.as_slice.ensures.value ∙ eight)) end spell)
    c.number_of.ensures.none
