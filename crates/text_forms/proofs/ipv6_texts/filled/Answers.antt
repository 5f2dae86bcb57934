use Rattle.std.proofs.Common.{ℕ, ◌-◌, ◌+◌, List, length, arith, subst}
use Rattle.text_forms.specs.Ipv6.{SpellNumber}
use Rattle.text_forms.proofs.OptionLemmas.{some_map}
use Rattle.text_forms.proofs.Ipv6Lemmas.{zeros_between}
use Rattle.text_forms.proofs.ipv6_texts.filled.Goals as goal

pub returns-clause-found : goal.returns-clause-found
returns-clause-found c =
    let zeros = 8 - (c.len.result + length c.args.behind.now) in
    let all = zeros_between c.as_slice.result.now c.with_all-all.result.items c.with_all-padded.result.items
    c.args.before.items c.args.behind.now zeros c.as_slice.ensures.value c.with_all-all.ensures
    c.with_all-padded.ensures (omega arith) in
    some_map c.number_of.result _ _
    (λ number spell. (zeros, omega arith, subst (λ (groups : List ℕ). SpellNumber groups number) all spell))
    c.number_of.ensures.found
