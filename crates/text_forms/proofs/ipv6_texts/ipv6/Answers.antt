use Rattle.std.proofs.Common.{ℕ, List, sym, subst}
use Rattle.text_forms.specs.Ipv6.{IsIpv6}
use Rattle.text_forms.proofs.OptionLemmas.{some_map, none_map}
use Rattle.text_forms.proofs.Ipv6Lemmas.{ipv6_one}
use Rattle.text_forms.proofs.ipv6_texts.ipv6.Goals as goal

pub returns-in-Some-clause-only : goal.returns-in-Some-clause-only
returns-in-Some-clause-only c =
    some_map c.colon_led.result _ _
    (λ number is other also. ipv6_one c.args.text.now other number also
    (subst (λ (text : List ℕ). IsIpv6 text number) (sym c.in-Some.ensures.found) is))
    c.colon_led.ensures.found

pub returns-in-Some-clause-none : goal.returns-in-Some-clause-none
returns-in-Some-clause-none c =
    none_map c.colon_led.result _ _
    (λ none other is. none other (subst (λ (text : List ℕ). IsIpv6 text other) c.in-Some.ensures.found is))
    c.colon_led.ensures.none

pub returns-in-None-clause-only : goal.returns-in-None-clause-only
returns-in-None-clause-only c =
    some_map c.group_led.result _ _ (λ number is other also. ipv6_one c.args.text.now other number also is)
    c.group_led.ensures.found
