use Rattle.std.proofs.Common.{ℕ, List, sym, subst}
use Rattle.text_forms.specs.Numbers.{IsAsn}
use Rattle.text_forms.proofs.CutLemmas.{lacks_from_all}
use Rattle.text_forms.proofs.OptionLemmas.{some_map, none_map}
use Rattle.text_forms.proofs.AsnLemmas.{asn_one, no_plain_asn, no_dotted_asn}
use Rattle.text_forms.proofs.asns.asn.Goals as goal

pub returns-in-Some-clause-only : goal.returns-in-Some-clause-only
returns-in-Some-clause-only c =
    some_map c.dotted_asn.result _ _
    (λ number is other also. asn_one c.args.text.now other number also
    (subst (λ (text : List ℕ). IsAsn text number) (sym c.in-Some.ensures.found) is))
    c.dotted_asn.ensures.found

pub returns-in-Some-clause-none : goal.returns-in-Some-clause-none
returns-in-Some-clause-none c =
    none_map c.dotted_asn.result _ _
    (λ none m is. no_dotted_asn c.args.text.now c.in-Some.high.now c.in-Some.low.now m
    (lacks_from_all 46 _ c.in-Some.ensures.first)
    c.in-Some.ensures.found none is)
    c.dotted_asn.ensures.none

pub returns-in-None-clause-only : goal.returns-in-None-clause-only
returns-in-None-clause-only c =
    some_map c.plain_asn.result _ _ (λ number is other also. asn_one c.args.text.now other number also is)
    c.plain_asn.ensures.found

pub returns-in-None-clause-none : goal.returns-in-None-clause-none
returns-in-None-clause-none c =
    none_map c.plain_asn.result _ _
    (λ none other is. no_plain_asn c.args.text.now other (lacks_from_all 46 _ c.in-None.ensures.none) none is)
    c.plain_asn.ensures.none
