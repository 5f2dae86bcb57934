use Rattle.std.proofs.Common.{sym, subst, List, ℕ}
use Rattle.text_forms.specs.Families.{IsBlockText}
use Rattle.text_forms.proofs.CutLemmas.{lacks_from_all}
use Rattle.text_forms.proofs.OptionLemmas.{some_map, none_map}
use Rattle.text_forms.proofs.FamilyLemmas.{block_one, no_masked, no_whole}
use Rattle.text_forms.proofs.families.prefix.Goals as goal

pub returns-in-Some-clause-only : goal.returns-in-Some-clause-only
returns-in-Some-clause-only c =
    some_map c.masked.result _ _
    (λ block is other also. block_one c.args.text.now other block also
    (subst (λ (text : List ℕ). IsBlockText text block) (sym c.in-Some.ensures.found) is))
    c.masked.ensures.found

pub returns-in-Some-clause-none : goal.returns-in-Some-clause-none
returns-in-Some-clause-none c =
    none_map c.masked.result _ _
    (λ none block is. no_masked c.in-Some.front.now c.in-Some.len.now block
    (lacks_from_all 47 _ c.in-Some.ensures.first)
    none
    (subst (λ (text : List ℕ). IsBlockText text block) c.in-Some.ensures.found is))
    c.masked.ensures.none

pub returns-in-None-clause-only : goal.returns-in-None-clause-only
returns-in-None-clause-only c =
    some_map c.whole.result _ _ (λ block is other also. block_one c.args.text.now other block also is)
    c.whole.ensures.found

pub returns-in-None-clause-none : goal.returns-in-None-clause-none
returns-in-None-clause-none c =
    none_map c.whole.result _ _
    (λ none block is. no_whole c.args.text.now block (lacks_from_all 47 _ c.in-None.ensures.none) none is)
    c.whole.ensures.none
