use Rattle.std.proofs.Common.{ℕ}
use Rattle.route_values.specs.declared.addr.Addr.TheVariants.{V4}
use Rattle.text_forms.proofs.OptionLemmas.{some_map, none_map}
use Rattle.text_forms.proofs.FamilyLemmas.{addr_one, no_addr}
use Rattle.text_forms.proofs.families.addr.Goals as goal

pub returns-in-Some-clause-only : goal.returns-in-Some-clause-only
returns-in-Some-clause-only c = λ other also.
    addr_one c.args.text.now other (V4 c.in-Some.number) also c.in-Some.ensures.found

pub returns-in-None-clause-only : goal.returns-in-None-clause-only
returns-in-None-clause-only c =
    some_map c.addr6.result _ _ (λ addr is other also. addr_one c.args.text.now other addr also is)
    c.addr6.ensures.found

pub returns-in-None-clause-none : goal.returns-in-None-clause-none
returns-in-None-clause-none c =
    none_map c.addr6.result _ _ (λ none other is. no_addr c.args.text.now other c.in-None.ensures.none none is)
    c.addr6.ensures.none
