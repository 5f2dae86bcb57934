use Rattle.std.proofs.Common.{arith, sym, ◌∙◌, subst, ℕ}
use Rattle.std.proofs.lemmas.Fmt.{decimal_injective}
use Rattle.route_values.specs.declared.addr.Addr.{Addr}
use Rattle.route_values.specs.Prefix.{IsPrefix}
use Rattle.text_forms.proofs.OptionLemmas.{none_from}
use Rattle.text_forms.proofs.FamilyLemmas.{addr_one, block_short}
use Rattle.text_forms.proofs.families.masked.Goals as goal

pub returns-in_err-addr-clause-none : goal.returns-in_err-addr-clause-none
returns-in_err-addr-clause-none c =
    rw c.from_residual.ensures (λ addr bits is text_is canonical. c.in_err-addr.ensures.none addr is)

pub returns-in_err-len-clause-none : goal.returns-in_err-len-clause-none
returns-in_err-len-clause-none c =
    rw c.from_residual-in_err-len.ensures (λ addr bits is text_is canonical.
    c.in_err-len.ensures.none bits (block_short addr bits canonical) text_is)

pub returns-clause-none : goal.returns-clause-none
returns-clause-none c =
    none_from c.new.result _ _ _ c.new.ensures (λ refuses addr bits is text_is canonical.
    let same = addr_one c.args.front.now addr c.in_ok-addr.addr is c.in_ok-addr.ensures.found in
    let len = decimal_injective bits c.in_ok-len.len (omega (arith, block_short addr bits canonical)) (omega arith)
    (sym text_is ∙ c.in_ok-len.ensures.found) in
    let read = subst (λ (value : Addr). IsPrefix value bits) same canonical in
    refuses (subst (λ (value : ℕ). IsPrefix c.in_ok-addr.addr value) len read))
