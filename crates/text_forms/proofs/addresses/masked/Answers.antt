use Rattle.std.proofs.Common.{arith, sym, ◌∙◌, subst, ℕ}
use Rattle.std.proofs.lemmas.Fmt.{decimal_injective}
use Rattle.route_values.specs.declared.addr.Addr.TheVariants.{V4}
use Rattle.route_values.specs.Prefix.{IsPrefix}
use Rattle.text_forms.proofs.OptionLemmas.{none_from}
use Rattle.text_forms.proofs.AddressLemmas.{ipv4_one}
use Rattle.text_forms.proofs.addresses.masked.Goals as goal

pub returns-in_err-number-clause-none : goal.returns-in_err-number-clause-none
returns-in_err-number-clause-none c =
    rw c.from_residual.ensures (λ number bits is text_is canonical. c.in_err-number.ensures.none number is)

pub returns-clause-none : goal.returns-clause-none
returns-clause-none c =
    none_from c.new.result _ _ _ c.new.ensures (λ refuses number bits is text_is canonical.
    let same = ipv4_one c.args.addr.now number c.in_ok-number.number is c.in_ok-number.ensures.found in
    let len = decimal_injective bits c.in_ok-len.len (omega (arith, canonical.short)) (omega arith)
    (sym text_is ∙ c.in_ok-len.ensures.found) in
    let read = subst (λ (value : ℕ). IsPrefix (V4 value) bits) same canonical in
    refuses (subst (λ (value : ℕ). IsPrefix (V4 c.in_ok-number.number) value) len read))
