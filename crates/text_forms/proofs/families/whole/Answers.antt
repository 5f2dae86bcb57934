use Rattle.std.proofs.Common.{sym, subst, ℕ}
use Rattle.route_values.specs.declared.addr.Addr.{Addr}
use Rattle.route_values.specs.Addr.{width_of}
use Rattle.route_values.specs.Prefix.{IsPrefix}
use Rattle.text_forms.proofs.OptionLemmas.{none_from}
use Rattle.text_forms.proofs.FamilyLemmas.{addr_one}
use Rattle.text_forms.proofs.families.whole.Goals as goal

pub returns-in_err-addr-clause-none : goal.returns-in_err-addr-clause-none
returns-in_err-addr-clause-none c =
    rw c.from_residual.ensures (λ addr is canonical. c.in_err-addr.ensures.none addr is)

pub returns-clause-none : goal.returns-clause-none
returns-clause-none c =
    none_from c.new.result _ _ _ c.new.ensures (λ refuses addr is canonical.
    let same = addr_one c.args.text.now addr c.in_ok-addr.addr is c.in_ok-addr.ensures.found in
    let read = subst (λ (value : Addr). IsPrefix value (width_of value)) same canonical in
    refuses (subst (λ (bits : ℕ). IsPrefix c.in_ok-addr.addr bits) (sym c.width.ensures) read))
