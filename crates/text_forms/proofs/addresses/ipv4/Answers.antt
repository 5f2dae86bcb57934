use Rattle.std.proofs.Common.{arith, sym}
use Rattle.text_forms.proofs.addresses.ipv4.Goals as goal

pub returns-in_err-a-clause-none : goal.returns-in_err-a-clause-none
returns-in_err-a-clause-none c =
    rw c.from_residual.ensures (λ other is. c.in_err-a.ensures.none is.first _ is.first_small is.text_is)

pub returns-in_err-b-clause-none : goal.returns-in_err-b-clause-none
returns-in_err-b-clause-none c =
    rw c.from_residual-in_err-b.ensures (λ other is.
    let first = c.in_ok-a.ensures.only is.first _ is.first_small is.text_is in
    c.in_err-b.ensures.none is.second _ is.second_small (sym first.1))

pub returns-in_err-c-clause-none : goal.returns-in_err-c-clause-none
returns-in_err-c-clause-none c =
    rw c.from_residual-in_err-c.ensures (λ other is.
    let first = c.in_ok-a.ensures.only is.first _ is.first_small is.text_is in
    let second = c.in_ok-b.ensures.only is.second _ is.second_small (sym first.1) in
    c.in_err-c.ensures.none is.third _ is.third_small (sym second.1))

pub returns-in_err-d-clause-none : goal.returns-in_err-d-clause-none
returns-in_err-d-clause-none c =
    rw c.from_residual-in_err-d.ensures (λ other is.
    let first = c.in_ok-a.ensures.only is.first _ is.first_small is.text_is in
    let second = c.in_ok-b.ensures.only is.second _ is.second_small (sym first.1) in
    let third = c.in_ok-c.ensures.only is.third _ is.third_small (sym second.1) in
    c.in_err-d.ensures.none is.fourth is.fourth_small (sym third.1))

pub returns-clause-only : goal.returns-clause-only
returns-clause-only c = λ other is.
    let first = c.in_ok-a.ensures.only is.first _ is.first_small is.text_is in
    let second = c.in_ok-b.ensures.only is.second _ is.second_small (sym first.1) in
    let third = c.in_ok-c.ensures.only is.third _ is.third_small (sym second.1) in
    let last = c.in_ok-d.ensures.only is.fourth is.fourth_small (sym third.1) in
    omega (arith, is.value, first.0, second.0, third.0, last, c.from_be_bytes.ensures)
