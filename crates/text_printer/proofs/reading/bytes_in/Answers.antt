use Rattle.std.proofs.Common.{arith, sym, ◌∙◌, subst}
use Rattle.std.proofs.lemmas.Bool.{eqb-true, eqb-false}
use Rattle.text_printer.specs.Reading.{ReadsHex}
use Rattle.text_printer.specs.declared.fault.Unread.{Unread}
use Rattle.text_printer.proofs.HexLineLemmas.{hex_line, digits_hold, no_bytes}
use Rattle.text_printer.proofs.reading.bytes_in.Goals as goal

pub returns-then-is_empty-clause-err : goal.returns-then-is_empty-clause-err
returns-then-is_empty-clause-err c = λ bytes is.
    let hold = digits_hold c.args.text.now c.digits_in-digits.result.now bytes c.digits_in-digits.ensures is in
    let none = eqb-true _ 0 (sym c.is_empty.ensures ∙ c.if-is_empty.true) in
    absurd (omega (arith, hold.0, none))

pub returns-in-Ok-clause-ok : goal.returns-in-Ok-clause-ok
returns-in-Ok-clause-ok c =
    let some = eqb-false _ 0 (sym c.is_empty.ensures ∙ c.if-is_empty.false) in
    hex_line c.args.text.now c.digits_in-digits.result.now c.in-Ok.bytes.items c.digits_in-digits.ensures
    (omega (arith, some)) c.in-Ok.ensures.ok

pub returns-in-Err : goal.returns-in-Err
returns-in-Err c = record {
  ok = tt;
  err = subst (λ (unread : Unread). ReadsHex c.args.text.now unread) (sym c.unread_hex.ensures)
      (no_bytes c.args.text.now c.digits_in-digits.result.now c.in-Err.fault c.digits_in-digits.ensures
      c.in-Err.ensures.err);
}
