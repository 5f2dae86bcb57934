use Rattle.std.proofs.Common.{ℕ, List, arith, subst}
use Rattle.std.proofs.lemmas.Result.{err_from_is_err_and}
use Rattle.text_printer.specs.Forms.{IsHexLine}
use Rattle.text_printer.specs.Reading.{ReadsHex, ReadsBytes}
use Rattle.text_printer.proofs.ReadingLemmas.{hex_unread, line_read}
use Rattle.text_printer.proofs.reading.read_message.Goals as goal

pub returns-in_err-bytes : goal.returns-in_err-bytes
returns-in_err-bytes c =
    let exit = err_from_is_err_and c.from_residual.result c.from_residual.ensures.1 in
    rw (exit.1, exit.2) (hex_unread c.args.caps.now c.args.line.now c.in_err-bytes.field-0.0
    (omega (arith, c.if-line-gt-MAX_LINE.false))
    (subst (λ (text : List ℕ). ReadsHex text c.in_err-bytes.field-0.0) c.without_return.ensures
    c.in_err-bytes.ensures.err))

pub returns : goal.returns
returns c =
    line_read c.args.caps.now c.args.line.now c.in_ok-bytes.bytes.items c.effects_in.result
    (omega (arith, c.if-line-gt-MAX_LINE.false))
    (subst (λ (text : List ℕ). IsHexLine text c.in_ok-bytes.bytes.items) c.without_return.ensures
    c.in_ok-bytes.ensures.ok)
    (subst (λ (bytes : List ℕ). ReadsBytes c.args.caps.now bytes c.effects_in.result) c.deref.ensures.value
    c.effects_in.ensures)
