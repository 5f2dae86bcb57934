use Rattle.std.proofs.Common.{arith, ap, sym, ◌∙◌, ◌∷◌, []}
use Rattle.std.specs.List.{list_all}
use Rattle.text_forms.specs.Blanks.{is_blank_byte}
use Rattle.text_forms.specs.Lines.{Text}
use Rattle.text_forms.proofs.LineLemmas.{line_or_none-blank, line_or_none-long, line_or_none-text}
use Rattle.text_forms.proofs.lines.line_in.Goals as goal

pub returns-then-is_blank_line : goal.returns-then-is_blank_line
returns-then-is_blank_line c =
    let blank = ap (list_all is_blank_byte) (sym c.trimmed-text.ensures) ∙ sym c.is_blank_line.ensures
    ∙ c.if-is_blank_line.true in
    sym (line_or_none-blank c.args.part.now blank)

pub returns-then-part-gt-MAX_LINE : goal.returns-then-part-gt-MAX_LINE
returns-then-part-gt-MAX_LINE c =
    let not_blank = ap (list_all is_blank_byte) (sym c.trimmed-text.ensures) ∙ sym c.is_blank_line.ensures
    ∙ c.if-is_blank_line.false in
    sym (line_or_none-long c.args.part.now not_blank (omega arith))

pub returns : goal.returns
returns c =
    let not_blank = ap (list_all is_blank_byte) (sym c.trimmed-text.ensures) ∙ sym c.is_blank_line.ensures
    ∙ c.if-is_blank_line.false in
    ap (λ text. Text text ∷ []) c.trimmed-text.ensures ∙ sym (line_or_none-text c.args.part.now not_blank (omega arith))
