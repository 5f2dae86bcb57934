use Rattle.std.proofs.Common.{sym, ◌∙◌}
use Rattle.text_forms.specs.LineTold.{line_told}
use Rattle.text_forms.proofs.CutLemmas.{lacks_from_all}
use Rattle.text_forms.proofs.LineLemmas.{behind_none, behind_more, first_of, lines-first, first_shorter, lines-behind}
use Rattle.text_forms.proofs.LineLemmas.{lines-none}
use Rattle.text_forms.proofs.lines.first_line.Goals as goal

pub parts-init : goal.parts-init
parts-init c = behind_none c.args.bytes.now

pub returns-in-Some-line_in-clause-place : goal.returns-in-Some-line_in-clause-place
returns-in-Some-line_in-clause-place c =
    first_of c.args.bytes.now c.parts.rest.now c.in-Some.part.now c.in-Some.after.now (line_told c.in-Some-line_in.line)
    c.parts.invariant c.in-Some.ensures.found c.in-Some.ensures.first (sym c.in-Some-line_in.ensures)

pub returns-in-Some-line_in-clause-found : goal.returns-in-Some-line_in-clause-found
returns-in-Some-line_in-clause-found c = lines-first _ _ _ (returns-in-Some-line_in-clause-place c)

pub returns-in-Some-line_in-clause-shorter : goal.returns-in-Some-line_in-clause-shorter
returns-in-Some-line_in-clause-shorter c = first_shorter _ _ _ (returns-in-Some-line_in-clause-place c)

pub parts-preserved : goal.parts-preserved
parts-preserved c =
    behind_more c.args.bytes.now c.parts.rest.now c.in-Some.part.now c.in-Some.after.now c.parts.invariant
    c.in-Some.ensures.found c.in-Some.ensures.first (sym c.in_default-line_in.ensures)

pub returns-clause-none : goal.returns-clause-none
returns-clause-none c =
    lines-behind c.args.bytes.now c.parts.rest.now c.parts.invariant
    ∙ lines-none c.parts.rest.now (lacks_from_all 10 _ c.in_default.ensures.none)
