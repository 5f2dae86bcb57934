use Rattle.std.proofs.Common.{sym, ◌∙◌}
use Rattle.text_forms.proofs.WordLemmas.{behind_none, behind_more}
use Rattle.text_forms.proofs.word.without_blanks.Goals as goal

pub blanks-init : goal.blanks-init
blanks-init c = behind_none c.args.text.now

pub blanks-preserved : goal.blanks-preserved
blanks-preserved c =
    behind_more c.args.text.now c.blanks.rest.now c.in-Some.b.now c.in-Some.after.now c.blanks.invariant
    c.in-Some.ensures.cases.0 (sym c.is_blank.ensures ∙ c.if-not-is_blank.false)
