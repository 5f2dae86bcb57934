use Rattle.std.proofs.Common.{ap, sym, ◌∙◌, decimal}
use Rattle.std.proofs.lemmas.Slice.Eq.{slice_eq-Decides}
use Rattle.std.proofs.lemmas.Bool.{false≢true}
use Rattle.std.proofs.lemmas.Bool.Decides.{Decides-eqb}
use Rattle.health_core.proofs.NumberLemmas.{no_long, same_long}
use Rattle.health_core.proofs.spellings.long_in.Goals as goal

pub returns-then-eq-clause-only : goal.returns-then-eq-clause-only
returns-then-eq-clause-only c = λ other small is.
    sym (same_long c.in-Ok.number other c.args.text.now small is c.in-Ok.ensures.value.0)

pub returns-else-eq-clause-none : goal.returns-else-eq-clause-none
returns-else-eq-clause-none c = λ other small is.
    let same = same_long c.in-Ok.number other c.args.text.now small is c.in-Ok.ensures.value.0 in
    let printed = c.format.ensures.text ∙ ap decimal same ∙ sym is in
    let equal = slice_eq-Decides (λ left right. Decides-eqb left right) _ _ c.eq.result c.eq.ensures in
    absurd (false≢true (sym c.if-eq.false ∙ equal.1 printed))

pub returns-in-Err-clause-none : goal.returns-in-Err-clause-none
returns-in-Err-clause-none c = λ other small is. no_long other c.args.text.now small is c.in-Err.ensures.value.0
