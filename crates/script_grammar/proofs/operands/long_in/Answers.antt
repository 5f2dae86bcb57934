use Rattle.std.proofs.Common.{ap, arith, decimal, sym, ◌∙◌}
use Rattle.std.proofs.lemmas.Bool.{false≢true}
use Rattle.std.proofs.lemmas.Bool.Decides.{Decides-eqb}
use Rattle.std.proofs.lemmas.Slice.Eq.{slice_eq-Decides}
use Rattle.script_grammar.specs.Words.{longs}
use Rattle.script_grammar.proofs.NumberLemmas.{no_long, number_found, number_none, same_long}
use Rattle.script_grammar.proofs.operands.long_in.Goals as goal

pub returns-then-eq : goal.returns-then-eq
returns-then-eq c =
    let equal = slice_eq-Decides (λ left right. Decides-eqb left right) _ _ c.eq.result c.eq.ensures in
    sym (number_found longs c.in-Ok.number c.args.text.now (omega arith) (omega arith)
    (sym (equal.0 c.if-eq.true) ∙ c.format.ensures.text))

pub returns-else-eq : goal.returns-else-eq
returns-else-eq c =
    sym (number_none longs c.args.text.now (λ other small is.
    let same = same_long c.in-Ok.number other c.args.text.now small is c.in-Ok.ensures.value.0 in
    let printed = c.format.ensures.text ∙ ap decimal same ∙ sym is in
    let equal = slice_eq-Decides (λ left right. Decides-eqb left right) _ _ c.eq.result c.eq.ensures in
    absurd (false≢true (sym c.if-eq.false ∙ equal.1 printed))))

pub returns-in-Err : goal.returns-in-Err
returns-in-Err c =
    sym (number_none longs c.args.text.now (λ other small is.
    no_long other c.args.text.now small is c.in-Err.ensures.value.0))
