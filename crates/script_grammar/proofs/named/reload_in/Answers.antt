use Rattle.std.proofs.Common.{sym, ◌∙◌}
use Rattle.script_grammar.proofs.OperandLemmas.{reload_none, reload_text}
use Rattle.script_grammar.proofs.named.reload_in.Goals as goal

pub returns-in-Ok : goal.returns-in-Ok
returns-in-Ok c =
    reload_text c.args.text.now c.in-Ok.path.now c.in-Ok.ensures.cases.0 (sym c.is_empty.ensures ∙ c.if-is_empty.false)
    (sym c.contains.ensures.value ∙ c.if-contains.false) c.in-Ok.ensures.cases.1

pub returns-in-Err : goal.returns-in-Err
returns-in-Err c = reload_none c.args.text.now c.in-Err.ensures.cases.0
