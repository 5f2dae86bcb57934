use Rattle.std.proofs.Common.{sym, ◌∙◌}
use Rattle.exa_top.proofs.WordLemmas.{encode_none}
use Rattle.exa_top.proofs.words.encode_of.Goals as goal

pub returns-in-None-clause-none : goal.returns-in-None-clause-none
returns-in-None-clause-none c =
    encode_none c.args.operands.now _ _ c.in_ok-path.ensures.cases.0 (sym c.is_empty.ensures ∙ c.if-is_empty.false)
    c.in-None.ensures.none
