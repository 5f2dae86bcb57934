use Rattle.std.proofs.Common.{subst, sym}
use Rattle.std.specs.Str.{IsUtf8}
use Rattle.std.proofs.lemmas.Fmt.{IsAscii-decimal}
use Rattle.std.proofs.lemmas.Str.{IsUtf8-from_ascii}
use Rattle.script_grammar.specs.Words.{longs}
use Rattle.script_grammar.proofs.NumberLemmas.{number_none}
use Rattle.script_grammar.proofs.operands.long.Goals as goal

pub returns-in-Err : goal.returns-in-Err
returns-in-Err c =
    sym (number_none longs c.args.word.now (λ other small is.
    c.in-Err.ensures.cases.0 (subst IsUtf8 (sym is) (IsUtf8-from_ascii _ (IsAscii-decimal other small)))))
