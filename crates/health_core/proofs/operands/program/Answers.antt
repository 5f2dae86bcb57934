use Rattle.std.proofs.Common.{[]}
use Rattle.std.proofs.lemmas.Result.{err_from_is_err_and}
use Rattle.config_reader.specs.Words.{any_word}
use Rattle.config_reader.proofs.JoinedLemmas.{held_stops, joins_stops}
use Rattle.health_core.proofs.operands.program.Goals as goal

pub returns-in_err-put_word-clause-read : goal.returns-in_err-put_word-clause-read
returns-in_err-put_word-clause-read c =
    let e = err_from_is_err_and c.from_residual.result c.from_residual.ensures.1 in
    rw (e.1, e.2)
    (held_stops any_word c.args.words.now.end c.args.words.now.left c.put_word.new.words.left
    c.in_err-put_word.field-0.0
    (joins_stops [] c.put_word.new.self c.args.words.now.end c.args.words.now.left c.put_word.new.words.left
    c.put_word.new.words.left c.in_err-put_word.field-0.0
    (c.in_err-put_word.ensures.read [] c.new-run.ensures)))

pub returns-clause-read : goal.returns-clause-read
returns-clause-read c = c.in_ok-put_word.ensures.read [] c.new-run.ensures
