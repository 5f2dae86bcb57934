use Rattle.std.proofs.Common.{Ok}
use Rattle.std.proofs.lemmas.Result.{err_from_is_err_and}
use Rattle.config_reader.specs.Rules.{sign_or}
use Rattle.config_reader.proofs.JoinedLemmas.{run_ended, run_stops_first, run_stops_last}
use Rattle.config_reader.proofs.RuleLemmas.{same_end}
use Rattle.config_reader.proofs.processes.run_words.Goals as goal

pub returns-in_err-joined-clause-read : goal.returns-in_err-joined-clause-read
returns-in_err-joined-clause-read c =
    let e = err_from_is_err_and c.from_residual.result c.from_residual.ensures.1 in
    rw (e.1, e.2)
    (run_stops_first c.args.words.now.end c.args.words.now.left c.words_joined.new.words.left
    c.words_joined.new.words.left c.in_err-joined.field-0.0 c.in_err-joined.ensures.read)

pub returns-in_err-sign_or-clause-read : goal.returns-in_err-sign_or-clause-read
returns-in_err-sign_or-clause-read c =
    let e = err_from_is_err_and c.from_residual-in_err-sign_or.result c.from_residual-in_err-sign_or.ensures.1 in
    let held = c.in_ok-joined.ensures.read in
    rw (e.1, e.2)
    (run_stops_last held.0 c.wrong.result c.args.words.now.end c.words_joined.new.words.end c.args.words.now.left
    c.words_joined.new.words.left c.sign_or.new.words.left c.sign_or.new.words.left c.in_err-sign_or.field-0.0 held.1
    (c.wrong.ensures held.0 held.2) c.in_ok-joined.ensures.end c.in_err-sign_or.ensures.read)

pub returns-clause-read : goal.returns-clause-read
returns-clause-read c =
    let held = c.in_ok-joined.ensures.read in
    run_ended c.in_ok-joined.joined held.0 c.wrong.result c.args.words.now.end c.args.words.now.left
    c.words_joined.new.words.left c.sign_or.new.words.left held.1 held.2 (c.wrong.ensures held.0 held.2)
    (same_end (sign_or 59 c.wrong.result) c.args.words.now.end c.words_joined.new.words.end
    c.words_joined.new.words.left c.sign_or.new.words.left (Ok tt) c.in_ok-joined.ensures.end
    c.in_ok-sign_or.ensures.read)
