use Rattle.std.proofs.Common.{Ok, refl}
use Rattle.std.proofs.lemmas.Result.{err_from_is_err_and}
use Rattle.config_reader.specs.Heard.{heard_closed, heard_opened, names_heard}
use Rattle.config_reader.specs.Rules.{saying, ◌>>=◌}
use Rattle.config_reader.proofs.RuleLemmas.{goes, goes_on, second_stops, third_stops}
use Rattle.config_reader.proofs.heard.heard_at.Goals as goal

pub returns-in_err-all-clause-read : goal.returns-in_err-all-clause-read
returns-in_err-all-clause-read c =
    let e = err_from_is_err_and c.from_residual-in_err-all.result c.from_residual-in_err-all.ensures.1 in
    rw (e.1, e.2)
    (second_stops heard_opened (λ opened. names_heard c.args.heard)
    (λ opened all. heard_closed >>= λ closed. saying all) c.args.words.now.end c.heard_opened.new.words.end
    c.args.words.now.left c.heard_opened.new.words.left c.names_heard.new.words.left c.names_heard.new.words.left
    c.in_ok-heard_opened.field-0 c.in_err-all.field-0.0 c.in_ok-heard_opened.ensures.read
    c.in_ok-heard_opened.ensures.end c.in_err-all.ensures.read)

pub returns-in_err-heard_closed-clause-read : goal.returns-in_err-heard_closed-clause-read
returns-in_err-heard_closed-clause-read c =
    let e = err_from_is_err_and c.from_residual-in_err-heard_closed.result
    c.from_residual-in_err-heard_closed.ensures.1 in
    rw (e.1, e.2)
    (third_stops heard_opened (λ opened. names_heard c.args.heard) (λ opened all. heard_closed)
    (λ opened all closed. saying all) c.args.words.now.end c.heard_opened.new.words.end c.names_heard.new.words.end
    c.args.words.now.left c.heard_opened.new.words.left c.names_heard.new.words.left c.heard_closed.new.words.left
    c.heard_closed.new.words.left c.in_ok-heard_opened.field-0 c.in_ok-all.all c.in_err-heard_closed.field-0.0
    c.in_ok-heard_opened.ensures.read c.in_ok-heard_opened.ensures.end c.in_ok-all.ensures.read
    c.in_ok-all.ensures.end c.in_err-heard_closed.ensures.read)

pub returns-clause-read : goal.returns-clause-read
returns-clause-read c =
    goes_on heard_opened (λ opened. names_heard c.args.heard >>= λ all. heard_closed >>= λ closed. saying all)
    c.args.words.now.end c.heard_opened.new.words.end c.args.words.now.left c.heard_opened.new.words.left
    c.heard_closed.new.words.left c.in_ok-heard_opened.field-0 (Ok c.in_ok-all.all) c.in_ok-heard_opened.ensures.read
    c.in_ok-heard_opened.ensures.end
    (goes_on (names_heard c.args.heard) (λ all. heard_closed >>= λ closed. saying all) c.heard_opened.new.words.end
    c.names_heard.new.words.end c.heard_opened.new.words.left c.names_heard.new.words.left
    c.heard_closed.new.words.left c.in_ok-all.all (Ok c.in_ok-all.all) c.in_ok-all.ensures.read
    c.in_ok-all.ensures.end
    (goes heard_closed (λ closed. saying c.in_ok-all.all) c.names_heard.new.words.end c.names_heard.new.words.left
    c.heard_closed.new.words.left c.heard_closed.new.words.left c.in_ok-heard_closed.field-0 (Ok c.in_ok-all.all)
    c.in_ok-heard_closed.ensures.read refl))
