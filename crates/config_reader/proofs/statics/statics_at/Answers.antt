use Rattle.std.proofs.Common.{Ok, refl}
use Rattle.std.proofs.lemmas.Result.{err_from_is_err_and}
use Rattle.config_reader.specs.Rules.{is_sign, saying, sign, until, ◌>>=◌}
use Rattle.config_reader.specs.Statics.{route_statement}
use Rattle.config_reader.proofs.RuleLemmas.{goes, goes_on, second_stops, third_stops}
use Rattle.config_reader.proofs.statics.statics_at.Goals as goal

pub returns-in_err-all-clause-read : goal.returns-in_err-all-clause-read
returns-in_err-all-clause-read c =
    let e = err_from_is_err_and c.from_residual-in_err-all.result c.from_residual-in_err-all.ensures.1 in
    rw (e.1, e.2)
    (second_stops (sign 123) (λ opened. until (is_sign 125) route_statement c.args.routes)
    (λ opened all. sign 125 >>= λ closed. saying all) c.args.words.now.end c.sign.new.words.end
    c.args.words.now.left c.sign.new.words.left c.routes_listed.new.words.left c.routes_listed.new.words.left
    c.in_ok-sign.field-0 c.in_err-all.field-0.0 c.in_ok-sign.ensures.read c.in_ok-sign.ensures.end
    c.in_err-all.ensures.read)

pub returns-in_err-sign-2-clause-read : goal.returns-in_err-sign-2-clause-read
returns-in_err-sign-2-clause-read c =
    let e = err_from_is_err_and c.from_residual-in_err-sign-2.result c.from_residual-in_err-sign-2.ensures.1 in
    rw (e.1, e.2)
    (third_stops (sign 123) (λ opened. until (is_sign 125) route_statement c.args.routes) (λ opened all. sign 125)
    (λ opened all closed. saying all) c.args.words.now.end c.sign.new.words.end c.routes_listed.new.words.end
    c.args.words.now.left c.sign.new.words.left c.routes_listed.new.words.left c.sign-2.new.words.left
    c.sign-2.new.words.left c.in_ok-sign.field-0 c.in_ok-all.all c.in_err-sign-2.field-0.0 c.in_ok-sign.ensures.read
    c.in_ok-sign.ensures.end c.in_ok-all.ensures.read c.in_ok-all.ensures.end c.in_err-sign-2.ensures.read)

pub returns-clause-read : goal.returns-clause-read
returns-clause-read c =
    goes_on (sign 123)
    (λ opened. until (is_sign 125) route_statement c.args.routes >>= λ all. sign 125 >>= λ closed. saying all)
    c.args.words.now.end c.sign.new.words.end c.args.words.now.left c.sign.new.words.left c.sign-2.new.words.left
    c.in_ok-sign.field-0 (Ok c.in_ok-all.all) c.in_ok-sign.ensures.read c.in_ok-sign.ensures.end
    (goes_on (until (is_sign 125) route_statement c.args.routes) (λ all. sign 125 >>= λ closed. saying all)
    c.sign.new.words.end c.routes_listed.new.words.end c.sign.new.words.left c.routes_listed.new.words.left
    c.sign-2.new.words.left c.in_ok-all.all (Ok c.in_ok-all.all) c.in_ok-all.ensures.read c.in_ok-all.ensures.end
    (goes (sign 125) (λ closed. saying c.in_ok-all.all) c.routes_listed.new.words.end c.routes_listed.new.words.left
    c.sign-2.new.words.left c.sign-2.new.words.left c.in_ok-sign-2.field-0 (Ok c.in_ok-all.all)
    c.in_ok-sign-2.ensures.read refl))
