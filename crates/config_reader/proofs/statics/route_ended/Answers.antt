use Rattle.std.proofs.lemmas.Result.{err_from_is_err_and}
use Rattle.config_reader.proofs.StaticLemmas.{ended_goes, ended_stops}
use Rattle.config_reader.proofs.statics.route_ended.Goals as goal

pub returns-in_err-sign_or-clause-read : goal.returns-in_err-sign_or-clause-read
returns-in_err-sign_or-clause-read c =
    let e = err_from_is_err_and c.from_residual.result c.from_residual.ensures.1 in
    rw (e.1, e.2)
    (ended_stops c.args.routes c.args.prefix c.args.items c.route_wrong.result c.args.words.now.end
    c.args.words.now.left c.sign_or.new.words.left c.sign_or.new.words.left c.in_err-sign_or.field-0.0
    c.route_wrong.ensures c.in_err-sign_or.ensures.read)

pub returns-clause-read : goal.returns-clause-read
returns-clause-read c =
    ended_goes c.args.routes c.in_ok-all.all c.args.prefix c.args.items c.route_wrong.result c.args.words.now.end
    c.args.words.now.left c.sign_or.new.words.left c.route_wrong.ensures c.in_ok-sign_or.ensures.read
    c.in_ok-all.ensures
