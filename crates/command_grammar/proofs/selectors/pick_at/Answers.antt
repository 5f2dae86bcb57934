use Rattle.std.proofs.Common.{subst}
use Rattle.std.proofs.lemmas.Result.{err_from_is_err_and}
use Rattle.route_values.specs.declared.pick.Pick.{Pick}
use Rattle.route_grammar.specs.Answered.{Answers}
use Rattle.route_grammar.specs.Limits.{in_force}
use Rattle.command_grammar.specs.Selectors.{Qualified, further_pick}
use Rattle.command_grammar.proofs.SelectorLemmas.{pick_err, pick_addr_err, pick_ok}
use Rattle.command_grammar.proofs.selectors.pick_at.Goals as goal

pub returns-in_err-keyword-clause-read : goal.returns-in_err-keyword-clause-read
returns-in_err-keyword-clause-read c =
    let e = err_from_is_err_and c.from_residual.result c.from_residual.ensures.1 in
    rw (e.1, e.2)
    (pick_err c.args.words.now.left c.keyword.new.words.left c.keyword.new.words.end c.in_err-keyword.field-0.0
    c.in_err-keyword.ensures.read)

pub returns-in_err-peer-clause-read : goal.returns-in_err-peer-clause-read
returns-in_err-peer-clause-read c =
    let e = err_from_is_err_and c.from_residual-in_err-peer.result c.from_residual-in_err-peer.ensures.1 in
    rw (e.1, e.2)
    (pick_addr_err c.args.words.now.left c.keyword.new.words.left c.addr_at.new.words.left c.addr_at.new.words.end
    c.in_err-peer.field-0.0 c.in_ok-keyword.ensures.read c.in_err-peer.ensures.read)

pub returns-clause-read : goal.returns-clause-read
returns-clause-read c =
    let goal : Pick → Type 0 =
    λ pick. Answers (Qualified pick) further_pick in_force c.addr_at.new.words.left c.qualified.new.words.left
    c.qualified.new.words.end c.qualified.result in
    pick_ok c.args.words.now.left c.keyword.new.words.left c.addr_at.new.words.left c.qualified.new.words.left
    c.qualified.new.words.end c.in_ok-peer.peer c.qualified.result c.in_ok-keyword.ensures.read
    c.in_ok-peer.ensures.read
    (subst goal c.bare.ensures c.qualified.ensures.read)
