use Rattle.std.proofs.Common.{◌≡◌, [], None, Ok, Err, rules}
use Rattle.std.proofs.lemmas.Result.{err_from_is_err_and}
use Rattle.command_grammar.specs.declared.command.Command.TheVariants as said
use Rattle.command_grammar.specs.Targets.{Within}
use Rattle.command_grammar.proofs.TargetLemmas.{out_err, out_ok, within_some, within_none}
use Rattle.command_grammar.proofs.TargetLemmas.{within_err, within_ok}
use Rattle.command_grammar.proofs.targets.shown.Goals as goal

pub returns-in_err-out_at-clause-read : goal.returns-in_err-out_at-clause-read
returns-in_err-out_at-clause-read c =
    let e = err_from_is_err_and c.from_residual.result c.from_residual.ensures.1 in
    rw (e.1, e.2)
    (out_err (Within c.args.pick) c.args.words.now.left c.out_at.new.words.left c.out_at.new.words.end
    c.in_err-out_at.field-0.0 (within_some c.args.pick) c.in_err-out_at.ensures.read)

pub returns-then-is_end-clause-read : goal.returns-then-is_end-clause-read
returns-then-is_end-clause-read c =
    let none : c.out_at.new.words.left ≡ [] = search rules in
    out_ok (Within c.args.pick) c.args.words.now.left c.out_at.new.words.left c.out_at.new.words.left
    c.out_at.new.words.end (Ok (said.Show c.args.pick None)) c.in_ok-out_at.ensures.read
    (within_none c.args.pick c.out_at.new.words.left c.out_at.new.words.end none)

pub returns-in_err-prefix-clause-read : goal.returns-in_err-prefix-clause-read
returns-in_err-prefix-clause-read c =
    let e = err_from_is_err_and c.from_residual-in_err-prefix.result c.from_residual-in_err-prefix.ensures.1 in
    rw (e.1, e.2)
    (out_ok (Within c.args.pick) c.args.words.now.left c.out_at.new.words.left c.prefix_at.new.words.left
    c.prefix_at.new.words.end (Err c.in_err-prefix.field-0.0) c.in_ok-out_at.ensures.read
    (within_err c.args.pick c.out_at.new.words.left c.prefix_at.new.words.left c.prefix_at.new.words.end
    c.in_err-prefix.field-0.0 (search rules) c.in_err-prefix.ensures.read))

pub returns-clause-read : goal.returns-clause-read
returns-clause-read c =
    let some : c.out_at.new.words.left ≡ [] → ⊥ = search rules in
    out_ok (Within c.args.pick) c.args.words.now.left c.out_at.new.words.left c.prefix_at.new.words.left
    c.prefix_at.new.words.end c.ended.result c.in_ok-out_at.ensures.read
    (within_ok c.args.pick c.in_ok-prefix.prefix c.out_at.new.words.left c.prefix_at.new.words.left
    c.prefix_at.new.words.left c.prefix_at.new.words.end c.ended.result some c.in_ok-prefix.ensures.read
    c.ended.ensures)
