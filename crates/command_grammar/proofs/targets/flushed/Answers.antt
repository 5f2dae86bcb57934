use Rattle.std.proofs.lemmas.Result.{err_from_is_err_and}
use Rattle.command_grammar.specs.declared.command.Command.TheVariants as said
use Rattle.command_grammar.specs.Forms.{Ended}
use Rattle.command_grammar.proofs.FormLemmas.{ended_some}
use Rattle.command_grammar.proofs.TargetLemmas.{out_err, out_ok}
use Rattle.command_grammar.proofs.targets.flushed.Goals as goal

pub returns-in_err-out_at-clause-read : goal.returns-in_err-out_at-clause-read
returns-in_err-out_at-clause-read c =
    let e = err_from_is_err_and c.from_residual.result c.from_residual.ensures.1 in
    rw (e.1, e.2)
    (out_err (Ended (said.Flush c.args.pick)) c.args.words.now.left c.out_at.new.words.left c.out_at.new.words.end
    c.in_err-out_at.field-0.0 (ended_some (said.Flush c.args.pick)) c.in_err-out_at.ensures.read)

pub returns-clause-read : goal.returns-clause-read
returns-clause-read c =
    out_ok (Ended (said.Flush c.args.pick)) c.args.words.now.left c.out_at.new.words.left c.out_at.new.words.left
    c.out_at.new.words.end c.ended.result c.in_ok-out_at.ensures.read c.ended.ensures
