use Rattle.std.proofs.lemmas.Result.{err_from_is_err_and}
use Rattle.command_grammar.proofs.VerbLemmas.{verb_err, verb_ok}
use Rattle.command_grammar.proofs.verbs.targeted.Goals as goal

pub returns-in_err-verb-clause-read : goal.returns-in_err-verb-clause-read
returns-in_err-verb-clause-read c =
    let e = err_from_is_err_and c.from_residual.result c.from_residual.ensures.1 in
    rw (e.1, e.2)
    (verb_err c.args.pick c.args.words.now.left c.verb_at.new.words.left c.verb_at.new.words.end
    c.in_err-verb.field-0.0 c.in_err-verb.ensures.read)

pub returns-clause-read : goal.returns-clause-read
returns-clause-read c =
    verb_ok c.args.pick c.in_ok-verb.verb c.args.words.now.left c.verb_at.new.words.left c.wanted.new.words.left
    c.wanted.new.words.end c.wanted.result c.in_ok-verb.ensures.read c.wanted.ensures.read
