use Rattle.std.proofs.lemmas.Bool.{iff_false}
use Rattle.std.proofs.lemmas.Result.{err_from_is_err_and}
use Rattle.route_grammar.proofs.MarkLemmas.{enclosed_bad_word, enclosed_unended, enclosed_read}
use Rattle.route_grammar.proofs.operands.read_enclosed.Goals as goal

pub returns-in_err-value-clause-answers : goal.returns-in_err-value-clause-answers
returns-in_err-value-clause-answers g c =
    let e = err_from_is_err_and c.from_residual.result c.from_residual.ensures.1 in
    rw (e.1, e.2) (enclosed_bad_word (g.S.Spelling.spells c.args.spelling.now) (g.W.Words.left c.args.words.now)
    (g.W.Words.left c.advance.new.self) (g.W.Words.left c.read_word.new.words) (g.W.Words.end c.read_word.new.words) _
    c.requires c.advance.ensures.left c.in_err-value.ensures.answers)

pub returns-then-not-is_mark-clause-answers : goal.returns-then-not-is_mark-clause-answers
returns-then-not-is_mark-clause-answers g c =
    enclosed_unended (g.S.Spelling.spells c.args.spelling.now) (g.W.Words.left c.args.words.now)
    (g.W.Words.left c.advance.new.self) (g.W.Words.left c.read_word.new.words) (g.W.Words.end c.read_word.new.words)
    c.in_ok-value.value c.bad_token.result c.requires c.advance.ensures.left c.in_ok-value.ensures.answers
    (iff_false c.is_mark.ensures c.if-not-is_mark.true) c.bad_token.ensures

pub returns-clause-answers : goal.returns-clause-answers
returns-clause-answers g c =
    enclosed_read (g.S.Spelling.spells c.args.spelling.now) (g.W.Words.left c.args.words.now)
    (g.W.Words.left c.advance.new.self) (g.W.Words.left c.read_word.new.words) (g.W.Words.left c.advance-2.new.self)
    (g.W.Words.end c.read_word.new.words) c.in_ok-value.value c.requires c.advance.ensures.left
    c.in_ok-value.ensures.answers (c.is_mark.ensures.0 c.if-not-is_mark.false) c.advance-2.ensures.left
