use Rattle.std.proofs.Common.{[], arith}
use Rattle.std.proofs.lemmas.Result.{err_from_is_err_and}
use Rattle.text_forms.specs.Numbers.{IsAsn}
use Rattle.route_grammar.specs.Limits.{in_force}
use Rattle.route_grammar.specs.Lists.{onto}
use Rattle.route_grammar.specs.Productions.{OneWord, nothing_further}
use Rattle.route_grammar.proofs.AnsweredLemmas.{saying_answers}
use Rattle.route_grammar.proofs.PathLemmas.{nothing_drawn}
use Rattle.route_grammar.proofs.PartLemmas.{lone_read}
use Rattle.route_grammar.proofs.path.read_lone.Goals as goal

pub returns-in_err-number-clause-answers : goal.returns-in_err-number-clause-answers
returns-in_err-number-clause-answers g c =
    let e = err_from_is_err_and c.from_residual.result c.from_residual.ensures.1 in
    rw (e.1, e.2) (saying_answers (λ number. onto number []) (OneWord IsAsn) nothing_further in_force
    (g.W.Words.left c.args.words.now) (g.W.Words.left c.read_word.new.words) (g.W.Words.end c.read_word.new.words) _
    c.in_err-number.ensures.answers)

pub into_path-requires : goal.into_path-requires
into_path-requires g c =
    (c.in_ok-put.ensures []
    (nothing_drawn c.new-drawn.result.whole.items c.new-drawn.result.run c.new-drawn.ensures.whole
    c.new-drawn.ensures.run) (omega arith)).filled

pub returns-clause-answers : goal.returns-clause-answers
returns-clause-answers g c =
    lone_read (g.W.Words.left c.args.words.now) (g.W.Words.left c.read_word.new.words) c.in_ok-number.number
    c.put.new.self.whole.items c.in_ok-path.path c.put.new.self.run c.in_ok-number.ensures.answers
    (c.in_ok-put.ensures []
    (nothing_drawn c.new-drawn.result.whole.items c.new-drawn.result.run c.new-drawn.ensures.whole
    c.new-drawn.ensures.run) (omega arith)) c.in_ok-path.ensures
