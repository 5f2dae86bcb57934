use Rattle.std.proofs.Common.{◌<◌, ◌≤◌, length, ◌∙◌, arith}
use Rattle.std.proofs.lemmas.Bool.{iff_false}
use Rattle.std.proofs.lemmas.Result.{err_from_is_err_and}
use Rattle.route_grammar.specs.Productions.{OneWord}
use Rattle.route_grammar.specs.Lists.{opening_bracket}
use Rattle.route_grammar.proofs.ListLemmas.{word_further, words_start, list_no_room, list_fault, list_read}
use Rattle.route_grammar.proofs.ListLemmas.{inside_begin}
use Rattle.route_grammar.proofs.ListLemmas.{inside_goes_on, none_few, one_few}
use Rattle.route_grammar.proofs.lists.read_bracketed.Goals as goal

pub values-init : goal.values-init
values-init g c = record {
  end = c.advance.ensures.end;
  few = none_few c.new-values.result c.args.limit c.new-values.ensures;
  inside = inside_begin opening_bracket (OneWord (g.S.Spelling.spells c.args.spelling.now)) word_further
      (g.W.Words.left c.args.words.now) (g.W.Words.left c.advance.new.self) c.new-values.result c.requires
      c.advance.ensures.left c.new-values.ensures;
}

pub returns-then-len-limit-clause-answers : goal.returns-then-len-limit-clause-answers
returns-then-len-limit-clause-answers g c = λ which is.
    let full : c.args.limit ≤ length c.values.values = omega arith in
    list_no_room (g.S.Spelling.spells c.args.spelling.now) which (g.W.Words.left c.args.words.now)
    (g.W.Words.left c.values.words) (g.W.Words.end c.values.words) c.args.limit c.values.values c.no_room.result is
    c.values.invariant.inside (iff_false c.is_mark.ensures c.values-test.true) c.values.invariant.few full
    c.no_room.ensures

pub returns-in_err-value-clause-answers : goal.returns-in_err-value-clause-answers
returns-in_err-value-clause-answers g c = λ which is.
    let room : length c.values.values < c.args.limit = omega arith in
    let e = err_from_is_err_and c.from_residual.result c.from_residual.ensures.1 in
    rw (e.1, e.2) (list_fault (g.S.Spelling.spells c.args.spelling.now) which (g.W.Words.left c.args.words.now)
    (g.W.Words.left c.values.words) (g.W.Words.left c.read_word.new.words) (g.W.Words.end c.read_word.new.words)
    c.args.limit c.values.values _ is c.values.invariant.inside (iff_false c.is_mark.ensures c.values-test.true) room
    c.in_err-value.ensures.answers)

pub values-preserved : goal.values-preserved
values-preserved g c =
    let room : length c.values.values < c.args.limit = omega arith in
    record {
      end = c.in_ok-value.ensures.end ∙ c.values.invariant.end;
      few = one_few c.values.values c.push.new.self c.in_ok-value.value c.args.limit c.in_ok-push.ensures.ok room;
      inside = inside_goes_on opening_bracket (OneWord (g.S.Spelling.spells c.args.spelling.now)) word_further
          (g.W.Words.left c.args.words.now) (g.W.Words.left c.values.words) (g.W.Words.left c.read_word.new.words)
          c.values.values c.push.new.self c.in_ok-value.value
          (words_start (g.S.Spelling.spells c.args.spelling.now)) c.values.invariant.inside
          c.in_ok-value.ensures.answers
          c.in_ok-push.ensures.ok;
    }

pub returns-in_err-push-clause-answers : goal.returns-in_err-push-clause-answers
returns-in_err-push-clause-answers g c = λ which is.
    let e = err_from_is_err_and c.from_residual-in_err-push.result c.from_residual-in_err-push.ensures.1 in
    rw (e.1, e.2) tt

pub returns-clause-answers : goal.returns-clause-answers
returns-clause-answers g c = λ which is.
    list_read (g.S.Spelling.spells c.args.spelling.now) which (g.W.Words.left c.args.words.now)
    (g.W.Words.left c.values.words) (g.W.Words.left c.advance-2.new.self) c.args.limit c.values.values is
    c.values.invariant.inside (c.is_mark.ensures.0 c.values-test.false) c.values.invariant.few c.advance-2.ensures.left
