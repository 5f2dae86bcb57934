use Rattle.std.proofs.Common.{◌≡◌, ◌<◌, ◌+◌, [], length, ap, refl, ◌∙◌, arith}
use Rattle.std.proofs.lemmas.Bool.{iff_false}
use Rattle.std.proofs.lemmas.Result.{err_from_is_err_and}
use Rattle.text_forms.specs.Numbers.{IsAsn}
use Rattle.route_grammar.specs.Lists.{opening_paren}
use Rattle.route_grammar.specs.Productions.{OneWord}
use Rattle.route_grammar.proofs.ListLemmas.{word_further, words_start, inside_begin, inside_goes_on}
use Rattle.route_grammar.proofs.SetLemmas.{set_fault, set_no_room, set_read, one_longer}
use Rattle.route_grammar.proofs.path.read_set.Goals as goal

pub returns-in_err-first-clause-answers : goal.returns-in_err-first-clause-answers
returns-in_err-first-clause-answers g c =
    let e = err_from_is_err_and c.from_residual.result c.from_residual.ensures.1 in
    rw (e.1, e.2) (set_fault c.args.before (g.W.Words.left c.args.words.now) (g.W.Words.left c.advance.new.self)
    (g.W.Words.left c.read_word.new.words) (g.W.Words.end c.read_word.new.words) [] _
    (inside_begin opening_paren (OneWord IsAsn) word_further (g.W.Words.left c.args.words.now)
    (g.W.Words.left c.advance.new.self) [] c.requires.open c.advance.ensures.left refl)
    (λ some. absurd (omega (arith, some))) (omega (arith, c.requires.room)) c.in_err-first.ensures.answers)

pub numbers-init : goal.numbers-init
numbers-init g c =
    let longer = one_longer c.args.before c.new-numbers.result c.push.new.self c.in_ok-first.first
    c.in_ok-push.ensures.ok (omega (arith, ap length c.new-numbers.ensures, c.requires.room)) in
    record {
      end = c.in_ok-first.ensures.end ∙ c.advance.ensures.end;
      some = longer.0;
      few = longer.1;
      inside = inside_goes_on opening_paren (OneWord IsAsn) word_further (g.W.Words.left c.args.words.now)
          (g.W.Words.left c.advance.new.self) (g.W.Words.left c.read_word.new.words) c.new-numbers.result
          c.push.new.self c.in_ok-first.first (words_start IsAsn)
          (inside_begin opening_paren (OneWord IsAsn) word_further (g.W.Words.left c.args.words.now)
          (g.W.Words.left c.advance.new.self) c.new-numbers.result c.requires.open c.advance.ensures.left
          c.new-numbers.ensures) c.in_ok-first.ensures.answers c.in_ok-push.ensures.ok;
    }

pub returns-then-before-len-ge-MAX_AS_NUMBERS-clause-answers :
    goal.returns-then-before-len-ge-MAX_AS_NUMBERS-clause-answers
returns-then-before-len-ge-MAX_AS_NUMBERS-clause-answers g c =
    let full : c.args.before + length c.numbers.numbers ≡ 255 = omega (arith, c.numbers.invariant.few) in
    set_no_room c.args.before (g.W.Words.left c.args.words.now) (g.W.Words.left c.numbers.words)
    (g.W.Words.end c.numbers.words) 255 c.numbers.numbers c.no_room.result refl c.numbers.invariant.inside
    c.numbers.invariant.some (iff_false c.is_mark.ensures c.numbers-test.true) full c.no_room.ensures

pub returns-in_err-number-clause-answers : goal.returns-in_err-number-clause-answers
returns-in_err-number-clause-answers g c =
    let e = err_from_is_err_and c.from_residual-in_err-number.result c.from_residual-in_err-number.ensures.1 in
    let room : c.args.before + length c.numbers.numbers < 255 = omega arith in
    rw (e.1, e.2) (set_fault c.args.before (g.W.Words.left c.args.words.now) (g.W.Words.left c.numbers.words)
    (g.W.Words.left c.read_word-in-numbers.new.words) (g.W.Words.end c.read_word-in-numbers.new.words)
    c.numbers.numbers _ c.numbers.invariant.inside (λ some. iff_false c.is_mark.ensures c.numbers-test.true) room
    c.in_err-number.ensures.answers)

pub numbers-preserved : goal.numbers-preserved
numbers-preserved g c =
    let room : c.args.before + length c.numbers.numbers < 255 = omega arith in
    let longer = one_longer c.args.before c.numbers.numbers c.push-in-numbers.new.self c.in_ok-number.number
    c.in_ok-push-2.ensures.ok room in
    record {
      end = c.in_ok-number.ensures.end ∙ c.numbers.invariant.end;
      some = longer.0;
      few = longer.1;
      inside = inside_goes_on opening_paren (OneWord IsAsn) word_further (g.W.Words.left c.args.words.now)
          (g.W.Words.left c.numbers.words) (g.W.Words.left c.read_word-in-numbers.new.words) c.numbers.numbers
          c.push-in-numbers.new.self c.in_ok-number.number (words_start IsAsn) c.numbers.invariant.inside
          c.in_ok-number.ensures.answers c.in_ok-push-2.ensures.ok;
    }

pub returns-clause-answers : goal.returns-clause-answers
returns-clause-answers g c =
    set_read c.args.before (g.W.Words.left c.args.words.now) (g.W.Words.left c.numbers.words)
    (g.W.Words.left c.advance-2.new.self) c.numbers.numbers c.numbers.invariant.inside c.numbers.invariant.some
    (c.is_mark.ensures.0 c.numbers-test.false) c.numbers.invariant.few c.advance-2.ensures.left
