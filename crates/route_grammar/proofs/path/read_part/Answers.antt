use Rattle.std.proofs.Common.{Some, Ok, Err, refl}
use Rattle.std.proofs.lemmas.Bool.{iff_false}
use Rattle.std.proofs.lemmas.Result.{err_from_is_err_and}
use Rattle.text_forms.specs.Numbers.{IsAsn}
use Rattle.token_reader.specs.Tokens.{front_token}
use Rattle.route_grammar.specs.declared.path.Part.TheVariants.{Number, Set}
use Rattle.route_grammar.specs.Limits.{in_force}
use Rattle.route_grammar.specs.Lists.{PartBehind, SetBehind, opening_paren}
use Rattle.route_grammar.specs.Productions.{OneWord, Saying, nothing_further}
use Rattle.route_grammar.proofs.AnsweredLemmas.{chosen_answers, saying_answers, saying_reads}
use Rattle.route_grammar.proofs.PartLemmas.{part_set, part_number}
use Rattle.route_grammar.proofs.path.read_part.Goals as goal

pub returns-in_err-numbers-clause-answers : goal.returns-in_err-numbers-clause-answers
returns-in_err-numbers-clause-answers g c =
    let e = err_from_is_err_and c.from_residual.result c.from_residual.ensures.1 in
    rw (e.1, e.2) (chosen_answers (Saying Set (SetBehind c.args.before)) (PartBehind c.args.before) nothing_further
    in_force (g.W.Words.left c.args.words.now) (g.W.Words.left c.read_set.new.words)
    (g.W.Words.end c.read_set.new.words) (Some opening_paren) (Err _) (part_set c.args.before)
    (c.is_mark.ensures.0 c.if-is_mark.true)
    (saying_answers Set (SetBehind c.args.before) nothing_further in_force (g.W.Words.left c.args.words.now)
    (g.W.Words.left c.read_set.new.words) (g.W.Words.end c.read_set.new.words) _ c.in_err-numbers.ensures.answers))

pub returns-then-is_mark-clause-answers : goal.returns-then-is_mark-clause-answers
returns-then-is_mark-clause-answers g c =
    chosen_answers (Saying Set (SetBehind c.args.before)) (PartBehind c.args.before) nothing_further
    in_force (g.W.Words.left c.args.words.now) (g.W.Words.left c.read_set.new.words)
    (g.W.Words.end c.read_set.new.words) (Some opening_paren) (Ok (Set c.in_ok-numbers.numbers)) (part_set
    c.args.before)
    (c.is_mark.ensures.0 c.if-is_mark.true)
    (saying_reads Set (SetBehind c.args.before) nothing_further in_force (g.W.Words.left c.args.words.now)
    (g.W.Words.left c.read_set.new.words) c.in_ok-numbers.numbers c.in_ok-numbers.ensures.answers)

pub returns-in_err-number-clause-answers : goal.returns-in_err-number-clause-answers
returns-in_err-number-clause-answers g c =
    let e = err_from_is_err_and c.from_residual-in_err-number.result c.from_residual-in_err-number.ensures.1 in
    rw (e.1, e.2) (chosen_answers (Saying Number (OneWord IsAsn)) (PartBehind c.args.before) nothing_further
    in_force (g.W.Words.left c.args.words.now) (g.W.Words.left c.read_word.new.words)
    (g.W.Words.end c.read_word.new.words) (front_token (g.W.Words.left c.args.words.now)) (Err _)
    (part_number c.args.before (front_token (g.W.Words.left c.args.words.now))
    (iff_false c.is_mark.ensures c.if-is_mark.false)) refl
    (saying_answers Number (OneWord IsAsn) nothing_further in_force (g.W.Words.left c.args.words.now)
    (g.W.Words.left c.read_word.new.words) (g.W.Words.end c.read_word.new.words) _ c.in_err-number.ensures.answers))

pub returns-clause-answers : goal.returns-clause-answers
returns-clause-answers g c =
    chosen_answers (Saying Number (OneWord IsAsn)) (PartBehind c.args.before) nothing_further
    in_force (g.W.Words.left c.args.words.now) (g.W.Words.left c.read_word.new.words)
    (g.W.Words.end c.read_word.new.words) (front_token (g.W.Words.left c.args.words.now)) (Ok (Number
    c.in_ok-number.number))
    (part_number c.args.before (front_token (g.W.Words.left c.args.words.now))
    (iff_false c.is_mark.ensures c.if-is_mark.false)) refl
    (saying_reads Number (OneWord IsAsn) nothing_further in_force (g.W.Words.left c.args.words.now)
    (g.W.Words.left c.read_word.new.words) c.in_ok-number.number c.in_ok-number.ensures.answers)
