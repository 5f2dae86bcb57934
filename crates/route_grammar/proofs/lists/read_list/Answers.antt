use Rattle.std.proofs.Common.{Some, refl}
use Rattle.std.proofs.lemmas.Bool.{iff_false}
use Rattle.token_reader.specs.Tokens.{front_token}
use Rattle.route_grammar.specs.Limits.{in_force}
use Rattle.route_grammar.specs.Productions.{OneWord, Saying, nothing_further}
use Rattle.route_grammar.specs.Lists.{ListOf, single, opening_bracket}
use Rattle.route_grammar.proofs.AnsweredLemmas.{chosen_answers}
use Rattle.route_grammar.proofs.ListLemmas.{InBrackets, list_bracketed, list_single}
use Rattle.route_grammar.proofs.lists.read_list.Goals as goal

pub returns-then-is_mark-clause-answers : goal.returns-then-is_mark-clause-answers
returns-then-is_mark-clause-answers g c = λ which is.
    let spells = g.S.Spelling.spells c.args.spelling.now in
    chosen_answers (InBrackets which spells) (ListOf which spells) nothing_further in_force
    (g.W.Words.left c.args.words.now) (g.W.Words.left c.read_bracketed.new.words)
    (g.W.Words.end c.read_bracketed.new.words) (Some opening_bracket) c.read_bracketed.result
    (list_bracketed spells which) (c.is_mark.ensures.0 c.if-is_mark.true) (c.read_bracketed.ensures.answers which is)

pub returns-else-is_mark-clause-answers : goal.returns-else-is_mark-clause-answers
returns-else-is_mark-clause-answers g c = λ which is.
    let spells = g.S.Spelling.spells c.args.spelling.now in
    chosen_answers (Saying single (OneWord spells)) (ListOf which spells) nothing_further in_force
    (g.W.Words.left c.args.words.now) (g.W.Words.left c.read_single.new.words) (g.W.Words.end c.read_single.new.words)
    (front_token (g.W.Words.left c.args.words.now)) c.read_single.result
    (list_single spells which (front_token (g.W.Words.left c.args.words.now))
    (iff_false c.is_mark.ensures c.if-is_mark.false)) refl c.read_single.ensures.answers
