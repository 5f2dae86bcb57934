use Rattle.std.proofs.Common.{refl}
use Rattle.std.proofs.lemmas.Bool.{iff_false}
use Rattle.token_reader.specs.Tokens.{front_token}
use Rattle.route_grammar.specs.Limits.{in_force}
use Rattle.route_grammar.specs.Lists.{AloneOrIn}
use Rattle.route_grammar.specs.Productions.{OneWord, nothing_further}
use Rattle.route_grammar.proofs.AnsweredLemmas.{chosen_answers}
use Rattle.route_grammar.proofs.MarkLemmas.{alone_chosen}
use Rattle.route_grammar.proofs.operands.read_alone_or_in.Goals as goal

pub returns-else-is_mark-clause-answers : goal.returns-else-is_mark-clause-answers
returns-else-is_mark-clause-answers g c =
    let spells = g.S.Spelling.spells c.args.spelling.now in
    chosen_answers (OneWord spells) (AloneOrIn spells) nothing_further in_force (g.W.Words.left c.args.words.now)
    (g.W.Words.left c.read_word.new.words) (g.W.Words.end c.read_word.new.words)
    (front_token (g.W.Words.left c.args.words.now)) c.read_word.result
    (alone_chosen spells (front_token (g.W.Words.left c.args.words.now)) (iff_false c.is_mark.ensures
    c.if-is_mark.false))
    refl c.read_word.ensures.answers
