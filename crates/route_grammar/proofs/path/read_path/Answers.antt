use Rattle.std.proofs.Common.{Some, refl}
use Rattle.std.proofs.lemmas.Bool.{iff_false}
use Rattle.token_reader.specs.Tokens.{front_token}
use Rattle.route_grammar.specs.Limits.{in_force}
use Rattle.route_grammar.specs.Lists.{OnePath, opening_bracket, joined}
use Rattle.route_grammar.specs.Productions.{Saying, nothing_further}
use Rattle.route_grammar.proofs.AnsweredLemmas.{chosen_answers}
use Rattle.route_grammar.proofs.PathLemmas.{InPath}
use Rattle.route_grammar.proofs.PartLemmas.{Lone, path_bracketed, path_lone}
use Rattle.route_grammar.proofs.path.read_path.Goals as goal

pub returns-then-is_mark-clause-answers : goal.returns-then-is_mark-clause-answers
returns-then-is_mark-clause-answers g c =
    chosen_answers (Saying joined InPath) OnePath nothing_further in_force (g.W.Words.left c.args.words.now)
    (g.W.Words.left c.read_parts.new.words) (g.W.Words.end c.read_parts.new.words) (Some opening_bracket)
    c.read_parts.result path_bracketed (c.is_mark.ensures.0 c.if-is_mark.true) c.read_parts.ensures.answers

pub returns-else-is_mark-clause-answers : goal.returns-else-is_mark-clause-answers
returns-else-is_mark-clause-answers g c =
    chosen_answers Lone OnePath nothing_further in_force (g.W.Words.left c.args.words.now)
    (g.W.Words.left c.read_lone.new.words) (g.W.Words.end c.read_lone.new.words)
    (front_token (g.W.Words.left c.args.words.now)) c.read_lone.result
    (path_lone (front_token (g.W.Words.left c.args.words.now)) (iff_false c.is_mark.ensures c.if-is_mark.false)) refl
    c.read_lone.ensures.answers
