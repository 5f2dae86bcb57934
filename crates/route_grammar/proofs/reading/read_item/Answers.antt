use Rattle.route_grammar.proofs.ReadingLemmas.{item_answers}
use Rattle.route_grammar.proofs.reading.read_item.Goals as goal

pub returns-clause-answers : goal.returns-clause-answers
returns-clause-answers g c =
    item_answers c.args.family c.args.kind (g.W.Words.left c.args.words.now) (g.W.Words.left c.advance.new.self)
    (g.W.Words.left c.read_operand.new.words) (g.W.Words.end c.read_operand.new.words) c.read_operand.result c.requires
    c.advance.ensures.left c.read_operand.ensures.answers
