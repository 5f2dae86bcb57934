use Rattle.route_grammar.proofs.PathLemmas.{put_number, put_set}
use Rattle.route_grammar.proofs.path.Drawn.put.Goals as goal

pub returns-in-Number : goal.returns-in-Number
returns-in-Number c = λ parts drawn some.
    put_number c.args.self.now.whole.items c.args.self.now.run c.push.new.self c.in-Number.number c.args.part parts
    c.push.result drawn c.in-Number.is c.push.ensures.ok

pub returns-in-Set : goal.returns-in-Set
returns-in-Set c = λ parts drawn some.
    put_set c.args.self.now.whole.items c.put_set.new.self.whole.items c.args.self.now.run c.put_set.new.self.run
    c.in-Set.numbers c.args.part parts c.put_set.result drawn some c.in-Set.is c.put_set.ensures.whole
    c.put_set.ensures.run
