use Rattle.book_gate_many.proofs.ManyLemmas.{all_back}
use Rattle.book_gate_many.proofs.many.close_many.Goals as goal

pub close-requires-clause-all : goal.close-requires-clause-all
close-requires-clause-all g c k fallback below =
    all_back g.T.Held.law c.args.pass c.join_many.new.pass c.args.passes.items c.join_many.ensures c.requires.names
    c.requires.leaves k fallback below

pub returns : goal.returns
returns g c =
    record { later = c.join_many.new.pass; joined = c.join_many.ensures; stands_for = c.close.ensures }
