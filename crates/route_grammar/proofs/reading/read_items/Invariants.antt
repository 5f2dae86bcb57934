use Rattle.std.proofs.Common.{◌≡◌, length}
use Rattle.route_grammar.proofs.ReadingLemmas.{AreRead}
use Rattle.route_grammar.proofs.reading.read_items.Given as goal

abbrev pub invariant-items : goal.invariant-items
invariant-items g l = record {
  end : g.W.Words.end l.words ≡ g.W.Words.end l.fn.words;
  read : AreRead l.family (g.W.Words.left l.fn.words) (g.W.Words.left l.words) l.items l.seen;
}

abbrev pub decreases-items : goal.decreases-items
decreases-items g l = length (g.W.Words.left l.words)
