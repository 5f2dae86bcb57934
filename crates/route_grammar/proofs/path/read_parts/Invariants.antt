use Rattle.std.proofs.Common.{◌≡◌, length}
use Rattle.route_grammar.proofs.PartLemmas.{ArePartsRead}
use Rattle.route_grammar.proofs.path.read_parts.Given as goal

abbrev pub invariant-parts : goal.invariant-parts
invariant-parts g l = record {
  end : g.W.Words.end l.words ≡ g.W.Words.end l.fn.words;
  read : ArePartsRead (g.W.Words.left l.fn.words) (g.W.Words.left l.words) l.drawn.whole.items l.drawn.run l.count;
}

abbrev pub decreases-parts : goal.decreases-parts
decreases-parts g l = length (g.W.Words.left l.words)
