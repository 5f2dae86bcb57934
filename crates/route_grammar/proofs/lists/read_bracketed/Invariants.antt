use Rattle.std.proofs.Common.{◌≡◌, ◌≤◌, length}
use Rattle.route_grammar.specs.Limits.{in_force}
use Rattle.route_grammar.specs.Productions.{OneWord}
use Rattle.route_grammar.specs.Lists.{opening_bracket}
use Rattle.route_grammar.proofs.InsideLemmas.{IsInside}
use Rattle.route_grammar.proofs.ListLemmas.{word_further}
use Rattle.route_grammar.proofs.lists.read_bracketed.Given as goal

abbrev pub invariant-values : goal.invariant-values
invariant-values g l = record {
  end : g.W.Words.end l.words ≡ g.W.Words.end l.fn.words;
  few : length l.values ≤ l.limit;
  inside : IsInside opening_bracket (OneWord (g.S.Spelling.spells l.spelling)) word_further in_force
      (g.W.Words.left l.fn.words) (g.W.Words.left l.words) l.values;
}

abbrev pub decreases-values : goal.decreases-values
decreases-values g l = length (g.W.Words.left l.words)
