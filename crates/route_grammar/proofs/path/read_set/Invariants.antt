use Rattle.std.proofs.Common.{◌≡◌, ◌≤◌, ◌<◌, ◌+◌, length}
use Rattle.text_forms.specs.Numbers.{IsAsn}
use Rattle.route_grammar.specs.Limits.{in_force}
use Rattle.route_grammar.specs.Productions.{OneWord}
use Rattle.route_grammar.specs.Lists.{opening_paren}
use Rattle.route_grammar.proofs.InsideLemmas.{IsInside}
use Rattle.route_grammar.proofs.ListLemmas.{word_further}
use Rattle.route_grammar.proofs.path.read_set.Given as goal

abbrev pub invariant-numbers : goal.invariant-numbers
invariant-numbers g l = record {
  end : g.W.Words.end l.words ≡ g.W.Words.end l.fn.words;
  some : 0 < length l.numbers;
  few : l.before + length l.numbers ≤ 255;
  inside : IsInside opening_paren (OneWord IsAsn) word_further in_force (g.W.Words.left l.fn.words)
      (g.W.Words.left l.words) l.numbers;
}

abbrev pub decreases-numbers : goal.decreases-numbers
decreases-numbers g l = length (g.W.Words.left l.words)
