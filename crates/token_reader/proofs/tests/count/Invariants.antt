use Rattle.std.proofs.Common.{◌≡◌, ◌+◌, ◌≤◌, ◌<◌, length}
use Rattle.token_reader.proofs.tests.count.Given as goal

abbrev pub invariant-tokens : goal.invariant-tokens
invariant-tokens g l = record {
  end : g.W.Words.end l.words ≡ g.W.Words.end l.fn.words;
  all : l.n + length (g.W.Words.left l.words) ≡ length (g.W.Words.left l.fn.words);
  few : 0 < l.n → length (g.W.Words.left l.fn.words) ≤ 1048576;
}

abbrev pub decreases-tokens : goal.decreases-tokens
decreases-tokens g l = length (g.W.Words.left l.words)
