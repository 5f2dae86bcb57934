use Rattle.std.proofs.Common.{◌≡◌, ◌≤◌, length}
use Rattle.command_grammar.proofs.BlockLemmas.{AreKeys}
use Rattle.command_grammar.proofs.blocks.keys_at.Given as goal

abbrev pub invariant-prefixes : goal.invariant-prefixes
invariant-prefixes l = record {
  end : l.words.end ≡ l.fn.words.end;
  few : length l.keys ≤ 1024;
  keys : AreKeys l.id l.fn.wanted l.family l.fn.words.left l.initial.words.left l.words.left l.keys;
}

abbrev pub decreases-prefixes : goal.decreases-prefixes
decreases-prefixes l = length l.words.left
