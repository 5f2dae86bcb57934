use Rattle.std.proofs.Common.{◌≡◌, ◌≤◌, length}
use Rattle.token_reader.specs.LineTokens.{line_tokens}
use Rattle.token_reader.proofs.line.reading.Given as goal

abbrev pub invariant-pieces : goal.invariant-pieces
invariant-pieces l = record {
  same : line_tokens 0 l.rest ≡ line_tokens 0 l.bytes;
  shorter : length l.rest ≤ length l.bytes;
}

abbrev pub decreases-pieces : goal.decreases-pieces
decreases-pieces l = length l.rest
