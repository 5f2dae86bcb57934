use Rattle.std.proofs.Common.{◌≡◌, length}
use Rattle.token_reader.specs.FileTokens.{file_tokens}
use Rattle.token_reader.specs.Places.{behind_bytes, IsInFile}
use Rattle.token_reader.proofs.file.reading.Given as goal

abbrev pub invariant-pieces : goal.invariant-pieces
invariant-pieces l = record {
  same : file_tokens l.place 0 l.rest ≡ file_tokens l.fn.start 0 l.fn.bytes;
  end : behind_bytes l.place l.rest ≡ behind_bytes l.fn.start l.fn.bytes;
  in_file : IsInFile l.place (length l.rest);
}

abbrev pub decreases-pieces : goal.decreases-pieces
decreases-pieces l = length l.rest
