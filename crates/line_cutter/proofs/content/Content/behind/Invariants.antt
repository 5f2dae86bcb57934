use Rattle.std.proofs.Common.{◌≡◌, take}
use Rattle.std.specs.List.{fold}
use Rattle.line_cutter.specs.Contents.{content_after}
use Rattle.line_cutter.proofs.content.Content.behind.Given as goal

abbrev pub invariant-bytes : goal.invariant-bytes
invariant-bytes l = l.content ≡ fold content_after l.initial.content (take l.byte-index l.piece)
