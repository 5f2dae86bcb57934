use Rattle.std.proofs.Common.{◌≡◌, ◌-◌, ◌≤◌, length, vec_len}
use Rattle.outside.specs.Told.{Grows, Shrinks}
use Rattle.outside.proofs.reading.read_all.Given as goal

abbrev pub invariant-pieces : goal.invariant-pieces
invariant-pieces g l =
    let source = g.S.Source in
    record {
      within : vec_len l.bytes ≤ l.limit;
      buffer : length l.buffer ≡ 65536;
      given : Grows (source.given l.initial.source) (source.given l.source) l.bytes.items;
      left : Shrinks (source.left l.initial.source) (source.left l.source) l.bytes.items;
      ended : source.ended l.source ≡ source.ended l.initial.source;
      same : source.faults l.source ≡ source.faults l.initial.source;
    }

abbrev pub decreases-pieces : goal.decreases-pieces
decreases-pieces g l = l.limit - vec_len l.bytes
