use Rattle.std.proofs.Common.{All, take}
use Rattle.text_printer.specs.Printable.{HasNoZero}
use Rattle.text_printer.proofs.printing.writable.have_no_zero.Given as goal

abbrev pub invariant-segments : goal.invariant-segments
invariant-segments l = All HasNoZero (take l.segment-index l.segments)
