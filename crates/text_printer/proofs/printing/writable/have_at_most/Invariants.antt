use Rattle.std.proofs.Common.{◌≡◌, ◌+◌, take}
use Rattle.route_values.specs.Limits.{numbers_in}
use Rattle.text_printer.proofs.printing.writable.have_at_most.Given as goal

abbrev pub invariant-segments : goal.invariant-segments
invariant-segments l = l.left + numbers_in (take l.segment-index l.segments) ≡ l.most
