use Rattle.std.proofs.Common.{◌≡◌, length, take, ◌-◌, ◌≤◌}
use Rattle.outside.specs.Told.{Grows}
use Rattle.peer_worker.proofs.speaking.send_all.Given as goal

abbrev pub invariant-rests : goal.invariant-rests
invariant-rests g l =
    let link = g.L.Link in
    record {
      within : l.sent ≤ length l.piece;
      taken : Grows (link.taken l.initial.link) (link.taken l.link) (take l.sent l.piece);
      later : link.faults l.initial.link ≤ link.faults l.link;
      dialled : link.dialled l.link ≡ link.dialled l.initial.link;
    }

abbrev pub decreases-rests : goal.decreases-rests
decreases-rests g l = length l.piece - l.sent
