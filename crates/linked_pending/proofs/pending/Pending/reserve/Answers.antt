use Rattle.std.proofs.Common.{◌≡◌, ◌<◌, ◌+◌, ◌*◌, ◌≤◌, ◌^◌, length, ap, arith, rules}
use Rattle.std.proofs.lemmas.Grind.{common_steps}
use Rattle.linked_pending.specs.Listing.{Listing}
use Rattle.linked_pending.proofs.GrowthLemmas.{grown_from}
use Rattle.linked_pending.proofs.QueueLemmas.{queues_grown}
use Rattle.linked_pending.proofs.pending.Pending.reserve.Goals as goal

pub invariant_of-self-then-len-room : goal.invariant_of-self-then-len-room
invariant_of-self-then-len-room c =
    let len : c.len-len.result ≡ length c.self.inside.groups.items = search rules in
    let grows : length c.self.inside.groups.items ≤ c.max-room.result = omega arith in
    let fits : 2 * c.max-room.result < 2 ^ 32 = grind (arith, common_steps) in
    let waiting = c.in_ok-reserve.ensures.ok in
    let frozen = c.in_ok-reserve-2.ensures.ok in
    let room_waiting = ap (λ (listing : Listing). listing.room) waiting in
    let room_frozen = ap (λ (listing : Listing). listing.room) frozen in
    let space_waiting : 2 * c.max-room.result + 1 ≤ c.reserve.new.self.room = omega (arith, room_waiting) in
    let space_frozen : 2 * c.max-room.result + 1 ≤ c.reserve-then-len-room.new.self.room = omega (arith, room_frozen) in
    queues_grown _ _ _ _ _ _ c.max-room.result c.self.invariant (ap (λ (listing : Listing). listing.items) waiting)
    (ap (λ (listing : Listing). listing.items) frozen) grows fits space_waiting space_frozen
    (grown_from _ _ _ _ c.max-room.result c.in_ok-reserve-3.ensures.items len c.grow.ensures.room c.grow.ensures.kept
    c.grow.ensures.alone)
