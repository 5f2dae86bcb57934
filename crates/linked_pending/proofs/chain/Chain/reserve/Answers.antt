use Rattle.std.proofs.Common.{◌≡◌, ◌≤◌, ◌^◌, length, max, sym, ap, ap₂, ◌∙◌, arith, rules}
use Rattle.std.proofs.lemmas.Grind.{common_steps}
use Rattle.linked_pending.specs.Listing.{Listing}
use Rattle.linked_pending.proofs.ListingLemmas.{listing}
use Rattle.linked_pending.proofs.GrowthLemmas.{seen_grown, grown_from}
use Rattle.linked_pending.proofs.chain.Chain.reserve.Goals as goal

pub invariant_of-self-then-len-room : goal.invariant_of-self-then-len-room
invariant_of-self-then-len-room c =
    let len : c.len-len.result ≡ length c.self.inside.nexts.items = search rules in
    let len_prev : c.len-len.result ≡ length c.self.inside.prevs.items = len ∙ sym c.self.invariant.0.links.same_length
    in
    let own = c.grow.ensures in
    let back = c.grow-then-len-room.ensures in
    let fits : c.args.room ≤ 2 ^ 32 = grind (arith, common_steps) in
    let seen = seen_grown _ _ _ _ c.args.room c.self.inside.len c.self.invariant.0 (omega arith)
    (grown_from _ _ _ _ c.args.room c.in_ok-reserve.ensures.items len own.room own.kept own.alone)
    (grown_from _ _ _ _ c.args.room c.in_ok-reserve-2.ensures.items len_prev back.room back.kept back.alone) in
    (seen.chain, omega (arith, own.room, fits))

pub returns-in_ok-reserve-2-clause-ok : goal.returns-in_ok-reserve-2-clause-ok
returns-in_ok-reserve-2-clause-ok c =
    let len : c.len-len.result ≡ length c.self.inside.nexts.items = search rules in
    let len_prev : c.len-len.result ≡ length c.self.inside.prevs.items = len ∙ sym c.self.invariant.0.links.same_length
    in
    let own = c.grow.ensures in
    let back = c.grow-then-len-room.ensures in
    let room_before : length c.self.inside.nexts.items ≡ c.args.self.now.room =
    ap (λ (listing : Listing). listing.room) c.self.view_is in
    let room_is : length c.grow.new.links.items ≡ max c.args.self.now.room c.args.room = own.room ∙ omega arith in
    ap₂ listing room_is
    ((seen_grown _ _ _ _ c.args.room c.self.inside.len c.self.invariant.0 (omega arith)
    (grown_from _ _ _ _ c.args.room c.in_ok-reserve.ensures.items len own.room own.kept own.alone)
    (grown_from _ _ _ _ c.args.room c.in_ok-reserve-2.ensures.items len_prev back.room back.kept back.alone)).items_are
    ∙ ap (λ (listing : Listing). listing.items) c.self.view_is)
