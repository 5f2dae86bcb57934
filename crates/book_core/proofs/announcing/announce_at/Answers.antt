use Rattle.std.proofs.Common.{◌∷◌, [], length, refl}
use Rattle.std.proofs.lemmas.Option.{slice_get_read}
use Rattle.book_history.specs.PeerSteps.{step_if}
use Rattle.peer_history.specs.Steps.Step.{Announced}
use Rattle.book_core.proofs.CarryLemmas.{moves_by}
use Rattle.book_core.proofs.EndLemmas.{moved_next}
use Rattle.book_core.proofs.SessionLemmas.{with_slot}
use Rattle.book_core.proofs.announcing.announce_at.Goals as goal

pub announce_one-requires : goal.announce_one-requires
announce_one-requires c = λ so.
    let was = c.index_mut-peering.result.now in
    c.requires.readied was
    (slice_get_read c.args.peers.now.items (length c.args.peers.now.items) c.args.n was refl c.requires.place
    c.index_mut-peering.ensures.value) so

pub returns : goal.returns
returns c = λ start steps written told readied moved.
    let was = c.index_mut-peering.result.now in
    let at =
    slice_get_read c.args.peers.now.items (length c.args.peers.now.items) c.args.n was refl c.requires.place
    c.index_mut-peering.ensures.value in
    moved_next steps start c.args.peers.now.items c.args.n was (with_slot was c.announce_one.new.slot) c.requires.place
    c.index_mut-peering.ensures.value
    (moves_by was c.announce_one.new.slot (steps c.args.n) (step_if c.args.so (Announced c.args.keys.now written ∷ []))
    told (λ before stood. c.announce_one.ensures written before (readied was at) stood)) moved
