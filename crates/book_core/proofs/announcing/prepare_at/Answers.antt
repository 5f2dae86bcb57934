use Rattle.std.proofs.Common.{[], length, refl}
use Rattle.std.proofs.lemmas.Option.{slice_get_read}
use Rattle.book_core.specs.Moves.{nothing}
use Rattle.book_core.proofs.AnnounceLemmas.{ok_then, readied_next}
use Rattle.book_core.proofs.CarryLemmas.{moves_by}
use Rattle.book_core.proofs.EndLemmas.{moved_next}
use Rattle.book_core.proofs.SessionLemmas.{with_slot}
use Rattle.book_core.proofs.announcing.prepare_at.Goals as goal

pub prepare-requires : goal.prepare-requires
prepare-requires c = λ so.
    let was = c.index_mut-peering.result.now in
    c.requires.can was
    (slice_get_read c.args.peers.now.items (length c.args.peers.now.items) c.args.n was refl c.requires.place
    c.index_mut-peering.ensures.value) so

pub returns-clause-moved : goal.returns-clause-moved
returns-clause-moved c = λ start moved.
    let was = c.index_mut-peering.result.now in
    moved_next nothing start c.args.peers.now.items c.args.n was (with_slot was c.prepare.new.slot) c.requires.place
    c.index_mut-peering.ensures.value (moves_by was c.prepare.new.slot [] [] refl c.prepare.ensures.stands) moved

pub returns-clause-readied : goal.returns-clause-readied
returns-clause-readied c =
    let was = c.index_mut-peering.result.now in
    ok_then c.prepare.result (λ number ready chosen numbers picked within below.
    readied_next c.args.n c.args.peers.now.items was c.prepare.new.slot chosen c.args.keys.now c.args.written.now
    numbers number c.args.so within picked ready below) c.prepare.ensures.readied
