use Rattle.std.proofs.Common.{◌<◌, sym, subst}
use Rattle.std.proofs.lemmas.List.{length-set}
use Rattle.std.specs.Prelude.{slice_set}
use Rattle.book_core.specs.Ready.{TakesCuts}
use Rattle.book_core.specs.Seen.{Seen, fields}
use Rattle.book_core.specs.Stands.{Stands}
use Rattle.book_core.proofs.PeerLemmas.{whole_peers}
use Rattle.book_core.proofs.SessionLemmas.{takes_cut, was_cut, with_slot}
use Rattle.book_core.proofs.book.Book.cut.Goals as goal

pub invariant_of-self : goal.invariant_of-self
invariant_of-self c =
    let new = with_slot c.index_mut-peering.result.now c.cut.new.self in
    let peers = c.self.inside.peers.items in
    whole_peers (fields c.self.inside) (slice_set peers c.args.n new) (length-set peers c.args.n new) c.self.invariant

pub cut-requires-clause-room : goal.cut-requires-clause-room
cut-requires-clause-room c =
    takes_cut (fields c.self.inside) c.args.n c.index_mut-peering.result.now
    (subst (λ k. c.args.n < k) (sym c.self.invariant.peers) c.requires.slot) c.index_mut-peering.ensures.value
    c.args.out.now.room (subst (λ (book : Seen). TakesCuts book c.args.n c.args.out.now.room) (sym c.self.view_is)
    c.requires.room)

pub returns-clause-stands : goal.returns-clause-stands
returns-clause-stands c = λ cfg H is.
    was_cut c.nodes_stay.ensures cfg H c.args.n c.cut.new.out.bytes c.told.result c.cut.result (fields c.self.inside)
    c.index_mut-peering.result.now c.cut.new.self
    (subst (λ k. c.args.n < k) (sym c.self.invariant.peers) c.requires.slot) c.index_mut-peering.ensures.value
    (c.told.ensures c.cut.new.out.bytes) c.cut.ensures.may (subst (Stands cfg H) (sym c.self.view_is) is)
