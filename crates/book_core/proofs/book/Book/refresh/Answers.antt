use Rattle.std.proofs.Common.{◌<◌, sym, subst}
use Rattle.std.proofs.lemmas.List.{length-set}
use Rattle.std.specs.Prelude.{slice_set}
use Rattle.book_core.specs.Seen.{fields}
use Rattle.book_core.specs.Stands.{Stands}
use Rattle.book_core.proofs.PeerLemmas.{whole_peers}
use Rattle.book_core.proofs.SessionLemmas.{refreshed, with_slot}
use Rattle.book_core.proofs.book.Book.refresh.Goals as goal

pub invariant_of-self : goal.invariant_of-self
invariant_of-self c =
    let new = with_slot c.index_mut-peering.result.now c.refresh.new.self in
    let peers = c.self.inside.peers.items in
    whole_peers (fields c.self.inside) (slice_set peers c.args.n new) (length-set peers c.args.n new) c.self.invariant

pub returns : goal.returns
returns c = λ cfg H is.
    refreshed c.nodes_stay.ensures cfg H c.args.n c.args.family (fields c.self.inside)
    c.index_mut-peering.result.now c.refresh.new.self
    (subst (λ k. c.args.n < k) (sym c.self.invariant.peers) c.requires) c.index_mut-peering.ensures.value
    c.refresh.ensures (subst (Stands cfg H) (sym c.self.view_is) is)
