use Rattle.std.proofs.Common.{◌<◌, ◌∷◌, sym, subst, ap, ◌∙◌}
use Rattle.book_history.specs.declared.outcomes.Peer.TheVariants as peer
use Rattle.book_history.specs.Entries.Entry.{PeerAsked}
use Rattle.book_history.specs.Legal.{Allows}
use Rattle.book_core.specs.Ready.{peer_told}
use Rattle.book_core.specs.Seen.{fields}
use Rattle.book_core.specs.Stands.{Stands}
use Rattle.book_core.proofs.SessionLemmas.{peer_is, peer_stops}
use Rattle.book_core.proofs.book.Book.peer.Goals as goal

pub returns-then-stopping : goal.returns-then-stopping
returns-then-stopping c = λ cfg H is.
    subst (λ book. Allows cfg H (PeerAsked c.args.n peer.Stopping)
    × Stands cfg (PeerAsked c.args.n peer.Stopping ∷ H) book) c.self.view_is
    (peer_stops cfg H c.args.n (fields c.self.inside) c.if-stopping.true (subst (Stands cfg H) (sym c.self.view_is) is))

pub returns : goal.returns
returns c = λ cfg H is.
    subst (λ book. Allows cfg H (PeerAsked c.args.n c.peer_told.result)
    × Stands cfg (PeerAsked c.args.n c.peer_told.result ∷ H) book) c.self.view_is
    (peer_is cfg H c.args.n (fields c.self.inside) c.index-place.result.now c.peer_told.result
    (subst (λ k. c.args.n < k) (sym c.self.invariant.peers) c.requires) c.index-place.ensures
    (c.peer_told.ensures ∙ ap peer_told c.settings.ensures.value) c.if-stopping.false
    (subst (Stands cfg H) (sym c.self.view_is) is))
