use Rattle.std.proofs.Common.{◌<◌, ◌∷◌, sym, subst, ap, ◌∙◌}
use Rattle.std.proofs.lemmas.List.{length-set}
use Rattle.std.specs.Prelude.{slice_set}
use Rattle.book_history.specs.declared.outcomes.Up.TheVariants as up
use Rattle.book_history.specs.Entries.Entry.{CameUp}
use Rattle.book_history.specs.Legal.{Allows}
use Rattle.book_core.specs.declared.peering.Peering.{Peering}
use Rattle.book_core.specs.Ready.{are_settings}
use Rattle.book_core.specs.Seen.{Seen, fields}
use Rattle.book_core.specs.Stands.{Stands}
use Rattle.book_core.proofs.PeerLemmas.{whole_peers}
use Rattle.book_core.proofs.SessionLemmas.{one_place, up_ok, up_stale, up_stops, with_slot}
use Rattle.book_core.proofs.book.Book.up.Goals as goal

pub invariant_of-self : goal.invariant_of-self
invariant_of-self c =
    let new = with_slot c.index_mut-peering.result.now c.up.new.self in
    let peers = c.self.inside.peers.items in
    whole_peers (fields c.self.inside) (slice_set peers c.args.n new) (length-set peers c.args.n new) c.self.invariant

pub returns-then-stopping : goal.returns-then-stopping
returns-then-stopping c = λ cfg H is.
    up_stops cfg H c.args.n c.args.settings.now c.args.caps c.args.self.now
    (sym (ap (λ (book : Seen). book.stopping) c.self.view_is) ∙ c.if-stopping.true) is

pub returns-then-not-has_settings : goal.returns-then-not-has_settings
returns-then-not-has_settings c = λ cfg H is.
    subst (λ book. Allows cfg H (CameUp c.args.n c.args.settings.now c.args.caps up.Stale)
    × Stands cfg (CameUp c.args.n c.args.settings.now c.args.caps up.Stale ∷ H) book) c.self.view_is
    (up_stale cfg H c.args.n c.args.settings.now c.args.caps (fields c.self.inside) c.index-place.result.now
    (subst (λ k. c.args.n < k) (sym c.self.invariant.peers) c.requires) c.index-place.ensures
    (sym c.has_settings.ensures ∙ c.if-not-has_settings.true) c.if-stopping.false
    (subst (Stands cfg H) (sym c.self.view_is) is))

pub returns : goal.returns
returns c = λ cfg H is.
    let book = fields c.self.inside in
    let within = subst (λ k. c.args.n < k) (sym c.self.invariant.peers) c.requires in
    let one = one_place book c.args.n c.index-place.result.now c.index_mut-peering.result.now within
    c.index-place.ensures c.index_mut-peering.ensures.value in
    up_ok c.nodes_stay.ensures cfg H c.args.n c.args.settings.now c.args.caps book c.index_mut-peering.result.now
    c.up.new.self within c.index_mut-peering.ensures.value
    (ap (λ (p : Peering). are_settings p.slot.settings c.args.settings.now) (sym one)
    ∙ sym c.has_settings.ensures ∙ c.if-not-has_settings.false)
    c.if-stopping.false c.up.ensures (subst (Stands cfg H) (sym c.self.view_is) is)
