use Rattle.std.proofs.Common.{length, refl, sym, subst}
use Rattle.std.proofs.lemmas.Option.{slice_get_read}
use Rattle.book_core.specs.Changing.{Settles}
use Rattle.book_core.proofs.SettleLemmas.{settled_next}
use Rattle.book_core.proofs.settling.carry_next.Goals as goal

pub returns : goal.returns
returns c = λ after start planned is settled.
    let was = c.index_mut-peering.result.now in
    settled_next after start c.args.peers.now.items planned c.args.left.now.items c.args.n was c.carry.new.peering
    c.replace-change.new.dest
    (slice_get_read c.args.peers.now.items (length c.args.peers.now.items) c.args.n was refl c.requires.place
    c.index_mut-peering.ensures.value)
    (subst (λ section. Settles section was c.carry.new.peering) (sym is) c.carry.ensures) settled
