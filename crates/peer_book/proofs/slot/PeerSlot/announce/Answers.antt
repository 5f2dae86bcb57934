use Rattle.std.proofs.Common.{sym, ap, ◌∙◌, subst}
use Rattle.adj_rib_out.specs.State.{value_at}
use Rattle.adj_rib_out.specs.declared.entry.Owner.TheVariants.{Helper}
use Rattle.peer_book.specs.Seen.{seen}
use Rattle.peer_book.specs.Slot.{Slot}
use Rattle.peer_book.specs.Stands.{Stands}
use Rattle.peer_book.specs.Tables.{CanAnnounce}
use Rattle.peer_book.proofs.KeptLemmas.{kept_sets, value_fits, placed_not}
use Rattle.peer_book.proofs.StandsLemmas.{stands_announce}
use Rattle.std.specs.Prelude.{is_some}
use Rattle.peer_book.proofs.slot.PeerSlot.announce.Goals as goal

pub invariant_of-self : goal.invariant_of-self
invariant_of-self c =
    let can = subst (λ (s : Slot). CanAnnounce s c.args.keys.now c.args.number) (sym c.self.view_is) c.requires in
    kept_sets (seen c.self.inside) c.set_each.new.table c.args.keys.now _ c.self.invariant c.set_each.ensures.sets
    (value_fits (seen c.self.inside) c.args.keys.now c.args.number Helper c.self.invariant can c.set_each.ensures.keys)
    (λ vacant. absurd (placed_not c.self.inside.settings can.own can.placed vacant))

pub returns : goal.returns
returns c = λ steps written value stands.
    stands_announce steps (seen c.self.inside) c.set_each.new.table c.args.keys.now c.args.number written
    (ap (λ (s : Slot). value_at s.table c.args.number) c.self.view_is ∙ value)
    (subst (Stands steps) (sym c.self.view_is) stands) c.set_each.ensures.sets

pub set_each-requires-clause-ready : goal.set_each-requires-clause-ready
set_each-requires-clause-ready c =
    (subst (λ (s : Slot). CanAnnounce s c.args.keys.now c.args.number) (sym c.self.view_is) c.requires).ready

pub set_each-requires-clause-value : goal.set_each-requires-clause-value
set_each-requires-clause-value c =
    ap is_some (subst (λ (s : Slot). CanAnnounce s c.args.keys.now c.args.number) (sym c.self.view_is) c.requires).value
