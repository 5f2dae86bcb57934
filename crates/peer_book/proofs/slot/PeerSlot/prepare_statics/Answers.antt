use Rattle.std.proofs.Common.{sym, ap, subst}
use Rattle.adj_rib_out.specs.Calls.{ReadiesSome}
use Rattle.peer_book.specs.Numbers.{keys_in}
use Rattle.peer_book.specs.Seen.{seen}
use Rattle.peer_book.specs.Slot.{Slot}
use Rattle.peer_book.specs.Stands.{Stands}
use Rattle.peer_book.proofs.KeptLemmas.{kept_calm}
use Rattle.peer_book.proofs.ReloadLemmas.{calm_some}
use Rattle.peer_book.proofs.StandsLemmas.{stands_calm}
use Rattle.peer_book.proofs.slot.PeerSlot.prepare_statics.Goals as goal

pub invariant_of-self : goal.invariant_of-self
invariant_of-self c =
    kept_calm (seen c.self.inside) c.number_statics.new.table c.self.invariant
    (calm_some c.self.inside.table c.number_statics.new.table (keys_in c.args.statics.now)
    c.number_statics.ensures.some)

pub returns-clause-some : goal.returns-clause-some
returns-clause-some c =
    subst (λ (s : Slot). ReadiesSome s.table c.number_statics.new.table (keys_in c.args.statics.now)) c.self.view_is
    c.number_statics.ensures.some

pub returns-clause-settings : goal.returns-clause-settings
returns-clause-settings c = ap (λ (s : Slot). s.settings) c.self.view_is

pub returns-clause-stands : goal.returns-clause-stands
returns-clause-stands c = λ steps stands.
    stands_calm steps (seen c.self.inside) c.number_statics.new.table (subst (Stands steps) (sym c.self.view_is) stands)
    (calm_some c.self.inside.table c.number_statics.new.table (keys_in c.args.statics.now)
    c.number_statics.ensures.some)
