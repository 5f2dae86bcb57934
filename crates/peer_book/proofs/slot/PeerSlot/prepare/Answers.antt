use Rattle.std.proofs.Common.{sym, ap, subst}
use Rattle.peer_book.specs.Seen.{seen}
use Rattle.peer_book.specs.Stands.{Stands}
use Rattle.peer_book.proofs.KeptLemmas.{calm_ready, kept_calm}
use Rattle.peer_book.proofs.StandsLemmas.{stands_calm}
use Rattle.std.specs.Prelude.{IfOk, OnErr}
use Rattle.adj_rib_out.specs.Calls.{Readies, ReadiesSome}
use Rattle.peer_book.specs.Slot.{Slot}
use Rattle.peer_book.proofs.slot.PeerSlot.prepare.Goals as goal

pub invariant_of-self : goal.invariant_of-self
invariant_of-self c =
    kept_calm (seen c.self.inside) c.ready.new.self c.self.invariant
    (calm_ready c.self.inside.table c.ready.new.self c.args.keys.now c.args.written.now c.ready.result
    c.ready.ensures.ok c.ready.ensures.err)

pub returns-clause-stands : goal.returns-clause-stands
returns-clause-stands c = λ steps stands.
    stands_calm steps (seen c.self.inside) c.ready.new.self (subst (Stands steps) (sym c.self.view_is) stands)
    (calm_ready c.self.inside.table c.ready.new.self c.args.keys.now c.args.written.now c.ready.result
    c.ready.ensures.ok c.ready.ensures.err)

pub returns-clause-ok : goal.returns-clause-ok
returns-clause-ok c =
    subst (λ (s : Slot). IfOk c.ready.result
    (λ number. Readies s.table c.ready.new.self c.args.keys.now c.args.written.now number)) c.self.view_is
    c.ready.ensures.ok

pub returns-clause-err : goal.returns-clause-err
returns-clause-err c =
    subst (λ (s : Slot). OnErr c.ready.result (ReadiesSome s.table c.ready.new.self c.args.keys.now)) c.self.view_is
    c.ready.ensures.err

pub returns-clause-settings : goal.returns-clause-settings
returns-clause-settings c = ap (λ (s : Slot). s.settings) c.self.view_is
