use Rattle.std.proofs.Common.{sym, subst}
use Rattle.std.specs.Prelude.{IsSome}
use Rattle.peer_book.specs.Seen.{seen}
use Rattle.peer_book.proofs.KeptLemmas.{kept_end, ended}
use Rattle.std.proofs.Common.{◌∷◌, None, ap}
use Rattle.std.specs.Prelude.{Option, if◌then◌else◌}
use Rattle.peer_history.specs.Steps.{Code}
use Rattle.peer_history.specs.Steps.Step.{Ended}
use Rattle.peer_book.specs.Stands.{Stands}
use Rattle.peer_book.proofs.KeptLemmas.{slot_with}
use Rattle.peer_book.proofs.StandsLemmas.{stands_end}
use Rattle.peer_book.proofs.slot.PeerSlot.end.Goals as goal

pub invariant_of-self : goal.invariant_of-self
invariant_of-self c =
    kept_end (seen c.self.inside) c.down.new.self c.or-self-inside.result c.self.invariant c.down.ensures.restarts
    (subst IsSome (sym c.or-self-inside.ensures) (ended c.self.inside.reset c.args.code))

pub returns-clause-stands : goal.returns-clause-stands
returns-clause-stands c = λ steps stands.
    let slot = seen c.self.inside in
    subst (λ (reset : Option Code). Stands (Ended c.args.code ∷ steps)
    (slot_with slot c.down.new.self slot.session reset))
    (sym c.or-self-inside.ensures)
    (stands_end steps slot c.down.new.self c.args.code (subst (Stands steps) (sym c.self.view_is) stands)
    c.down.ensures.restarts)

pub returns-clause-ended : goal.returns-clause-ended
returns-clause-ended c =
    ap (λ b. if b then None else c.self.inside.session)
    (subst IsSome (sym c.or-self-inside.ensures) (ended c.self.inside.reset c.args.code))
