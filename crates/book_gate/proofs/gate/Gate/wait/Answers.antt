use Rattle.std.proofs.Common.{ap, sym, ◌∙◌, arith}
use Rattle.book_gate.proofs.TurnLemmas.{looks}
use Rattle.book_gate.proofs.gate.Gate.wait.Goals as goal

pub load-serving-requires : goal.load-serving-requires
load-serving-requires g c =
    let waits = c.requires.ticket in
    let words = c.self.invariant.0 in
    let same = ap (λ me. me.0) c.loop.invariant.1 in (
      c.loop.invariant.0.0 ∙ (c.requires.gate ∙ sym c.self.view_is),
      omega arith,
      looks g.T.Held.stands g.T.Held.law _ _ _ c.loop.seat.me.0 c.loop.seat.me.1 waits.start waits.ticket
          (ap (λ view. view.start) same ∙ waits.started) (ap (λ view. view.ticket) same ∙ waits.has)
          (ap (λ view. view.turn) same ∙ waits.rests),
    )
