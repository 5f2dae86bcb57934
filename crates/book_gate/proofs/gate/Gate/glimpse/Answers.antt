use Rattle.std.proofs.Common.{◌∙◌, ap, sym, arith}
use Rattle.book_gate.proofs.SplitLemmas.{glimpses}
use Rattle.book_gate.proofs.gate.Gate.glimpse.Goals as goal

pub split_seat-seat-requires : goal.split_seat-seat-requires
split_seat-seat-requires g c =
    let of = ap (λ pass. pass.gate) c.pass.view_is in
    let words = c.self.invariant.0 in (
      of ∙ (c.requires ∙ sym c.self.view_is),
      omega arith,
      glimpses g.T.Held.stands g.T.Held.law _ _
          c.pass.inside.seat.me.0 c.pass.invariant.idle.rests,
    )
