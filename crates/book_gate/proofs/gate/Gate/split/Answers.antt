use Rattle.std.proofs.Common.{◌∙◌, ap, sym, arith}
use Rattle.book_gate.specs.Views.{parent_view, child_view}
use Rattle.book_gate.proofs.OptionLemmas.{some_of}
use Rattle.book_gate.proofs.StepLemmas.{reviews}
use Rattle.book_gate.proofs.SplitLemmas.{splits}
use Rattle.book_gate.proofs.CallLemmas.{split_at}
use Rattle.book_gate.proofs.gate.Gate.split.Goals as goal

pub load-requires : goal.load-requires
load-requires g c =
    let seat = c.pass.inside.seat in
    let of = ap (λ pass. pass.gate) c.pass.view_is in
    let words = c.self.invariant.0 in
    let live = some_of seat.me.0.start c.pass.invariant.alive in (
      of ∙ (c.requires ∙ sym c.self.view_is),
      omega arith,
      reviews g.T.Held.stands g.T.Held.law _ _ _ seat.me.0 seat.me.1
          live.0 live.1,
    )

pub split_seat-seat-requires : goal.split_seat-seat-requires
split_seat-seat-requires g c =
    let seat = c.pass.inside.seat in
    let of = ap (λ pass. pass.gate) c.pass.view_is in
    let words = c.self.invariant.0 in
    let live = some_of seat.me.0.start c.pass.invariant.alive in
    let same = ap (λ me. me.0) c.load.ensures.2.0 in
    let room = c.pass.invariant.room_is in
    let left = ap (λ view. view.room) same in (
      c.load.ensures.0 ∙ (of ∙ (c.requires ∙ sym c.self.view_is)),
      omega arith,
      splits g.T.Held.stands g.T.Held.law _ _ c.load.new.seat.me.0 live.0 (ap (λ view. view.start) same ∙ live.1)
          (ap (λ view. view.turn) same ∙ c.pass.invariant.idle.rests) (omega arith),
    )

pub returns-clause-new : goal.returns-clause-new
returns-clause-new g c =
    let seat = c.pass.inside.seat in
    let live = some_of seat.me.0.start c.pass.invariant.alive in
    let same = ap (λ me. me.0) c.load.ensures.2.0 in
    let cut = c.split_seat-seat in
    split_at g.T.Held.law c.args.pass.now seat.table_id cut.new.seat.table_id cut.result.table_id seat.me.0
    cut.new.seat.me.0 cut.result.me.0 live.0 live.1 c.pass.view_is (cut.ensures.0 ∙ c.load.ensures.0)
    (cut.ensures.3 ∙ c.load.ensures.0) (ap (λ me. me.0) cut.ensures.2 ∙ ap parent_view same)
    (ap (λ me. me.0) cut.ensures.4 ∙ ap child_view same) c.load.ensures.2.1
