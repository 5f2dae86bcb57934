use Rattle.std.proofs.Common.{◌∙◌, ap, sym, arith}
use Rattle.book_gate.proofs.ListLemmas.{no_items}
use Rattle.book_gate.proofs.OptionLemmas.{some_of, no_ticket}
use Rattle.book_gate.proofs.StepLemmas.{reviews}
use Rattle.book_gate.proofs.JoinLemmas.{learns}
use Rattle.book_gate.proofs.CallLemmas.{learns_at}
use Rattle.book_gate.proofs.gate.Gate.learn.Goals as goal

pub join_seat-requires : goal.join_seat-requires
join_seat-requires g c =
    let mine = c.pass.inside.seat in
    let seen = c.glimpse.inside.seat in
    let of = ap (λ pass. pass.gate) c.pass.view_is in
    let idle = c.glimpse.invariant.idle in
    let words = c.self.invariant.0 in
    let live = some_of mine.me.0.start c.pass.invariant.alive in (
      of ∙ (c.requires.pass ∙ sym c.self.view_is),
      ap (λ glimpse. glimpse.gate) c.glimpse.view_is ∙ (c.requires.glimpse ∙ sym c.self.view_is),
      no_items _ idle.holds_none,
      omega arith,
      learns g.T.Held.stands g.T.Held.law _ _ _ mine.me.0 seen.me.0 live.0 live.1 c.pass.invariant.idle.rests
          c.glimpse.invariant.no_pass (no_ticket _ idle.has_no_ticket) idle.rests,
    )

pub load-requires : goal.load-requires
load-requires g c =
    let seat = c.pass.inside.seat in
    let of = ap (λ pass. pass.gate) c.pass.view_is in
    let words = c.self.invariant.0 in
    let live = some_of seat.me.0.start c.pass.invariant.alive in
    let is = ap (λ me. me.0) c.join_seat.ensures.2 in (
      c.join_seat.ensures.0 ∙ (of ∙ (c.requires.pass ∙ sym c.self.view_is)),
      omega arith,
      reviews g.T.Held.stands g.T.Held.law _ _ _ c.join_seat.new.seat.me.0 c.join_seat.new.seat.me.1 live.0
          (ap (λ view. view.start) is ∙ live.1),
    )

pub returns : goal.returns
returns g c =
    let mine = c.pass.inside.seat in
    let seen = c.glimpse.inside.seat in
    let live = some_of mine.me.0.start c.pass.invariant.alive in record {
      learned = learns_at g.T.Held.law c.args.pass.now c.args.glimpse mine.table_id c.load.new.seat.table_id mine.me.0
          seen.me.0 c.join_seat.new.seat.me.0 c.load.new.seat.me.0 live.0 live.1 c.pass.view_is
          (ap (λ glimpse. glimpse.seen) c.glimpse.view_is)
          (c.load.ensures.0 ∙ c.join_seat.ensures.0) (ap (λ me. me.0) c.join_seat.ensures.2)
          (ap (λ me. me.0) c.load.ensures.2.0) c.load.ensures.2.1;
    }
