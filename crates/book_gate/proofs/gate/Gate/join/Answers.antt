use Rattle.std.proofs.Common.{◌∙◌, ap, sym, arith}
use Rattle.book_gate.proofs.ListLemmas.{no_items}
use Rattle.book_gate.proofs.OptionLemmas.{some_of, no_ticket}
use Rattle.book_gate.proofs.StepLemmas.{reviews}
use Rattle.book_gate.proofs.JoinLemmas.{joins}
use Rattle.book_gate.proofs.CallLemmas.{joined_at}
use Rattle.book_gate.proofs.gate.Gate.join.Goals as goal

pub join_seat-requires : goal.join_seat-requires
join_seat-requires g c =
    let mine = c.pass.inside.seat in
    let theirs = c.other.inside.seat in
    let of = ap (λ pass. pass.gate) c.pass.view_is in
    let idle = c.other.invariant.idle in
    let words = c.self.invariant.0 in
    let live = some_of mine.me.0.start c.pass.invariant.alive in
    let alive = some_of theirs.me.0.start c.other.invariant.alive in (
      of ∙ (c.requires.pass ∙ sym c.self.view_is),
      ap (λ pass. pass.gate) c.other.view_is ∙ (c.requires.other ∙ sym c.self.view_is),
      no_items _ idle.holds_none,
      omega arith,
      joins g.T.Held.stands g.T.Held.law _ _ _ mine.me.0 theirs.me.0 live.0 alive.0 live.1 c.pass.invariant.idle.rests
          alive.1 (no_ticket _ idle.has_no_ticket) idle.rests,
    )

pub load-requires : goal.load-requires
load-requires g c =
    let seat = c.pass.inside.seat in
    let of = ap (λ pass. pass.gate) c.pass.view_is in
    let words = c.self.invariant.0 in
    let live = some_of seat.me.0.start c.pass.invariant.alive in
    let is = ap (λ me. me.0) c.join_seat.ensures.2 in (
      c.join_seat.ensures.0 ∙ (of ∙ (c.requires.pass ∙ sym c.self.view_is)),
      omega arith,
      reviews g.T.Held.stands g.T.Held.law _ _ _ c.join_seat.new.seat.me.0 c.join_seat.new.seat.me.1 live.0
          (ap (λ view. view.start) is ∙ live.1),
    )

pub returns : goal.returns
returns g c =
    let mine = c.pass.inside.seat in
    let theirs = c.other.inside.seat in
    let live = some_of mine.me.0.start c.pass.invariant.alive in record {
      joined = joined_at g.T.Held.law c.args.pass.now c.args.other mine.table_id c.load.new.seat.table_id
          theirs.table_id mine.me.0 theirs.me.0 c.join_seat.new.seat.me.0 c.load.new.seat.me.0 live.0 live.1
          c.pass.view_is c.other.view_is (c.load.ensures.0 ∙ c.join_seat.ensures.0)
          (ap (λ me. me.0) c.join_seat.ensures.2) (ap (λ me. me.0) c.load.ensures.2.0) c.load.ensures.2.1;
    }
