use Rattle.std.proofs.Common.{◌≡◌, ◌++◌, ◌∷◌, [], Some, ℕ, List, arith, sym, ap, ◌∙◌, subst}
use Rattle.std.specs.Prelude.{Contains}
use mathlib.Core.List.{IsPrefix}
use Rattle.atomic_table.specs.Table.{rest}
use Rattle.book_gate.specs.declared.view.Signed.{Signed}
use Rattle.book_gate.specs.Histories.{entries, entries_by}
use Rattle.book_gate.specs.Views.{own_names, at_turn, at_rest, with_entry}
use Rattle.book_gate.specs.Steps.{Counts}
use Rattle.book_gate.proofs.ListLemmas.{same_first}
use Rattle.book_gate.proofs.OptionLemmas.{some_of, no_ticket, some_same}
use Rattle.book_gate.proofs.StepLemmas.{takes_ticket}
use Rattle.book_gate.proofs.CallLemmas.{enters_at}
use Rattle.book_gate.proofs.gate.Gate.enter.Goals as goal

pub fetch_add-ticket-requires : goal.fetch_add-ticket-requires
fetch_add-ticket-requires g c =
    let seat = c.pass.inside.seat in
    let of = ap (λ pass. pass.gate) c.pass.view_is in
    let words = c.self.invariant.0 in
    let idle = c.pass.invariant.idle in
    let live = some_of seat.me.0.start c.pass.invariant.alive in (
      of ∙ (c.requires.gate ∙ sym c.self.view_is),
      omega arith,
      takes_ticket g.T.Held.stands g.T.Held.law _ _ _ seat.me.0 seat.me.1 live.0 live.1
          (no_ticket _ idle.has_no_ticket) idle.rests,
    )

pub wait-requires-clause-ticket : goal.wait-requires-clause-ticket
wait-requires-clause-ticket g c =
    let live = some_of c.pass.inside.seat.me.0.start c.pass.invariant.alive in
    let told = c.fetch_add-ticket.ensures.2 in
    let is = ap (λ me. me.0) told.2 in record {
      start = live.0;
      started = ap (λ view. view.start) is ∙ live.1;
      rests = ap (λ view. view.turn) is ∙ c.pass.invariant.idle.rests;
      ticket = told.0;
      has = ap (λ view. view.ticket) is;
      shows = told.1;
    }

pub exchange-old-requires : goal.exchange-old-requires
exchange-old-requires g c =
    let of = ap (λ pass. pass.gate) c.pass.view_is in
    let turn = c.wait.ensures.turn in
    let out = ap (λ me. me.1) turn.view in (
      c.wait.ensures.gate.0 ∙ (c.fetch_add-ticket.ensures.0 ∙ (of ∙ (c.requires.gate ∙ sym c.self.view_is))),
      (Some turn.state, out ∙ ap (λ slots. (0, Some turn.state) ∷ rest slots) (sym out)),
    )

pub leave-requires-clause-ready : goal.leave-requires-clause-ready
leave-requires-clause-ready g c =
    let live = some_of c.pass.inside.seat.me.0.start c.pass.invariant.alive in
    let took = ap (λ me. me.0) c.fetch_add-ticket.ensures.2.2 in
    let turn = c.wait.ensures.turn in
    let is = ap (λ me. me.0) c.exchange-old.ensures.3 ∙ ap (λ me. me.0) turn.view in
    let start = ap (λ view. view.start) took ∙ live.1 in
    let had = same_first _ _ _ 0 c.exchange-old.result (Some turn.state) c.exchange-old.ensures.2
    (ap (λ me. me.1) turn.view) in
    let same = some_same turn.state c.in-Some.state (sym had ∙ c.in-Some.is) in
    let after = c.on-answer.ensures live.0 (entries turn.history)
    (subst (λ state. g.T.Held.stands state live.0 (entries turn.history)) same (turn.stands_for live.0 start)) in
    let seen = ap (λ view. view.seen) is in
    let said = c.of-said.ensures in record {
      start = live.0;
      started = ap (λ view. view.start) is ∙ start;
      turn = ap (λ view. view.turn) is;
      allowed = subst (λ (it : List (Signed g.row.T-Entry.Denot) × g.row.C.Denot).
          g.T.Held.law live.0 (entries it.0) (g.C.Call.entry it.1 c.on-answer.result)) (λ i. (sym seen i, sym said i))
          after.1;
      stands_for = subst (λ (it : List (Signed g.row.T-Entry.Denot) × g.row.C.Denot).
          g.T.Held.stands c.on-answer.new.state live.0 (entries it.0 ++ g.C.Call.entry it.1 c.on-answer.result ∷ []))
          (λ i. (sym seen i, sym said i)) after.0;
    }

pub returns : goal.returns
returns g c =
    let seat = c.pass.inside.seat in
    let live = some_of seat.me.0.start c.pass.invariant.alive in
    let took = ap (λ me. me.0) c.fetch_add-ticket.ensures.2.2 in
    let turn = c.wait.ensures.turn in
    let said = c.of-said.ensures in
    let out = c.exchange-old.new.seat.me.0 in record {
      entered = enters_at g.T.Held.law c.args.pass.now seat.table_id c.leave.new.seat.table_id seat.me.0 out
          c.fetch_add-ticket.ensures.2.0 turn.history (g.C.Call.entry c.args.call c.on-answer.result)
          c.leave.new.seat.me.0 live.0 live.1 c.pass.view_is
          (c.leave.ensures.gate.0 ∙ (c.exchange-old.ensures.0 ∙ (c.wait.ensures.gate.0 ∙ c.fetch_add-ticket.ensures.0)))
          (ap (λ me. me.0) c.exchange-old.ensures.3 ∙ (ap (λ me. me.0) turn.view
          ∙ ap (λ view. at_turn view turn.history) took))
          (subst (λ view. IsPrefix view.seen turn.history) took turn.front)
          (subst (λ view. (name : List ℕ) → Contains (own_names view) name
          → entries_by name turn.history ≡ entries_by name view.seen) took turn.own)
          (subst (λ (call : g.row.C.Denot). Counts g.T.Held.law out (g.C.Call.entry call c.on-answer.result)) said
          c.leave.ensures.counts)
          (ap (λ me. me.0) c.leave.ensures.view ∙ ap (λ (call : g.row.C.Denot).
          at_rest (with_entry out (g.C.Call.entry call c.on-answer.result))) said);
    }
