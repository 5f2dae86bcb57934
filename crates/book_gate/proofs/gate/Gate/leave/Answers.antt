use Rattle.std.proofs.Common.{◌≡◌, ◌∷◌, [], None, Some, ℕ, ◌+◌, ◌%◌, ◌^◌, Option, arith, sym, ap, ◌∙◌, subst}
use mathlib.Core.Option.{none}
use Rattle.atomic_table.specs.Table.{Me, step, rest, Allows}
use Rattle.book_gate.specs.declared.view.View.{View}
use Rattle.book_gate.specs.Histories.{signed}
use Rattle.book_gate.specs.Views.{with_entry}
use Rattle.book_gate.specs.Rule.{GateRule}
use Rattle.book_gate.specs.Steps.{served}
use Rattle.book_gate.proofs.ListLemmas.{same_first}
use Rattle.book_gate.proofs.OptionLemmas.{none_some}
use Rattle.book_gate.proofs.HistoryLemmas.{entries-push}
use Rattle.book_gate.proofs.TurnLemmas.{counts, serves}
use Rattle.book_gate.proofs.gate.Gate.leave.Goals as goal

pub fetch_add-requires : goal.fetch_add-requires
fetch_add-requires g c =
    let ready = c.requires.ready in
    let words = c.self.invariant.0 in
    let me = c.args.seat.now.me in (
      c.requires.gate ∙ sym c.self.view_is,
      omega arith,
      counts g.T.Held.stands g.T.Held.law _ _ _ me.0 me.1 ready.start
          _ _ ready.started ready.turn c.requires.said ready.allowed,
    )

pub exchange-old-requires : goal.exchange-old-requires
exchange-old-requires g c =
    let told = c.fetch_add.ensures.2 _ c.requires.said in
    let out = ap (λ me. me.1) told.0 ∙ c.requires.out in (
      c.fetch_add.ensures.0 ∙ (c.requires.gate ∙ sym c.self.view_is),
      (None, out ∙ ap (λ slots. (0, None) ∷ rest slots) (sym out)),
    )

pub unreachable-requires : goal.unreachable-requires
unreachable-requires g c =
    let told = c.fetch_add.ensures.2 _ c.requires.said in
    let out = ap (λ me. me.1) told.0 ∙ c.requires.out in
    none_some c.exchange-old.result c.in_default.field-0 (sym
    (same_first _ _ _ 0 None c.exchange-old.result out c.exchange-old.ensures.2)) c.in_default.is

pub fetch_add-requires-2 : goal.fetch_add-requires-2
fetch_add-requires-2 g c =
    let ready = c.requires.ready in
    let one_slot = c.self.invariant.1 in
    let words = c.self.invariant.0 in
    let told = c.fetch_add.ensures.2 _ c.requires.said in
    let out = ap (λ me. me.1) told.0 ∙ c.requires.out in
    let view = c.args.seat.now.me.0 in
    let entry = g.C.Call.entry c.args.call.value c.args.answer.now in
    let id : ℕ = c.exchange-old.new.seat.id in
    let slots : ℕ = c.self.inside.table.shared.table_id.slots in
    let has : c.exchange-old.new.seat.me ≡ (with_entry view entry, (0, Some c.args.state) ∷ []) =
    c.exchange-old.ensures.3 ∙ (λ i. ((told.0 i).0, (0, Some c.args.state) ∷ rest (out i))) in
    let stands = subst (λ history. g.T.Held.stands c.args.state ready.start history)
    (sym (entries-push view.seen (signed view.name entry))) ready.stands_for in (
      c.exchange-old.ensures.0 ∙ (c.fetch_add.ensures.0 ∙ (c.requires.gate ∙ sym c.self.view_is)),
      omega arith,
      subst
          (λ (me : Me (Option g.row.T.Denot) (View g.row.T-Start.Denot g.row.T-Entry.Denot)).
          Allows (GateRule g.T.Held.stands g.T.Held.law c.self.inside.table.shared.key.value) slots id me 1
          (λ n. (n + 1) % 2 ^ 64) (served (step slots 1 1 0 none) me))
          (sym has) (serves g.T.Held.stands g.T.Held.law _ slots id (with_entry view entry) ready.start c.args.state
          ready.started ready.turn stands (omega arith)),
    )

pub returns-clause-counts : goal.returns-clause-counts
returns-clause-counts g c = (c.fetch_add.ensures.2 _ c.requires.said).1
