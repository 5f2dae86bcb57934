use Rattle.std.proofs.Common.{◌∙◌, sym, subst}
use Rattle.helper_book.specs.Seen.{Seen}
use Rattle.helper_book.specs.Stands.{Stands}
use Rattle.helper_book.proofs.TakeLemmas.{nothing_allowed, nothing_stands, take_at}
use Rattle.helper_book.proofs.helper.Helper.take.Goals as goal

pub returns-then-queued-ne0 : goal.returns-then-queued-ne0
returns-then-queued-ne0 c = λ cfg H h is stopping.
    let parts : Seen = record {
      slot = c.self.inside.slot;
      process = c.self.inside.process;
      acks = c.self.inside.acks;
    } in
    let here : Stands cfg H h parts = subst (λ s. Stands cfg H h s) (sym c.self.view_is) is in
    take_at cfg H h c.args.inc parts c.taken.new.slot c.taken.result
    (c.if-inc-last.false ∙ c.last.ensures) (λ none. c.if-queued-ne0.true (c.queued.ensures.value ∙ none))
    c.taken.ensures.first c.taken.ensures.rest here

pub returns : goal.returns
returns c = λ cfg H h is stopping.
    let parts : Seen = record {
      slot = c.self.inside.slot;
      process = c.self.inside.process;
      acks = c.self.inside.acks;
    } in
    let here : Stands cfg H h parts = subst (λ s. Stands cfg H h s) (sym c.self.view_is) is in (
      nothing_allowed cfg H h c.args.inc parts (c.if-inc-last.false ∙ c.last.ensures)
          (sym c.queued.ensures.value ∙ c.if-queued-ne0.false) (sym c.runs.ensures ∙ c.if-not-runs.false)
          (sym stopping ∙ c.if-stopping.false) here,
      nothing_stands cfg H h c.args.inc c.args.self.now is,
    )
