use Rattle.std.proofs.Common.{◌∙◌, sym, subst, ap}
use Rattle.std.proofs.lemmas.Bool.{both_ways}
use Rattle.helper_book.specs.Seen.{Seen}
use Rattle.helper_book.specs.Stands.{Stands}
use Rattle.helper_book.proofs.ReloadLemmas.{reload_changes, reload_keeps}
use Rattle.helper_book.proofs.helper.Helper.reload.Goals as goal

pub returns : goal.returns
returns c = λ cfg new H h is section.
    let parts : Seen = record {
      slot = c.self.inside.slot;
      process = c.self.inside.process;
      acks = c.self.inside.acks;
    } in
    let here : Stands cfg H h parts = subst (λ s. Stands cfg H h s) (sym c.self.view_is) is in
    reload_changes cfg new H h parts c.args.process c.settle.new.slot
    (λ same. both_ways _ c.if-is_same.false (c.is_same.ensures.1 same)) c.settle.ensures.slot c.settle.ensures.window
    here section

pub returns-then-is_same : goal.returns-then-is_same
returns-then-is_same c = λ cfg new H h is section.
    reload_keeps cfg new H h c.args.self.now c.args.process
    (sym (ap (λ (s : Seen). s.process) c.self.view_is) ∙ c.is_same.ensures.0 c.if-is_same.true) is section
