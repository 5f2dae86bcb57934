use Rattle.std.proofs.Common.{sym, ◌∙◌, subst}
use Rattle.book_history.specs.Helpers.{starts}
use Rattle.helper_book.specs.Seen.{Seen}
use Rattle.helper_book.specs.Stands.{Stands}
use Rattle.helper_book.proofs.SpawnLemmas.{attempted, stopping_is, stopping_stands}
use Rattle.helper_book.proofs.helper.Helper.spawn.Goals as goal

pub returns : goal.returns
returns c = λ cfg H h is stopping.
    let parts : Seen = record {
      slot = c.self.inside.slot;
      process = c.self.inside.process;
      acks = c.self.inside.acks;
    } in
    let here : Stands cfg H h parts = subst (λ s. Stands cfg H h s) (sym c.self.view_is) is in
    attempted cfg H h c.args.now parts c.start-start.result c.start-start.new.self c.acks_after-self-inside.result
    c.spawn_of.result (c.start-start.ensures.answer (starts cfg h H) here.starts.window) c.start-start.ensures.slot
    (c.start-start.ensures.window (starts cfg h H) here.starts.window) c.acks_after-self-inside.ensures
    c.spawn_of.ensures here (sym stopping ∙ c.if-stopping.false)

pub returns-then-stopping : goal.returns-then-stopping
returns-then-stopping c = λ cfg H h is stopping. (
  stopping_is cfg H h c.args.now (sym stopping ∙ c.if-stopping.true),
  stopping_stands cfg H h c.args.now c.args.self.now is,
)
