use Rattle.std.proofs.Common.{length, refl, sym, subst}
use Rattle.std.proofs.lemmas.Option.{slice_get_read}
use Rattle.book_core.specs.Processes.{ReloadsHelper}
use Rattle.book_core.proofs.ProcessLemmas.{reloaded_next}
use Rattle.book_core.proofs.processes.reload_at.Goals as goal

pub returns : goal.returns
returns c = λ start after is to.
    let was = c.index_mut-helper.result.now in
    reloaded_next after start c.args.helpers.now.items c.args.h was c.reload.new.self
    (slice_get_read c.args.helpers.now.items (length c.args.helpers.now.items) c.args.h was refl c.requires
    c.index_mut-helper.ensures.value)
    (subst (λ process. ReloadsHelper process was c.reload.new.self) (sym is)
    (λ cfg file H h stands given. c.reload.ensures cfg file H h stands given)) to
