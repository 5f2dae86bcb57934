use Rattle.std.proofs.Common.{◌∙◌, Some, ap, arith}
use Rattle.std.proofs.lemmas.List.{length-set}
use Rattle.std.specs.Prelude.{slice_get}
use Rattle.book_core.specs.Processes.{is_new_process}
use Rattle.book_core.proofs.BelowLemmas.{below_next}
use Rattle.book_core.proofs.FoundLemmas.{got_at}
use Rattle.book_core.proofs.processes.new_numbers.Goals as goal

pub sections-preserved : goal.sections-preserved
sections-preserved c =
    let helpers = c.args.helpers.now in
    let below = c.sections-test.true in
    let count = c.sections.invariant.0 in (
      length-set c.sections.news c.sections.h c.is_new.result ∙ count,
      λ cfg H stand.
          below_next (λ h. Some (is_new_process helpers (slice_get c.args.processes.now h))) c.sections.news
          c.sections.h c.is_new.result (omega (arith, below, count))
          (ap Some (c.is_new.ensures cfg H stand ∙ ap (is_new_process helpers)
          (got_at c.args.processes.now c.sections.h c.get.result c.get.ensures.lookup.0 c.get.ensures.lookup.1)))
          (c.sections.invariant.1 cfg H stand),
    )

pub returns : goal.returns
returns c = record {
  count = c.sections.invariant.0;
  each = λ cfg H stand h within.
      let past = c.sections-test.false in c.sections.invariant.1 cfg H stand h (omega (arith, within, past));
}
