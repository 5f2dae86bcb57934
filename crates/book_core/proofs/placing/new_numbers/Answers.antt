use Rattle.std.proofs.Common.{◌∙◌, Some, ap, arith}
use Rattle.std.proofs.lemmas.List.{length-set}
use Rattle.std.specs.Prelude.{slice_get}
use Rattle.book_core.specs.Settling.{is_new}
use Rattle.book_core.proofs.BelowLemmas.{below_next}
use Rattle.book_core.proofs.FoundLemmas.{got_at}
use Rattle.book_core.proofs.placing.new_numbers.Goals as goal

pub sections-preserved : goal.sections-preserved
sections-preserved c =
    let peers = c.args.peers.now in
    let below = c.sections-test.true in
    let count = c.sections.invariant.0 in (
      length-set c.sections.news c.sections.n c.is_new.result ∙ count,
      below_next (λ n. Some (is_new peers (slice_get c.args.sections.now n))) c.sections.news c.sections.n
          c.is_new.result (omega (arith, below, count))
          (ap Some (c.is_new.ensures ∙ ap (is_new peers)
          (got_at c.args.sections.now c.sections.n c.get.result c.get.ensures.lookup.0 c.get.ensures.lookup.1)))
          c.sections.invariant.1,
    )

pub returns : goal.returns
returns c = record {
  count = c.sections.invariant.0;
  each = λ n within.
      let past = c.sections-test.false in c.sections.invariant.1 n (omega (arith, within, past));
}
