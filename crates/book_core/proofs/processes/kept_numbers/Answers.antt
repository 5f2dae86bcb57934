use Rattle.std.proofs.Common.{◌≡◌, ◌∙◌, ◌<◌, length, Some, refl, sym, ap, arith}
use Rattle.std.proofs.lemmas.List.{length-set}
use Rattle.std.proofs.lemmas.Option.{slice_get_read, slice_get_within}
use Rattle.std.specs.Prelude.{slice_get}
use Rattle.std.specs.Option.{option_copied, option_map}
use Rattle.helper_book.specs.Seen.{Seen as Helper}
use Rattle.book_core.specs.Processes.{number_of_process}
use Rattle.book_core.proofs.BelowLemmas.{below_next}
use Rattle.book_core.proofs.ProcessLemmas.{process_read}
use Rattle.book_core.proofs.processes.kept_numbers.Goals as goal

pub helpers-init : goal.helpers-init
helpers-init c = (refl, λ cfg H stand h under. absurd (omega (arith, under)))

pub helpers-preserved : goal.helpers-preserved
helpers-preserved c =
    let helpers = c.args.helpers.now in
    let h = c.helpers.h in
    let helper = c.index-helpers-h.result in
    let below = c.helpers-test.true in
    let all = c.requires in
    let count = c.helpers.invariant.0 in
    let within : h < length helpers = omega (arith, below, all) in
    let number = λ (is : Helper). number_of_process c.args.processes.now is.process in (
      length-set c.helpers.kept h c.number_of.result ∙ count,
      λ cfg H stand.
          let read = process_read cfg H helpers h helper (option_copied c.process.result) within c.index-helpers-h.is
          c.process.ensures stand in
          let found : slice_get helpers h ≡ Some helper =
          slice_get_read helpers (length helpers) h helper refl within c.index-helpers-h.is in
          below_next (λ k. option_map number (slice_get helpers k)) c.helpers.kept h c.number_of.result
          (omega (arith, below, count))
          (ap Some (c.number_of.ensures ∙ ap (number_of_process c.args.processes.now) read)
          ∙ sym (ap (option_map number) found)) (c.helpers.invariant.1 cfg H stand),
    )

pub returns : goal.returns
returns c = record {
  count = c.helpers.invariant.0;
  each = λ cfg H stand h is there.
      let within = slice_get_within c.args.helpers.now h is there in
      let all = c.requires in
      let past = c.helpers-test.false in
      c.helpers.invariant.1 cfg H stand h (omega (arith, within, all, past))
      ∙ ap (option_map (λ (held : Helper). number_of_process c.args.processes.now held.process)) there;
}
