use Rattle.std.proofs.Common.{◌∙◌, ap, sym}
use Rattle.std.specs.Option.{option_copied}
use Rattle.helper_book.specs.Seen.{Seen as Helper}
use Rattle.book_core.specs.Processes.{is_process_of}
use Rattle.book_core.proofs.FoundLemmas.{none_more, none_passes, one_passes}
use Rattle.book_core.proofs.ProcessLemmas.{process_read}
use Rattle.book_core.proofs.processes.is_there.Goals as goal

pub helpers-preserved : goal.helpers-preserved
helpers-preserved c = λ cfg H stand.
    let read = process_read cfg H c.args.helpers.now c.helpers.helper-index c.helper-item.result
    (option_copied c.process.result) c.helpers-test.true c.helper-item.is c.process.ensures stand in
    none_more (λ (helper : Helper). is_process_of c.args.new.now helper.process) c.args.helpers.now
    c.helpers.helper-index c.helper-item.result c.helpers-test.true c.helper-item.is
    (ap (is_process_of c.args.new.now) (sym read) ∙ sym c.is_process_of.ensures ∙ c.if-is_process_of.false)
    (c.helpers.invariant cfg H stand)

pub returns-then-is_process_of : goal.returns-then-is_process_of
returns-then-is_process_of c = λ cfg H stand.
    let read = process_read cfg H c.args.helpers.now c.helpers.helper-index c.helper-item.result
    (option_copied c.process.result) c.helpers-test.true c.helper-item.is c.process.ensures stand in
    sym (one_passes (λ (helper : Helper). is_process_of c.args.new.now helper.process) c.args.helpers.now
    c.helpers.helper-index c.helper-item.result c.helpers-test.true c.helper-item.is
    (ap (is_process_of c.args.new.now) (sym read) ∙ sym c.is_process_of.ensures ∙ c.if-is_process_of.true))

pub returns : goal.returns
returns c = λ cfg H stand.
    sym (none_passes (λ (helper : Helper). is_process_of c.args.new.now helper.process) c.args.helpers.now
    c.helpers.helper-index c.helpers-test.false (c.helpers.invariant cfg H stand))
