use Rattle.std.proofs.lemmas.Result.{err_from_is_err_and}
use Rattle.config_reader.proofs.FileLemmas.{process_fits, process_goes, process_stops}
use Rattle.config_reader.proofs.sections.process_section.Goals as goal

pub returns-in_err-process-clause-read : goal.returns-in_err-process-clause-read
returns-in_err-process-clause-read c =
    let e = err_from_is_err_and c.from_residual.result c.from_residual.ensures.1 in
    rw (e.1, e.2)
    (process_stops c.args.read c.processes.result.now c.args.words.now.end c.args.words.now.left
    c.process_at.new.words.left c.process_at.new.words.left c.in_err-process.field-0.0 c.processes.ensures.value
    c.in_err-process.ensures.read)
