use Rattle.std.proofs.Common.{is_some}
use Rattle.std.proofs.lemmas.Result.{err_from_is_err_and}
use Rattle.config_model.specs.declared.fault.ConfigKind.TheVariants.{Twice}
use Rattle.config_model.specs.Sections.{place_of_name}
use Rattle.config_reader.specs.Processes.{process_closed, process_statements}
use Rattle.config_reader.specs.Rules.{sign, where_so, ◌>>=◌}
use Rattle.config_reader.specs.Words.{IsName, word_or}
use Rattle.config_reader.proofs.RuleLemmas.{goes_on, second_stops, third_stops}
use Rattle.config_reader.proofs.processes.process_at.Goals as goal

pub returns-in_err-sign-clause-read : goal.returns-in_err-sign-clause-read
returns-in_err-sign-clause-read c =
    let e = err_from_is_err_and c.from_residual-in_err-sign.result c.from_residual-in_err-sign.ensures.1 in
    rw (e.1, e.2)
    (second_stops (word_or IsName (λ name. where_so Twice (is_some (place_of_name c.args.stood.now name.items))))
    (λ name. sign 123) (λ name opened. process_statements >>= λ written. process_closed name written)
    c.args.words.now.end c.name_at.new.words.end c.args.words.now.left c.name_at.new.words.left c.sign.new.words.left
    c.sign.new.words.left c.in_ok-name.name c.in_err-sign.field-0.0 c.in_ok-name.ensures.read c.in_ok-name.ensures.end
    c.in_err-sign.ensures.read)

pub returns-in_err-written-clause-read : goal.returns-in_err-written-clause-read
returns-in_err-written-clause-read c =
    let e = err_from_is_err_and c.from_residual-in_err-written.result c.from_residual-in_err-written.ensures.1 in
    rw (e.1, e.2)
    (third_stops (word_or IsName (λ name. where_so Twice (is_some (place_of_name c.args.stood.now name.items))))
    (λ name. sign 123) (λ name opened. process_statements) (λ name opened written. process_closed name written)
    c.args.words.now.end c.name_at.new.words.end c.sign.new.words.end c.args.words.now.left c.name_at.new.words.left
    c.sign.new.words.left c.process_statements.new.words.left c.process_statements.new.words.left c.in_ok-name.name
    c.in_ok-sign.field-0 c.in_err-written.field-0.0 c.in_ok-name.ensures.read c.in_ok-name.ensures.end
    c.in_ok-sign.ensures.read c.in_ok-sign.ensures.end c.in_err-written.ensures.read)

pub returns-clause-read : goal.returns-clause-read
returns-clause-read c =
    goes_on (word_or IsName (λ name. where_so Twice (is_some (place_of_name c.args.stood.now name.items))))
    (λ name. sign 123 >>= λ opened. process_statements >>= λ written. process_closed name written)
    c.args.words.now.end c.name_at.new.words.end c.args.words.now.left c.name_at.new.words.left
    c.process_closed.new.words.left c.in_ok-name.name c.process_closed.result c.in_ok-name.ensures.read
    c.in_ok-name.ensures.end
    (goes_on (sign 123) (λ opened. process_statements >>= λ written. process_closed c.in_ok-name.name written)
    c.name_at.new.words.end c.sign.new.words.end c.name_at.new.words.left c.sign.new.words.left
    c.process_closed.new.words.left c.in_ok-sign.field-0 c.process_closed.result c.in_ok-sign.ensures.read
    c.in_ok-sign.ensures.end
    (goes_on process_statements (λ written. process_closed c.in_ok-name.name written) c.sign.new.words.end
    c.process_statements.new.words.end c.sign.new.words.left c.process_statements.new.words.left
    c.process_closed.new.words.left c.in_ok-written.written c.process_closed.result c.in_ok-written.ensures.read
    c.in_ok-written.ensures.end c.process_closed.ensures.read))
