use Rattle.std.proofs.Common.{Option, Ok, Err, refl, subst}
use Rattle.std.proofs.lemmas.Result.{err_from_is_err_and}
use Rattle.route_values.specs.declared.addr.Addr.{Addr}
use Rattle.config_reader.specs.Answered.{Answers}
use Rattle.config_reader.specs.Rules.{Gives, saying}
use Rattle.config_reader.proofs.RuleLemmas.{goes, stops}
use Rattle.health_core.specs.Prefixes.{prefixes_at}
use Rattle.health_core.specs.Statements.{hop_before}
use Rattle.health_core.proofs.statements.prefix.Goals as goal

pub returns-in_err-prefixes-clause-read : goal.returns-in_err-prefixes-clause-read
returns-in_err-prefixes-clause-read c =
    let e = err_from_is_err_and c.from_residual.result c.from_residual.ensures.1 in
    rw (e.1, e.2)
    (stops (prefixes_at (hop_before c.args.written)) (λ keys. saying (record c.args.written { prefixes = keys }))
    c.args.words.now.end c.args.words.now.left c.prefixes_at.new.words.left c.prefixes_at.new.words.left
    c.in_err-prefixes.field-0.0
    (subst (λ (hop : Option Addr). Answers (prefixes_at hop) c.args.words.now.end c.args.words.now.left
    c.prefixes_at.new.words.left (Err c.in_err-prefixes.field-0.0)) c.hop_before.ensures
    c.in_err-prefixes.ensures.read))

pub returns-clause-read : goal.returns-clause-read
returns-clause-read c =
    goes (prefixes_at (hop_before c.args.written)) (λ keys. saying (record c.args.written { prefixes = keys }))
    c.args.words.now.end c.args.words.now.left c.prefixes_at.new.words.left c.prefixes_at.new.words.left
    c.in_ok-prefixes.prefixes (Ok (record c.args.written { prefixes = c.in_ok-prefixes.prefixes }))
    (subst (λ (hop : Option Addr). prefixes_at hop c.args.words.now.end c.args.words.now.left
    (Gives c.in_ok-prefixes.prefixes c.prefixes_at.new.words.left)) c.hop_before.ensures
    c.in_ok-prefixes.ensures.read)
    refl
