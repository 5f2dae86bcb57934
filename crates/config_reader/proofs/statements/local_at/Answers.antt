use Rattle.std.proofs.Common.{not}
use Rattle.std.proofs.lemmas.Result.{err_from_is_err_and}
use Rattle.config_model.specs.declared.fault.ConfigKind.TheVariants as kind
use Rattle.config_reader.specs.Neighbors.{same_family}
use Rattle.config_reader.specs.Rules.{saying, sign, where_so, ◌>>=◌}
use Rattle.config_reader.specs.Words.{word_or}
use Rattle.text_forms.specs.Families.{IsAddrText}
use Rattle.config_reader.proofs.RuleLemmas.{second_stops}
use Rattle.config_reader.proofs.statements.local_at.Goals as goal

pub returns-in_err-sign-clause-read : goal.returns-in_err-sign-clause-read
returns-in_err-sign-clause-read c =
    let e = err_from_is_err_and c.from_residual-in_err-sign.result c.from_residual-in_err-sign.ensures.1 in
    rw (e.1, e.2)
    (second_stops (word_or IsAddrText (λ local. where_so kind.Family (not (same_family local c.args.peer))))
    (λ local. sign 59) (λ local ended. saying local) c.args.words.now.end c.addr_like.new.words.end
    c.args.words.now.left c.addr_like.new.words.left c.sign.new.words.left c.sign.new.words.left
    c.in_ok-local.local c.in_err-sign.field-0.0 c.in_ok-local.ensures.read c.in_ok-local.ensures.end
    c.in_err-sign.ensures.read)
