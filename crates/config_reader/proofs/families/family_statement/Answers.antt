use Rattle.std.proofs.Common.{codes}
use Rattle.std.proofs.lemmas.Result.{err_from_is_err_and}
use Rattle.config_model.specs.declared.fault.ConfigKind.TheVariants.{Twice}
use Rattle.config_reader.specs.Families.{IsFamilyWord, lists, with_family}
use Rattle.config_reader.specs.Rules.{◌>>=◌, saying, sign, where_so}
use Rattle.config_reader.specs.Words.{keyword, word_or}
use Rattle.config_reader.proofs.RuleLemmas.{second_stops, third_stops}
use Rattle.config_reader.proofs.families.family_statement.Goals as goal

pub returns-in_err-word-clause-read : goal.returns-in_err-word-clause-read
returns-in_err-word-clause-read c =
    let e = err_from_is_err_and c.from_residual-in_err-word.result c.from_residual-in_err-word.ensures.1 in
    rw (e.1, e.2)
    (second_stops (word_or IsFamilyWord (λ family. where_so Twice (lists c.args.listed family)))
    (λ family. keyword (codes "unicast"))
    (λ family unicast. sign 59 >>= λ ended. saying (with_family c.args.listed family)) c.args.words.now.end
    c.family_at.new.words.end c.args.words.now.left c.family_at.new.words.left c.word.new.words.left
    c.word.new.words.left c.in_ok-family.family c.in_err-word.field-0.0 c.in_ok-family.ensures.read
    c.in_ok-family.ensures.end c.in_err-word.ensures.read)

pub returns-in_err-sign-clause-read : goal.returns-in_err-sign-clause-read
returns-in_err-sign-clause-read c =
    let e = err_from_is_err_and c.from_residual-in_err-sign.result c.from_residual-in_err-sign.ensures.1 in
    rw (e.1, e.2)
    (third_stops (word_or IsFamilyWord (λ family. where_so Twice (lists c.args.listed family)))
    (λ family. keyword (codes "unicast")) (λ family unicast. sign 59)
    (λ family unicast ended. saying (with_family c.args.listed family)) c.args.words.now.end
    c.family_at.new.words.end c.word.new.words.end c.args.words.now.left c.family_at.new.words.left
    c.word.new.words.left c.sign.new.words.left c.sign.new.words.left c.in_ok-family.family c.in_ok-word.field-0
    c.in_err-sign.field-0.0 c.in_ok-family.ensures.read c.in_ok-family.ensures.end c.in_ok-word.ensures.read
    c.in_ok-word.ensures.end c.in_err-sign.ensures.read)
