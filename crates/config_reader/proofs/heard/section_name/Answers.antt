use Rattle.std.proofs.Common.{Ok, Err, sym, ◌∙◌, refl}
use Rattle.std.proofs.lemmas.Result.{err_from_is_err_and}
use Rattle.config_reader.specs.Rules.{is_sign, saying, ◌>>=◌}
use Rattle.config_reader.specs.Words.{word, IsName}
use Rattle.config_reader.proofs.RuleLemmas.{front_not, front_so, goes, stops}
use Rattle.config_reader.proofs.heard.section_name.Goals as goal

pub returns-then-is_mark-clause-read : goal.returns-then-is_mark-clause-read
returns-then-is_mark-clause-read c =
    front_so (is_sign 123) (saying (tt {0})) (word IsName >>= λ name. saying (tt {0})) c.args.words.now.end
    c.args.words.now.left c.args.words.now.left (Ok tt) (sym c.is_mark.ensures ∙ c.if-is_mark.true) refl

pub returns-in_err-word-clause-read : goal.returns-in_err-word-clause-read
returns-in_err-word-clause-read c =
    let e = err_from_is_err_and c.from_residual.result c.from_residual.ensures.1 in
    rw (e.1, e.2)
    (front_not (is_sign 123) (saying (tt {0})) (word IsName >>= λ name. saying (tt {0})) c.args.words.now.end
    c.args.words.now.left c.word.new.words.left (Err c.in_err-word.field-0.0)
    (sym c.is_mark.ensures ∙ c.if-is_mark.false)
    (stops (word IsName) (λ name. saying (tt {0})) c.args.words.now.end c.args.words.now.left c.word.new.words.left
    c.word.new.words.left c.in_err-word.field-0.0 c.in_err-word.ensures.read))

pub returns-clause-read : goal.returns-clause-read
returns-clause-read c =
    front_not (is_sign 123) (saying (tt {0})) (word IsName >>= λ name. saying (tt {0})) c.args.words.now.end
    c.args.words.now.left c.word.new.words.left (Ok tt) (sym c.is_mark.ensures ∙ c.if-is_mark.false)
    (goes (word IsName) (λ name. saying (tt {0})) c.args.words.now.end c.args.words.now.left c.word.new.words.left
    c.word.new.words.left c.in_ok-word.field-0 (Ok tt) c.in_ok-word.ensures.read refl)
