use Rattle.std.proofs.Common.{codes}
use Rattle.std.proofs.lemmas.Result.{err_from_is_err_and}
use Rattle.config_reader.specs.Heard.{section_name}
use Rattle.config_reader.specs.Rules.{sign, ◌>>=◌}
use Rattle.config_reader.specs.Words.{keyword}
use Rattle.config_reader.proofs.RuleLemmas.{goes_on, second_stops, third_stops}
use Rattle.config_reader.proofs.heard.heard_opened.Goals as goal

pub returns-in_err-sign-clause-read : goal.returns-in_err-sign-clause-read
returns-in_err-sign-clause-read c =
    let e = err_from_is_err_and c.from_residual-in_err-sign.result c.from_residual-in_err-sign.ensures.1 in
    rw (e.1, e.2)
    (second_stops section_name (λ named. sign 123) (λ named opened. keyword (codes "processes") >>= λ first. sign 91)
    c.args.words.now.end c.section_name.new.words.end c.args.words.now.left c.section_name.new.words.left
    c.sign.new.words.left c.sign.new.words.left c.in_ok-section_name.field-0 c.in_err-sign.field-0.0
    c.in_ok-section_name.ensures.read c.in_ok-section_name.ensures.end c.in_err-sign.ensures.read)

pub returns-in_err-word-clause-read : goal.returns-in_err-word-clause-read
returns-in_err-word-clause-read c =
    let e = err_from_is_err_and c.from_residual-in_err-word.result c.from_residual-in_err-word.ensures.1 in
    rw (e.1, e.2)
    (third_stops section_name (λ named. sign 123) (λ named opened. keyword (codes "processes"))
    (λ named opened first. sign 91) c.args.words.now.end c.section_name.new.words.end c.sign.new.words.end
    c.args.words.now.left c.section_name.new.words.left c.sign.new.words.left c.word.new.words.left
    c.word.new.words.left c.in_ok-section_name.field-0 c.in_ok-sign.field-0 c.in_err-word.field-0.0
    c.in_ok-section_name.ensures.read c.in_ok-section_name.ensures.end c.in_ok-sign.ensures.read
    c.in_ok-sign.ensures.end c.in_err-word.ensures.read)

pub returns-clause-read : goal.returns-clause-read
returns-clause-read c =
    goes_on section_name (λ named. sign 123 >>= λ opened. keyword (codes "processes") >>= λ first. sign 91)
    c.args.words.now.end c.section_name.new.words.end c.args.words.now.left c.section_name.new.words.left
    c.sign-2.new.words.left c.in_ok-section_name.field-0 c.sign-2.result c.in_ok-section_name.ensures.read
    c.in_ok-section_name.ensures.end
    (goes_on (sign 123) (λ opened. keyword (codes "processes") >>= λ first. sign 91) c.section_name.new.words.end
    c.sign.new.words.end c.section_name.new.words.left c.sign.new.words.left c.sign-2.new.words.left
    c.in_ok-sign.field-0 c.sign-2.result c.in_ok-sign.ensures.read c.in_ok-sign.ensures.end
    (goes_on (keyword (codes "processes")) (λ first. sign 91) c.sign.new.words.end c.word.new.words.end
    c.sign.new.words.left c.word.new.words.left c.sign-2.new.words.left c.in_ok-word.field-0 c.sign-2.result
    c.in_ok-word.ensures.read c.in_ok-word.ensures.end c.sign-2.ensures.read))
