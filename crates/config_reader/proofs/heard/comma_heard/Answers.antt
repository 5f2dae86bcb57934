use Rattle.config_reader.specs.Heard.{name_heard}
use Rattle.config_reader.specs.Rules.{sign}
use Rattle.config_reader.proofs.RuleLemmas.{goes_on}
use Rattle.config_reader.proofs.heard.comma_heard.Goals as goal

pub returns-clause-read : goal.returns-clause-read
returns-clause-read c =
    goes_on (sign 44) (λ comma. name_heard c.args.heard) c.args.words.now.end c.sign.new.words.end
    c.args.words.now.left c.sign.new.words.left c.name_heard.new.words.left c.in_ok-sign.field-0 c.name_heard.result
    c.in_ok-sign.ensures.read c.in_ok-sign.ensures.end c.name_heard.ensures.read
