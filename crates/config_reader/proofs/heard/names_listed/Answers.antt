use Rattle.config_reader.specs.Heard.{name_heard, names_further}
use Rattle.config_reader.proofs.RuleLemmas.{goes_on}
use Rattle.config_reader.proofs.heard.names_listed.Goals as goal

pub returns-clause-read : goal.returns-clause-read
returns-clause-read c =
    goes_on (name_heard c.args.heard) names_further c.args.words.now.end c.name_heard.new.words.end
    c.args.words.now.left c.name_heard.new.words.left c.names_further.new.words.left c.in_ok-first.first
    c.names_further.result c.in_ok-first.ensures.read c.in_ok-first.ensures.end c.names_further.ensures.read
