use Rattle.std.proofs.Common.{sym, ◌∙◌}
use Rattle.config_reader.specs.Heard.{comma_heard, name_heard}
use Rattle.config_reader.specs.Rules.{is_sign}
use Rattle.config_reader.proofs.RuleLemmas.{front_not, front_so}
use Rattle.config_reader.proofs.heard.further_heard.Goals as goal

pub returns-then-is_mark-clause-read : goal.returns-then-is_mark-clause-read
returns-then-is_mark-clause-read c =
    front_so (is_sign 44) (comma_heard c.args.heard) (name_heard c.args.heard) c.args.words.now.end
    c.args.words.now.left c.comma_heard.new.words.left c.comma_heard.result
    (sym c.is_mark.ensures ∙ c.if-is_mark.true) c.comma_heard.ensures.read

pub returns-clause-read : goal.returns-clause-read
returns-clause-read c =
    front_not (is_sign 44) (comma_heard c.args.heard) (name_heard c.args.heard) c.args.words.now.end
    c.args.words.now.left c.name_heard.new.words.left c.name_heard.result
    (sym c.is_mark.ensures ∙ c.if-is_mark.false) c.name_heard.ensures.read
