use Rattle.std.proofs.Common.{Ok, sym, ◌∙◌, refl}
use Rattle.config_reader.specs.Heard.{names_listed}
use Rattle.config_reader.specs.Rules.{is_sign, saying}
use Rattle.config_reader.proofs.RuleLemmas.{front_not, front_so}
use Rattle.config_reader.proofs.heard.names_heard.Goals as goal

pub returns-then-is_mark-clause-read : goal.returns-then-is_mark-clause-read
returns-then-is_mark-clause-read c =
    front_so (is_sign 93) (saying c.args.heard) (names_listed c.args.heard) c.args.words.now.end c.args.words.now.left
    c.args.words.now.left (Ok c.args.heard) (sym c.is_mark.ensures ∙ c.if-is_mark.true) refl

pub returns-clause-read : goal.returns-clause-read
returns-clause-read c =
    front_not (is_sign 93) (saying c.args.heard) (names_listed c.args.heard) c.args.words.now.end
    c.args.words.now.left c.names_listed.new.words.left c.names_listed.result
    (sym c.is_mark.ensures ∙ c.if-is_mark.false) c.names_listed.ensures.read
