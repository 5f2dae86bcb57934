use Rattle.std.proofs.Common.{Ok, true, refl}
use Rattle.config_reader.specs.Neighbors.{words_passed}
use Rattle.config_reader.specs.Rules.{saying}
use Rattle.config_reader.proofs.RuleLemmas.{goes}
use Rattle.config_reader.proofs.statements.description.Goals as goal

pub returns-clause-read : goal.returns-clause-read
returns-clause-read c =
    goes words_passed (λ passed. saying (record c.args.written { description = true })) c.args.words.now.end
    c.args.words.now.left c.words_passed.new.words.left c.words_passed.new.words.left c.in_ok-words_passed.field-0
    (Ok (record c.args.written { description = true })) c.in_ok-words_passed.ensures.read refl
