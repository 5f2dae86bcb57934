use Rattle.command_grammar.specs.Routes.{IsBlockOf}
use Rattle.command_grammar.proofs.SampleLemmas.{block_of_some}
use Rattle.command_grammar.proofs.TokenLemmas.{word_err, word_passed}
use Rattle.command_grammar.proofs.blocks.block_at.Goals as goal

pub returns-in_default-clause-read : goal.returns-in_default-clause-read
returns-in_default-clause-read c =
    word_err (IsBlockOf c.args.wanted) c.args.words.now.left c.args.words.now.end c.bad_token.result c.bad_token.ensures
    (block_of_some c.args.wanted) c.in_default.ensures.none

pub returns-clause-read : goal.returns-clause-read
returns-clause-read c =
    let found = c.in-Some.ensures.found in
    word_passed (IsBlockOf c.args.wanted) c.args.words.now.left c.advance.new.self.left found.0 c.in-Some.prefix
    c.advance.ensures.left found.1 found.2 found.3
