use Rattle.text_forms.specs.Families.{IsBlockText}
use Rattle.command_grammar.proofs.SampleLemmas.{block_sample}
use Rattle.command_grammar.proofs.TokenLemmas.{word_missing, word_unlike, word_passed}
use Rattle.command_grammar.proofs.words.prefix_at.Goals as goal

pub returns-in_default-clause-read : goal.returns-in_default-clause-read
returns-in_default-clause-read c =
    word_missing IsBlockText c.args.words.now.left c.args.words.now.end c.bad_token.result c.bad_token.ensures
    block_sample
    c.in_default.ensures.none

pub returns-in_default-prefix-clause-read : goal.returns-in_default-prefix-clause-read
returns-in_default-prefix-clause-read c =
    word_unlike IsBlockText c.args.words.now.left c.args.words.now.end c.in-Some.word.now
    c.bad_token-in_default-prefix.result
    c.bad_token-in_default-prefix.ensures block_sample c.in-Some.ensures.found
    c.in_default-prefix.ensures.none

pub returns-clause-read : goal.returns-clause-read
returns-clause-read c =
    word_passed IsBlockText c.args.words.now.left c.advance.new.self.left c.in-Some.word.now c.in-Some-prefix.prefix
    c.advance.ensures.left c.in-Some.ensures.found c.in-Some-prefix.ensures.found
    c.in-Some-prefix.ensures.only
