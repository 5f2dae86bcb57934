use Rattle.std.proofs.Common.{arith}
use Rattle.command_grammar.specs.Forms.{IsCode}
use Rattle.command_grammar.proofs.SampleLemmas.{code_sample}
use Rattle.command_grammar.proofs.TokenLemmas.{word_missing, word_unlike, word_passed}
use Rattle.command_grammar.proofs.words.code_at.Goals as goal

pub returns-in_default-clause-read : goal.returns-in_default-clause-read
returns-in_default-clause-read c =
    word_missing IsCode c.args.words.now.left c.args.words.now.end c.bad_token.result c.bad_token.ensures code_sample
    c.in_default.ensures.none

pub returns-in_default-octet-clause-read : goal.returns-in_default-octet-clause-read
returns-in_default-octet-clause-read c =
    word_unlike IsCode c.args.words.now.left c.args.words.now.end c.in-Some.word.now c.bad_token-in_default-octet.result
    c.bad_token-in_default-octet.ensures code_sample c.in-Some.ensures.found
    (λ other (small, is). c.in_default-octet.ensures.none other small is)

pub returns-clause-read : goal.returns-clause-read
returns-clause-read c =
    word_passed IsCode c.args.words.now.left c.advance.new.self.left c.in-Some.word.now c.in-Some-octet.code
    c.advance.ensures.left c.in-Some.ensures.found (omega arith, c.in-Some-octet.ensures.found)
    (λ other (small, is). c.in-Some-octet.ensures.only other small is)
