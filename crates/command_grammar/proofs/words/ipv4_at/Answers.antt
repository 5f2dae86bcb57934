use Rattle.text_forms.specs.Addresses.{IsIpv4}
use Rattle.command_grammar.proofs.SampleLemmas.{ipv4_sample}
use Rattle.command_grammar.proofs.TokenLemmas.{word_missing, word_unlike, word_passed}
use Rattle.command_grammar.proofs.words.ipv4_at.Goals as goal

pub returns-in_default-clause-read : goal.returns-in_default-clause-read
returns-in_default-clause-read c =
    word_missing IsIpv4 c.args.words.now.left c.args.words.now.end c.bad_token.result c.bad_token.ensures ipv4_sample
    c.in_default.ensures.none

pub returns-in_default-ipv4-clause-read : goal.returns-in_default-ipv4-clause-read
returns-in_default-ipv4-clause-read c =
    word_unlike IsIpv4 c.args.words.now.left c.args.words.now.end c.in-Some.word.now c.bad_token-in_default-ipv4.result
    c.bad_token-in_default-ipv4.ensures ipv4_sample c.in-Some.ensures.found
    c.in_default-ipv4.ensures.none

pub returns-clause-read : goal.returns-clause-read
returns-clause-read c =
    word_passed IsIpv4 c.args.words.now.left c.advance.new.self.left c.in-Some.word.now c.in-Some-ipv4.number
    c.advance.ensures.left c.in-Some.ensures.found c.in-Some-ipv4.ensures.found
    c.in-Some-ipv4.ensures.only
