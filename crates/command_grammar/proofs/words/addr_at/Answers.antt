use Rattle.text_forms.specs.Families.{IsAddrText}
use Rattle.command_grammar.proofs.SampleLemmas.{addr_sample}
use Rattle.command_grammar.proofs.TokenLemmas.{word_missing, word_unlike, word_passed}
use Rattle.command_grammar.proofs.words.addr_at.Goals as goal

pub returns-in_default-clause-read : goal.returns-in_default-clause-read
returns-in_default-clause-read c =
    word_missing IsAddrText c.args.words.now.left c.args.words.now.end c.bad_token.result c.bad_token.ensures
    addr_sample
    c.in_default.ensures.none

pub returns-in_default-addr-clause-read : goal.returns-in_default-addr-clause-read
returns-in_default-addr-clause-read c =
    word_unlike IsAddrText c.args.words.now.left c.args.words.now.end c.in-Some.word.now
    c.bad_token-in_default-addr.result
    c.bad_token-in_default-addr.ensures addr_sample c.in-Some.ensures.found
    c.in_default-addr.ensures.none

pub returns-clause-read : goal.returns-clause-read
returns-clause-read c =
    word_passed IsAddrText c.args.words.now.left c.advance.new.self.left c.in-Some.word.now c.in-Some-addr.addr
    c.advance.ensures.left c.in-Some.ensures.found c.in-Some-addr.ensures.found
    c.in-Some-addr.ensures.only
