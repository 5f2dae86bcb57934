use Rattle.text_forms.specs.Numbers.{IsAsn}
use Rattle.command_grammar.proofs.SampleLemmas.{asn_sample}
use Rattle.command_grammar.proofs.TokenLemmas.{word_missing, word_unlike, word_passed}
use Rattle.command_grammar.proofs.words.asn_at.Goals as goal

pub returns-in_default-clause-read : goal.returns-in_default-clause-read
returns-in_default-clause-read c =
    word_missing IsAsn c.args.words.now.left c.args.words.now.end c.bad_token.result c.bad_token.ensures asn_sample
    c.in_default.ensures.none

pub returns-in_default-asn-clause-read : goal.returns-in_default-asn-clause-read
returns-in_default-asn-clause-read c =
    word_unlike IsAsn c.args.words.now.left c.args.words.now.end c.in-Some.word.now c.bad_token-in_default-asn.result
    c.bad_token-in_default-asn.ensures asn_sample c.in-Some.ensures.found
    c.in_default-asn.ensures.none

pub returns-clause-read : goal.returns-clause-read
returns-clause-read c =
    word_passed IsAsn c.args.words.now.left c.advance.new.self.left c.in-Some.word.now c.in-Some-asn.asn
    c.advance.ensures.left c.in-Some.ensures.found c.in-Some-asn.ensures.found
    c.in-Some-asn.ensures.only
