use Rattle.command_grammar.specs.Keywords.{IsForm}
use Rattle.command_grammar.proofs.SampleLemmas.{form_sample, form_once}
use Rattle.command_grammar.proofs.TokenLemmas.{word_missing, word_unlike, word_passed}
use Rattle.command_grammar.proofs.words.form_at.Goals as goal

pub returns-in_default-clause-read : goal.returns-in_default-clause-read
returns-in_default-clause-read c =
    word_missing IsForm c.args.words.now.left c.args.words.now.end c.bad_token.result c.bad_token.ensures form_sample
    c.in_default.ensures.none

pub returns-in_default-form_of-clause-read : goal.returns-in_default-form_of-clause-read
returns-in_default-form_of-clause-read c =
    word_unlike IsForm c.args.words.now.left c.args.words.now.end c.in-Some.word.now
    c.bad_token-in_default-form_of.result
    c.bad_token-in_default-form_of.ensures form_sample c.in-Some.ensures.found
    c.in_default-form_of.ensures.none

pub returns-clause-read : goal.returns-clause-read
returns-clause-read c =
    word_passed IsForm c.args.words.now.left c.advance.new.self.left c.in-Some.word.now c.in-Some-form_of.form
    c.advance.ensures.left c.in-Some.ensures.found c.in-Some-form_of.ensures.found
    (λ other is. form_once c.in-Some.word.now c.in-Some-form_of.form other c.in-Some-form_of.ensures.found is)
