use Rattle.command_grammar.specs.Keywords.{IsVerb}
use Rattle.command_grammar.proofs.SampleLemmas.{verb_sample, verb_once}
use Rattle.command_grammar.proofs.TokenLemmas.{word_missing, word_unlike, word_passed}
use Rattle.command_grammar.proofs.words.verb_at.Goals as goal

pub returns-in_default-clause-read : goal.returns-in_default-clause-read
returns-in_default-clause-read c =
    word_missing IsVerb c.args.words.now.left c.args.words.now.end c.bad_token.result c.bad_token.ensures verb_sample
    c.in_default.ensures.none

pub returns-in_default-verb_of-clause-read : goal.returns-in_default-verb_of-clause-read
returns-in_default-verb_of-clause-read c =
    word_unlike IsVerb c.args.words.now.left c.args.words.now.end c.in-Some.word.now
    c.bad_token-in_default-verb_of.result
    c.bad_token-in_default-verb_of.ensures verb_sample c.in-Some.ensures.found
    c.in_default-verb_of.ensures.none

pub returns-clause-read : goal.returns-clause-read
returns-clause-read c =
    word_passed IsVerb c.args.words.now.left c.advance.new.self.left c.in-Some.word.now c.in-Some-verb_of.verb
    c.advance.ensures.left c.in-Some.ensures.found c.in-Some-verb_of.ensures.found
    (λ other is. verb_once c.in-Some.word.now c.in-Some-verb_of.verb other c.in-Some-verb_of.ensures.found is)
