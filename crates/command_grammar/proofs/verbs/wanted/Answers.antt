use Rattle.command_grammar.specs.declared.keywords.Verb.TheVariants.{Announce, Withdraw, Flush, Clear, Show}
use Rattle.command_grammar.proofs.VerbLemmas.{by_verb}
use Rattle.command_grammar.proofs.verbs.wanted.Goals as goal

pub returns-in-Announce-clause-read : goal.returns-in-Announce-clause-read
returns-in-Announce-clause-read c =
    by_verb c.args.pick c.args.verb Announce c.args.words.now.left c.announcing.new.words.left
    c.announcing.new.words.end c.announcing.result c.in-Announce.is c.announcing.ensures.read

pub returns-in-Withdraw-clause-read : goal.returns-in-Withdraw-clause-read
returns-in-Withdraw-clause-read c =
    by_verb c.args.pick c.args.verb Withdraw c.args.words.now.left c.withdrawing.new.words.left
    c.withdrawing.new.words.end c.withdrawing.result c.in-Withdraw.is c.withdrawing.ensures.read

pub returns-in-Flush-clause-read : goal.returns-in-Flush-clause-read
returns-in-Flush-clause-read c =
    by_verb c.args.pick c.args.verb Flush c.args.words.now.left c.flushed.new.words.left
    c.flushed.new.words.end c.flushed.result c.in-Flush.is c.flushed.ensures.read

pub returns-in-Clear-clause-read : goal.returns-in-Clear-clause-read
returns-in-Clear-clause-read c =
    by_verb c.args.pick c.args.verb Clear c.args.words.now.left c.cleared.new.words.left
    c.cleared.new.words.end c.cleared.result c.in-Clear.is c.cleared.ensures.read

pub returns-in-Show-clause-read : goal.returns-in-Show-clause-read
returns-in-Show-clause-read c =
    by_verb c.args.pick c.args.verb Show c.args.words.now.left c.shown.new.words.left
    c.shown.new.words.end c.shown.result c.in-Show.is c.shown.ensures.read
