use Rattle.std.proofs.Common.{sym, subst}
use Rattle.route_grammar.specs.Limits.{in_force}
use Rattle.route_grammar.specs.Productions.{OneWord, nothing_further}
use Rattle.route_grammar.specs.Answered.{Reads}
use Rattle.route_grammar.proofs.WordLemmas.{bad_answers, word_reads, word_faults}
use Rattle.route_grammar.proofs.words.read_word.Goals as goal

pub returns-in_default-clause-answers : goal.returns-in_default-clause-answers
returns-in_default-clause-answers g c =
    bad_answers (OneWord (g.S.Spelling.spells c.args.spelling.now)) nothing_further in_force
    (g.W.Words.left c.args.words.now) (g.W.Words.left c.args.words.now) (g.W.Words.end c.args.words.now)
    c.bad_token.result c.bad_token.ensures
    (word_faults (g.S.Spelling.spells c.args.spelling.now) in_force (g.W.Words.left c.args.words.now)
    (g.met.S.Spelling.is_some c.args.spelling.now) c.in_default.ensures.none)

pub returns-clause-answers : goal.returns-clause-answers
returns-clause-answers g c =
    subst (λ left. Reads (OneWord (g.S.Spelling.spells c.args.spelling.now)) nothing_further in_force
    (g.W.Words.left c.args.words.now) left c.in-Some.value) (sym c.advance.ensures.left)
    (word_reads (g.S.Spelling.spells c.args.spelling.now) in_force (g.W.Words.left c.args.words.now)
    c.in-Some.ensures.found.0 c.in-Some.value c.in-Some.ensures.found.1 c.in-Some.ensures.found.2
    c.in-Some.ensures.found.3)
