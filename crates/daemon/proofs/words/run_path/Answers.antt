use Rattle.std.proofs.Common.{arith, sym, ◌∙◌}
use Rattle.std.specs.Prelude.{codes}
use Rattle.daemon.proofs.WordsLemmas.{same_text, two_words}
use Rattle.daemon.proofs.words.run_path.Goals as goal

pub returns-in-len2-clause-some : goal.returns-in-len2-clause-some
returns-in-len2-clause-some c =
    two_words (λ word. word.now) c.args.words.now _ (codes "run") (omega arith)
    (same_text _ (codes "run") (sym c.eq.ensures ∙ c.if-eq.true))
