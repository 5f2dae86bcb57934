use Rattle.config_model.specs.Sections.{Sections}
use Rattle.book_history.specs.Entries.{History}
use Rattle.script_play.specs.Loading.{IsCounted}
use Rattle.script_play.proofs.LoadingLemmas.{IsDraining}
use Rattle.script_play.proofs.loading.drain.Given as goal

-- messages were cut so far
abbrev pub invariant-cuts : goal.invariant-cuts
invariant-cuts l = (cfg : Sections) (H : History) → IsCounted cfg H l.fn.book l.fn.tally
    → IsDraining cfg H l.book l.tally
