use Rattle.config_model.specs.Sections.{Sections}
use Rattle.book_history.specs.Bounds.{numbers_from}
use Rattle.book_history.specs.Entries.{History}
use Rattle.text_history.specs.Adding.{Adding}
use Rattle.script_play.specs.Loads.{AddsAnnounce}
use Rattle.script_play.specs.Loading.{EnteredAll, IsCounted}
use Rattle.script_play.proofs.loading.announce_all.Given as goal

-- the lines so far were entered
abbrev pub invariant-routes : goal.invariant-routes
invariant-routes l = (cfg : Sections) (H : History) → IsCounted cfg H l.fn.book l.fn.tally
    → EnteredAll (λ was now. Adding AddsAnnounce was (numbers_from 0 l.i) now) cfg H l.book l.tally
