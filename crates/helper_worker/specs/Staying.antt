-- What is told of a sink stays told.
use Rattle.std.specs.Prelude.{ℕ, ◌≡◌, List}
use Rattle.std.specs.List.{All, flat_map}
use Rattle.std.specs.declared.option.Option.{Option}
use mathlib.Core.List.{IsPrefix}
use Rattle.book_history.specs.Entries.{Entry}
use Rattle.book_gate.specs.declared.view.Signed.{Signed}
use Rattle.helper_worker.specs.Handing.{IsAnswered, under}
use Rattle.helper_worker.specs.Serving.{IsServed, Rises, Served, entries_in}

-- where a replier's entries are those of incarnations, each behind those before it, what a front of the history tells
-- of a sink the whole tells too
abbrev pub AnswersStay : Type 0
AnswersStay =
    (writer : List ℕ) (h inc last last' : ℕ) (taken : Option (List ℕ)) (faults : ℕ) (rounds : List Served)
    (before seen : List (Signed Entry)) → All (IsServed h) rounds → Rises last rounds last'
    → under writer seen ≡ flat_map entries_in rounds → IsPrefix before seen
    → IsAnswered writer h inc taken faults before → IsAnswered writer h inc taken faults seen
