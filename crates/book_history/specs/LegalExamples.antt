-- Histories that are legal, where their lines say what they are read as.
use Rattle.std.specs.Prelude.{[], ◌∷◌, Ok}
use Rattle.text_forms.specs.Lines.{Line}
use Rattle.command_grammar.specs.declared.command.Command.{Command}
use Rattle.command_grammar.specs.Readings.{Says}
use Rattle.book_history.specs.declared.outcomes.Reload.TheVariants as reload
use Rattle.book_history.specs.BatchExamples.{all_sent, announced_anew}
use Rattle.book_history.specs.Entries.{History}
use Rattle.book_history.specs.Entries.Entry.{Reloaded, WentDown}
use Rattle.book_history.specs.Legal.{IsLegal}
use Rattle.book_history.specs.Refusals.{later, on_and_off, one_sent, static_lost, with_static}
use Rattle.book_history.specs.Samples.{one, first, second, bare, with_med, only_ipv4, here, last, nothing, announce}
use Rattle.book_history.specs.Samples.{withdraw, done, comes_up, begun, sent_one}

-- a line says its command
abbrev pub IsRead : (Command → Line) → Command → Type 0
IsRead line given = Says (line given) (Ok given)

-- the lines of the histories say theirs
pub record AreRead (line : Command → Line) : Type 0 where
  pub first_bare : IsRead line (announce first bare)
  pub second_bare : IsRead line (announce second bare)
  pub first_gone : IsRead line (withdraw first)
  pub old_first : IsRead line (announce first (with_med 1))
  pub old_second : IsRead line (announce second (with_med 2))
  pub new_second : IsRead line (announce second (with_med 3))

-- a route is announced anew while its old value is to be sent; the two batches are sent, and then nothing is left
abbrev pub two_batches : (Command → Line) → History
two_batches line = nothing ∷ last (here (with_med 3) (second ∷ [])) ∷ all_sent (announced_anew line)

abbrev pub TwoBatches : Type 0
TwoBatches = (line : Command → Line) → AreRead line → IsLegal one (two_batches line)

-- the histories behind which answers are refused
pub record AreLegal (line : Command → Line) : Type 0 where
  pub one_route : IsLegal one (done line (announce first bare) ∷ begun)
  pub later_value : IsLegal one (later line)
  pub withdrawn : IsLegal one (on_and_off line)
  pub new_session : IsLegal one (comes_up only_ipv4 ∷ WentDown 0 ∷ sent_one line)
  pub second_route : IsLegal one (done line (announce second bare) ∷ sent_one line)
  pub read_again : IsLegal one (Reloaded one reload.Ok ∷ sent_one line)
  pub without_static : IsLegal with_static (static_lost line)
  pub first_alone : IsLegal one (one_sent line)

abbrev pub RefusalsAreOfLegal : Type 0
RefusalsAreOfLegal = (line : Command → Line) → AreRead line → AreLegal line
