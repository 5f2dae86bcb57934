-- What making and writing one message of a slot leaves.
use Rattle.std.specs.Prelude.{ℕ, ◌≡◌, List, ◌∷◌, ◌++◌, Result, Ok, Err}
use Rattle.outside.specs.Seen.{SinkSeen}
use Rattle.outside.specs.Told.{Grows}
use Rattle.config_model.specs.Sections.{Sections}
use Rattle.book_history.specs.declared.outcomes.Cut.{Cut as Cutting}
use Rattle.book_history.specs.Entries.{History}
use Rattle.book_history.specs.Entries.Entry.{MessageCut}
use Rattle.book_history.specs.Legal.{IsLegal}
use Rattle.answer_texts.specs.Shown.{shown}
use Rattle.script_play.specs.declared.halt.Halt.{Halt}
use Rattle.script_play.specs.declared.player.Player.{Player}
use Rattle.script_play.specs.Player.{PlayerStands}
use Rattle.script_play.specs.Writing.{Stops}

-- a cut was made, and what is printed of it was written
pub record CutWritten (cfg : Sections) (H : History) (n : ℕ) (given : Cutting) (player : Player) (sink sink' : SinkSeen)
    : Type 0 where
  pub bytes : List ℕ
  pub stands : PlayerStands cfg (MessageCut n bytes given ∷ H) player
  pub taken : Grows sink.taken sink'.taken (shown (MessageCut n bytes given))
  pub same : sink'.faults ≡ sink.faults

-- a cut was made, and a front part of what is printed of it was written
pub record CutBroken (cfg : Sections) (H : History) (n : ℕ) (sink sink' : SinkSeen) : Type 0 where
  pub bytes : List ℕ
  pub given : Cutting
  pub legal : IsLegal cfg (MessageCut n bytes given ∷ H)
  pub part : List ℕ
  pub rest : List ℕ
  pub text_is : shown (MessageCut n bytes given) ≡ part ++ rest
  pub taken : Grows sink.taken sink'.taken part

-- what a call leaves that makes a cut and writes what is printed of it
abbrev pub WritesCut : Sections → History → ℕ → Player → ℕ → SinkSeen → SinkSeen → Result Cutting Halt → Type 0
WritesCut cfg H n player files sink sink' (Ok given) = CutWritten cfg H n given player sink sink'
WritesCut cfg H n player files sink sink' (Err halted) =
    CutBroken cfg H n sink sink' × Stops files files sink sink' halted
