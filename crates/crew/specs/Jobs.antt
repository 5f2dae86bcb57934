-- What contracts see of a worker: its kind, its slot, its devices and its pass.
use Rattle.std.specs.Prelude.{ℕ, List}
use Rattle.config_model.specs.Sections.{Sections}
use Rattle.config_model.specs.declared.slots.Slots.{Slots}
use Rattle.book_gate.specs.Known.{Known}
use Rattle.book_history.specs.Entries.{Entry}

-- a reader by its slot, spawner, clock and pass; a replier by its slot, the last incarnation and its pass; a talker by
-- its slot, dialer, ear and pass; a keeper by its files, its path, the slots that it reads for, and its pass
pub data Job (F S D E C : Type 0) : Type 0 where
  Reads : ℕ → S → C → Known Sections Entry → Job F S D E C
  Replies : ℕ → ℕ → Known Sections Entry → Job F S D E C
  Talks : ℕ → D → E → Known Sections Entry → Job F S D E C
  Keeps : F → List ℕ → Slots → Known Sections Entry → Job F S D E C
