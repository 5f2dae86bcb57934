-- All that a helper writes.
use Rattle.std.specs.Prelude.{ℕ, ◌≡◌, ◌⊎◌, ◌<◌, Bool, true, false, List}
use Rattle.std.specs.declared.option.Option.{Option}
use mathlib.Core.List.{IsPrefix}
use Rattle.text_forms.specs.Lines.{Line, lines}
use Rattle.outside.specs.Told.{Grows}
use Rattle.book_history.specs.Entries.{Entry}
use Rattle.book_gate.specs.Known.{Known}
use Rattle.helper_worker.specs.Lines.{EntersLines}

-- which lines of bytes were asked for, and why no more was read: the last came too late, or the source ended or failed
pub record IsHeard (bytes : List ℕ) (texts : List Line) (late ended : Bool) (faults : ℕ) : Type 0 where
  pub front : IsPrefix texts (lines bytes)
  pub whole : late ≡ false → texts ≡ lines bytes
  pub why : (late ≡ true) ⊎ ((ended ≡ true) ⊎ (0 < faults))

module _ {A : Type 0} where
  -- a pass entered the lines of what a source gave
  pub record Hears (pass : Known A Entry) (h inc : ℕ) (given given' : Option (List ℕ)) (ended : Bool) (faults : ℕ)
      (later : Known A Entry) : Type 0 where
    pub bytes : List ℕ
    pub grows : Grows given given' bytes
    pub texts : List Line
    pub late : Bool
    pub enters : EntersLines pass h inc texts late later
    pub heard : IsHeard bytes texts late ended faults
