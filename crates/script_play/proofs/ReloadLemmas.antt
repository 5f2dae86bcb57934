-- What entering a reload leaves.
use Rattle.std.proofs.Common.{ℕ, ◌≡◌, List, [], ◌∷◌, ◌++◌, ◌∙◌, ap, sym, subst, Option, Result, Ok, Err}
use Rattle.std.specs.Prelude.{IsErrAnd, OnOk}
use Rattle.answers.specs.declared.memory.NoMemory.{NoMemory}
use Rattle.config_model.specs.declared.fault.ConfigFault.{ConfigFault}
use Rattle.config_model.specs.declared.slots.Slots.{Slots}
use Rattle.config_model.specs.Sections.{Sections}
use Rattle.book_history.specs.declared.outcomes.NotRead.TheVariants as not_read
use Rattle.book_history.specs.Entries.{Entry, History}
use Rattle.book_history.specs.Entries.Entry.{ReloadRefused}
use Rattle.answer_texts.specs.Shown.{shown}
use Rattle.text_history.specs.Configured.{AreTextSlots, IsConfigAt}
use Rattle.text_history.specs.Plays.{IsReload, no_memory, read, refused}
use Rattle.script_play.specs.declared.halt.Halt.{Halt}
use Rattle.script_play.specs.declared.halt.Halt.TheVariants as halt
use Rattle.script_play.specs.declared.player.Player.{Player}
use Rattle.script_play.specs.Entering.{PutsReload, entered}
use Rattle.script_play.specs.Reloading.{IsLoaded, PutsEntry}
use Rattle.script_play.specs.Player.{PlayerStands}
use Rattle.script_play.specs.Status.{IsUnread}
use Rattle.script_play.specs.declared.status.Status.{Status}
use Rattle.script_play.specs.declared.status.Status.TheVariants as status

-- an entry was entered, and the buffer holds what is printed of it
pub puts_entry : (was now : Player) (IsOne : Entry → Type 0) (entry : Entry) {E : Type 0}
    (result : Result (Unit {0}) E) (cleared : List ℕ) → cleared ≡ [] → IsOne entry
    → ((cfg : Sections) (H : History) → PlayerStands cfg H was → PlayerStands cfg (entry ∷ H) now)
    → OnOk result (now.text.items ≡ cleared ++ shown entry) → PutsEntry IsOne was now result
puts_entry was now IsOne entry (Ok _) cleared none one stands text =
    λ cfg H is. (entry, one, stands cfg H is, text ∙ ap (λ before. before ++ shown entry) none)
puts_entry was now IsOne entry (Err _) cleared none one stands text =
    λ cfg H is. (entry, one, stands cfg H is)

module _ (content : Option (List ℕ → List ℕ)) (path : List ℕ) (was now : Player) (files files' : ℕ)
    (IsOne : Entry → Type 0) (is_reload : (entry : Entry) → IsOne entry → IsReload content path entry)
    (same : files' ≡ files) where
  -- such an entry is that of the reload
  pub puts_reload : (given : Unit {0}) → PutsEntry {E = NoMemory} IsOne was now (Ok given)
      → PutsReload content path was now files files' (Ok given)
  puts_reload given puts = (
    λ cfg H is.
        let put = puts cfg H is in record {
          entry = put.0;
          asks = is_reload put.0 put.1;
          stands = put.2;
          text = put.3;
        },
    same,
  )

  -- memory was wanting for what is printed
  pub puts_no_text : (error : NoMemory) (result : Result (Unit {0}) Halt)
      → IsErrAnd result (λ halted. halted ≡ halt.Memory) → PutsEntry {E = NoMemory} IsOne was now (Err error)
      → PutsReload content path was now files files' result
  puts_no_text error (Ok given) made puts = absurd made
  puts_no_text error (Err halted) made puts =
      subst (λ (some : Halt). PutsReload content path was now files files' (Err some)) (sym made) (
        λ cfg H stands. let put = puts cfg H stands in entered put.0 (is_reload put.0 put.1) put.2,
        same,
      )

-- the entries that a file's configuration, its first fault, and want of memory give
pub loaded_is : (content : Option (List ℕ → List ℕ)) (path : List ℕ) (slots : Slots) (new : Sections)
    → AreTextSlots slots → IsConfigAt content path slots new → (entry : Entry) → IsLoaded new entry
    → IsReload content path entry
loaded_is content path slots new are configures entry loaded =
    subst (IsReload content path) (sym loaded.1) (read slots new loaded.0 are configures)

pub refused_is : (content : Option (List ℕ → List ℕ)) (path : List ℕ) (slots : Slots) (fault : ConfigFault)
    (ends : Status) → AreTextSlots slots → ends ≡ status.ConfigRefused fault → IsUnread content path slots ends
    → (entry : Entry) → entry ≡ ReloadRefused (not_read.Refused fault) → IsReload content path entry
refused_is content path slots fault ends are why unread entry is =
    subst (IsReload content path) (sym is) (refused slots fault are (subst (IsUnread content path slots) why unread))

pub unfound_is : (content : Option (List ℕ → List ℕ)) (path : List ℕ) (entry : Entry)
    → entry ≡ ReloadRefused not_read.NoMemory → IsReload content path entry
unfound_is content path entry is = subst (IsReload content path) (sym is) no_memory

-- such ends aren't that of a file that wasn't read
pub other_than_read : (ends : Status) (fault : ConfigFault) → ends ≡ status.ConfigRefused fault
    → ends ≡ status.ConfigRead → ⊥
other_than_read ends fault is other = cc

pub memory_isnt_read : (ends : Status) → ends ≡ status.NoMemory → ends ≡ status.ConfigRead → ⊥
memory_isnt_read ends is other = cc

-- what an error is
pub ends_of : {A : Type 0} (result : Result A Status) (ends other : Status) → result ≡ Err ends → result ≡ Err other
    → ends ≡ other
ends_of result ends other was is = cc
