-- What the keeper's loop has left so far.
use Rattle.std.proofs.Common.{ℕ, ◌≡◌, List, [], Option, refl, subst, ◌∙◌}
use Rattle.outside.specs.Lent.{LendsNone}
use Rattle.config_model.specs.declared.slots.Slots.{Slots}
use Rattle.book_history.specs.Entries.{Entry}
use Rattle.book_history.specs.Entries.Entry.{ControlAsked}
use Rattle.book_history.specs.declared.outcomes.Control.TheVariants as control
use Rattle.book_gate.specs.Calls.{Enters}
use Rattle.book_gate.specs.Known.{Known}
use Rattle.control_worker.specs.Rounds.{Keeps, Reloads, due_told}
use Rattle.control_worker.proofs.LentLemmas.{lent_on, lent_same}
use Rattle.control_worker.proofs.RoundLemmas.{keeps_idle, keeps_none, keeps_reload}

module _ {A : Type 0} where
  -- rounds were made, and the files tell and lend as before
  pub record Kept (told told' : Option (List ℕ → List ℕ)) (path : List ℕ) (slots : Slots)
      (pass later : Known A Entry) (faults faults' : ℕ) (lent lent' : Option ℕ) : Type 0 where
    pub keeps : Keeps told path slots pass faults [] faults' later
    pub content : told' ≡ told
    pub back : LendsNone lent lent'

  pub kept_none : (content : Option (List ℕ → List ℕ)) (path : List ℕ) (slots : Slots) (pass : Known A Entry)
      (faults : ℕ) (lent : Option ℕ) → Kept content content path slots pass pass faults faults lent lent
  kept_none content path slots pass faults lent =
      record { keeps = keeps_none content path slots pass faults; content = refl; back = lent_same lent }

  pub kept_idle : (law : A → List Entry → Entry → Type 0) (content content' : Option (List ℕ → List ℕ)) (path : List ℕ)
      (slots : Slots) (pass between later : Known A Entry) (faults faults' : ℕ) (lent lent' : Option ℕ)
      → Kept content content' path slots pass between faults faults' lent lent'
      → Enters law between (ControlAsked control.Nothing) later
      → Kept content content' path slots pass later faults faults' lent lent'
  kept_idle law content content' path slots pass between later faults faults' lent lent' kept entered =
      record {
        keeps = keeps_idle content path slots law pass between later faults faults' kept.keeps entered;
        content = kept.content;
        back = kept.back;
      }

  pub kept_reload : (law : A → List Entry → Entry → Type 0)
      (content mid_content content' : Option (List ℕ → List ℕ)) (path : List ℕ) (slots : Slots)
      (pass between asked later : Known A Entry) (faults mid faults' : ℕ) (lent mid_lent lent' : Option ℕ)
      → Kept content mid_content path slots pass between faults mid lent mid_lent
      → Enters law between due_told asked → Reloads mid_content path slots asked mid faults' later
      → content' ≡ mid_content → LendsNone mid_lent lent'
      → Kept content content' path slots pass later faults faults' lent lent'
  kept_reload law content mid_content content' path slots pass between asked later faults mid faults' lent
      mid_lent lent' kept entered reloads same back =
      record {
        keeps =
            keeps_reload content path slots law pass between asked later faults mid faults' kept.keeps entered
            (subst (λ (told : Option (List ℕ → List ℕ)). Reloads told path slots asked mid faults' later) kept.content
            reloads);
        content = same ∙ kept.content;
        back = lent_on lent mid_lent lent' kept.back back;
      }
