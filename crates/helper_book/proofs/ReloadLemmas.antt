-- A slot's process at the opening and at a reload.
use Rattle.std.proofs.Common.{◌≡◌, ℕ, Bool, true, false, not, List, []}
use Rattle.std.proofs.Common.{◌∷◌, length, Some, None, refl, sym}
use Rattle.std.proofs.Common.{ap, ◌∙◌, subst, arith}
use Rattle.std.specs.Prelude.{◌==◌, ◌&&◌, if◌then◌else◌, drop, is_some, IfSome, Option}
use Rattle.config_model.specs.declared.sections.Process.{Process}
use Rattle.config_model.specs.Sections.{Sections}
use Rattle.respawn_window.specs.Starts.{Remembers}
use Rattle.helper_core.specs.Helper.{Helper as Slot, new_slot}
use Rattle.book_history.specs.declared.outcomes.Reload.TheVariants as reload
use Rattle.book_history.specs.Entries.{History}
use Rattle.book_history.specs.Entries.Entry.{Reloaded}
use Rattle.book_history.specs.Helpers.{child, is_given_up, is_running, last_inc, leaves, starts, stays}
use Rattle.book_history.specs.Helpers.Child.{NoChild}
use Rattle.book_history.specs.Replies.{has_queue, replies, taken}
use Rattle.book_history.specs.Slots.{process_at}
use Rattle.helper_book.specs.Seen.{Seen, child_in, has_process, was_given_up}
use Rattle.helper_book.specs.Stands.{Stands}
use Rattle.helper_book.specs.Told.{settled}
use Rattle.helper_book.proofs.ApartLemmas.{reloads_leave, stays_is, stays_self}

-- what a slot is that is given a process, or none
record IsSettled (process : Option Process) (old new : Slot) : Type 0 where
  pub present : has_process new.state ≡ is_some process
  pub childless : child_in new.state ≡ NoChild
  pub wanted : was_given_up new.state ≡ false
  pub respawn : IfSome process (λ (one : Process). new.respawn ≡ one.respawn)
  pub count : new.count ≡ old.count
  pub fresh : new.started ≡ false
  pub silent : new.replies ≡ []
  pub unstarted : new.starts ≡ []

is_settled : (process : Option Process) (old : Slot) → IsSettled process old (settled process old)
is_settled None old = record {
  present = refl;
  childless = refl;
  wanted = refl;
  respawn = tt;
  count = refl;
  fresh = refl;
  silent = refl;
  unstarted = refl;
}
is_settled (Some process) old = record {
  present = refl;
  childless = refl;
  wanted = refl;
  respawn = refl;
  count = refl;
  fresh = refl;
  silent = refl;
  unstarted = refl;
}

pub opened_stands : (cfg : Sections) (h : ℕ) (process : Option Process) (slot : Slot) → slot ≡ settled process new_slot
    → Remembers [] slot.starts → process ≡ process_at cfg [] h
    → Stands cfg [] h (record { slot = slot; process = process; acks = true })
opened_stands cfg h process slot slot_is kept section =
    let new = subst (λ s. IsSettled process new_slot s) (sym slot_is) (is_settled process new_slot) in
    record {
      process = record {
        section = section;
        present = new.present ∙ ap is_some section;
        own_child = new.childless;
        given_up = new.wanted;
        respawn = subst (λ (p : Option Process). IfSome p (λ (one : Process). slot.respawn ≡ one.respawn)) section
            new.respawn;
      };
      starts = record {
        count = new.count;
        last = refl;
        few = omega arith;
        started = new.fresh;
        window = kept;
      };
      replies = record {
        waiting = new.silent;
        on = refl;
        taken_few = omega arith;
        nobody = refl;
        running = λ inc runs. absurd (let never : false ≡ true = runs in cc);
        unborn = λ inc later. record { silent = refl; untaken = refl; replied = refl };
      };
    }

-- a reload that changes the slot's process
pub changed_stands : (cfg new : Sections) (H : History) (h : ℕ) (helper : Seen) (process : Option Process) (slot : Slot)
    → slot ≡ settled process helper.slot → Remembers [] slot.starts
    → process ≡ process_at cfg (Reloaded new reload.Ok ∷ H) h → leaves cfg H new h ≡ false → Stands cfg H h helper
    → Stands cfg (Reloaded new reload.Ok ∷ H) h (record { slot = slot; process = process; acks = helper.acks })
changed_stands cfg new H h helper process slot slot_is kept section apart is =
    let K = Reloaded new reload.Ok ∷ H in
    let last = last_inc h H in
    let now = subst (λ s. IsSettled process helper.slot s) (sym slot_is) (is_settled process helper.slot) in
    let no_child : child cfg h K ≡ NoChild = ap (λ so. if so then child cfg h H else NoChild) apart in
    let none : starts cfg h K ≡ [] = ap (λ (so : Bool). if so then starts cfg h H else []) apart in
    record {
      process = record {
        section = section;
        present = now.present ∙ ap is_some section;
        own_child = now.childless ∙ sym no_child;
        given_up = now.wanted ∙ sym (ap (λ so. so && is_given_up cfg h H) apart);
        respawn = subst (λ (p : Option Process). IfSome p (λ (one : Process). slot.respawn ≡ one.respawn)) section
            now.respawn;
      };
      starts = record {
        count = now.count ∙ is.starts.count;
        last = is.starts.last;
        few = is.starts.few;
        started = now.fresh ∙ sym (ap (λ (moments : List ℕ). not (length moments == 0)) none);
        window = subst (λ (moments : List ℕ). Remembers moments slot.starts) (sym none) kept;
      };
      replies = record {
        waiting = now.silent
            ∙ sym (ap (λ so. if so && has_queue cfg h last H then drop (length (taken h last H)) (replies cfg h last H)
            else []) apart);
        on = is.replies.on;
        taken_few = is.replies.taken_few;
        nobody = ap (λ so. so && has_queue cfg h 0 H) apart;
        running = λ inc runs.
            absurd (let never : false ≡ true = sym (ap (λ c. is_running c inc) no_child) ∙ runs in cc);
        unborn = λ inc later.
            let was = is.replies.unborn inc later in
            record { silent = was.silent; untaken = was.untaken; replied = was.replied };
      };
    }

-- whether a reload leaves the process, by whether the sections are the same
leaves_by : (old new : Option Process) → (new ≡ old → ⊥) → stays old new ≡ false
leaves_by old new other =
    elim (stays old new) as (λ b. stays old new ≡ b → b ≡ false) [
      | true ↦ λ e. absurd (other (stays_is old new e))
      | false ↦ λ e. refl
    ] refl

pub reload_changes : (cfg new : Sections) (H : History) (h : ℕ) (helper : Seen) (process : Option Process) (slot : Slot)
    → (helper.process ≡ process → ⊥) → slot ≡ settled process helper.slot → Remembers [] slot.starts
    → Stands cfg H h helper → process ≡ process_at cfg (Reloaded new reload.Ok ∷ H) h
    → Stands cfg (Reloaded new reload.Ok ∷ H) h (record { slot = slot; process = process; acks = helper.acks })
reload_changes cfg new H h helper process slot other slot_is kept is section =
    changed_stands cfg new H h helper process slot slot_is kept section
    (leaves_by (process_at cfg H h) (process_at cfg (Reloaded new reload.Ok ∷ H) h)
    (λ same. other (is.process.section ∙ sym same ∙ sym section))) is

pub reload_keeps : (cfg new : Sections) (H : History) (h : ℕ) (helper : Seen) (process : Option Process)
    → helper.process ≡ process → Stands cfg H h helper → process ≡ process_at cfg (Reloaded new reload.Ok ∷ H) h
    → Stands cfg (Reloaded new reload.Ok ∷ H) h helper
reload_keeps cfg new H h helper process same is section =
    reloads_leave cfg new H h helper
    (subst (λ p. stays (process_at cfg H h) p ≡ true) (sym is.process.section ∙ same ∙ section)
    (stays_self (process_at cfg H h))) is
