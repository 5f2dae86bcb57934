-- An incarnation that is gone, or that no longer reads.
use Rattle.std.proofs.Common.{◌≡◌, ℕ, Bool, true, false, not, List, [], ◌∷◌, length, refl, sym, ap, ◌∙◌, subst}
use Rattle.std.proofs.Common.{eq-eqb, eqb-true}
use Rattle.std.specs.Prelude.{◌==◌, ◌&&◌, if◌then◌else◌, drop}
use Rattle.ack_queue.specs.declared.reply.Reply.{Reply}
use Rattle.config_model.specs.Sections.{Sections}
use Rattle.helper_core.specs.Helper.{Helper as Slot}
use Rattle.helper_core.specs.Incarnations as of_slot
use Rattle.book_history.specs.Entries.{History}
use Rattle.book_history.specs.Entries.Entry.{HelperDeaf, HelperGone}
use Rattle.book_history.specs.Helpers.{child, deafened, is_running, last_inc, without}
use Rattle.book_history.specs.Replies.{has_queue, is_of, replies, taken}
use Rattle.helper_book.specs.Seen.{Seen}
use Rattle.helper_book.specs.Stands.{Stands}
use Rattle.helper_book.proofs.StateLemmas.{child_deaf, child_gone, deafened_runs, given_up_deaf, given_up_gone}
use Rattle.helper_book.proofs.StateLemmas.{process_deaf, process_gone, without_runs}

-- a helper with another slot
abbrev pub with_slot : Seen → Slot → Seen
with_slot helper slot = record { slot = slot; process = helper.process; acks = helper.acks }

pub gone_stands : (cfg : Sections) (H : History) (h inc : ℕ) (helper : Seen) → Stands cfg H h helper
    → Stands cfg (HelperGone h inc ∷ H) h (with_slot helper (of_slot.ended inc helper.slot))
gone_stands cfg H h inc helper is =
    let state = helper.slot.state in
    let now : child cfg h (HelperGone h inc ∷ H) ≡ without inc (child cfg h H) =
    ap (λ so. if so then without inc (child cfg h H) else child cfg h H) (eq-eqb h h refl) in
    record {
      process = record {
        section = is.process.section;
        present = process_gone inc state ∙ is.process.present;
        own_child = child_gone inc state ∙ ap (without inc) is.process.own_child ∙ sym now;
        given_up = given_up_gone inc state ∙ is.process.given_up;
        respawn = is.process.respawn;
      };
      starts = record {
        count = is.starts.count;
        last = is.starts.last;
        few = is.starts.few;
        started = is.starts.started;
        window = is.starts.window;
      };
      replies = record {
        waiting = is.replies.waiting;
        on = is.replies.on;
        taken_few = is.replies.taken_few;
        nobody = is.replies.nobody;
        running = λ i runs.
            let was = is.replies.running i (without_runs inc i (child cfg h H)
            (sym (ap (λ c. is_running c i) now) ∙ runs)) in
            record { last = was.last; queue = was.queue };
        unborn = λ i later.
            let was = is.replies.unborn i later in
            record { silent = was.silent; untaken = was.untaken; replied = was.replied };
      };
    }

-- Where an incarnation turns deaf, the last one's queue is empty if it is that one. None waits where none was started.
emptied : (count inc : ℕ) (was : Bool) (waiting rest : List Reply) → waiting ≡ (if was then rest else [])
    → (count ≡ 0 → was ≡ false)
    → (if not (inc == 0) && inc == count then [] else waiting)
    ≡ (if (if inc == count then false else was) then rest else [])
emptied count inc was waiting rest is none =
    elim (inc == count) as (λ b. (inc == count) ≡ b → (if not (inc == 0) && b then [] else waiting)
    ≡ (if (if b then false else was) then rest else [])) [
      | true ↦ λ e. first (inc == 0) refl (eqb-true inc count e)
      | false ↦ λ e. other (not (inc == 0))
    ] refl
  where
    first : (b : Bool) → (inc == 0) ≡ b → inc ≡ count → (if not b && true then [] else waiting) ≡ []
    first true e same = is ∙ ap (λ x. if x then rest else []) (none (sym same ∙ eqb-true inc 0 e))
    first false e same = refl

    other : (b : Bool) → (if b && false then [] else waiting) ≡ (if was then rest else [])
    other true = is
    other false = is

dropped : (so was : Bool) → was ≡ false → (if so then false else was) ≡ false
dropped true was idle = refl
dropped false was idle = idle

pub deaf_stands : (cfg : Sections) (H : History) (h inc : ℕ) (helper : Seen) → Stands cfg H h helper
    → Stands cfg (HelperDeaf h inc ∷ H) h (with_slot helper (of_slot.deafened inc helper.slot))
deaf_stands cfg H h inc helper is =
    let state = helper.slot.state in
    let last = last_inc h H in
    let own : (h == h) ≡ true = eq-eqb h h refl in
    let now : child cfg h (HelperDeaf h inc ∷ H) ≡ deafened inc (child cfg h H) =
    ap (λ so. if so then deafened inc (child cfg h H) else child cfg h H) own in
    let counted : helper.slot.count ≡ last = is.starts.count ∙ sym is.starts.last in
    let rest = drop (length (taken h last H)) (replies cfg h last H) in
    let left : (if not (inc == 0) && inc == last then [] else helper.slot.replies)
    ≡ (if (if inc == last then false else has_queue cfg h last H) then rest else []) =
    emptied last inc (has_queue cfg h last H) helper.slot.replies rest is.replies.waiting
    (λ e. ap (λ i. has_queue cfg h i H) e ∙ is.replies.nobody) in
    record {
      process = record {
        section = is.process.section;
        present = process_deaf inc state ∙ is.process.present;
        own_child = child_deaf inc state ∙ ap (deafened inc) is.process.own_child ∙ sym now;
        given_up = given_up_deaf inc state ∙ is.process.given_up;
        respawn = is.process.respawn;
      };
      starts = record {
        count = is.starts.count;
        last = is.starts.last;
        few = is.starts.few;
        started = is.starts.started;
        window = is.starts.window;
      };
      replies = record {
        waiting = ap (λ (n : ℕ). if not (inc == 0) && inc == n then [] else helper.slot.replies) counted ∙ left
            ∙ sym (ap (λ so. if (if so && inc == last then false else has_queue cfg h last H) then rest else []) own);
        on = is.replies.on;
        taken_few = is.replies.taken_few;
        nobody = dropped (is_of h inc h 0) (has_queue cfg h 0 H) is.replies.nobody;
        running = λ i runs.
            let before = deafened_runs inc i (child cfg h H) (sym (ap (λ c. is_running c i) now) ∙ runs) in
            let was = is.replies.running i before.0 in
            record {
              last = was.last;
              queue = ap (λ so. if so && inc == i then false else has_queue cfg h i H) own
                  ∙ ap (λ so. if so then false else has_queue cfg h i H) before.1 ∙ was.queue;
            };
        unborn = λ i later.
            let was = is.replies.unborn i later in
            record { silent = was.silent; untaken = was.untaken; replied = was.replied };
      };
    }

-- the same of a helper that is made of parts

pub gone_at : (cfg : Sections) (H : History) (h inc : ℕ) (helper parts : Seen) (slot : Slot) → parts ≡ helper
    → slot ≡ of_slot.ended inc parts.slot → Stands cfg H h helper
    → Stands cfg (HelperGone h inc ∷ H) h (with_slot parts slot)
gone_at cfg H h inc helper parts slot view slot_is is =
    subst (λ s. Stands cfg (HelperGone h inc ∷ H) h (with_slot parts s)) (sym slot_is)
    (gone_stands cfg H h inc parts (subst (λ s. Stands cfg H h s) (sym view) is))

pub deaf_at : (cfg : Sections) (H : History) (h inc : ℕ) (helper parts : Seen) (slot : Slot) → parts ≡ helper
    → slot ≡ of_slot.deafened inc parts.slot → Stands cfg H h helper
    → Stands cfg (HelperDeaf h inc ∷ H) h (with_slot parts slot)
deaf_at cfg H h inc helper parts slot view slot_is is =
    subst (λ s. Stands cfg (HelperDeaf h inc ∷ H) h (with_slot parts s)) (sym slot_is)
    (deaf_stands cfg H h inc parts (subst (λ s. Stands cfg H h s) (sym view) is))
