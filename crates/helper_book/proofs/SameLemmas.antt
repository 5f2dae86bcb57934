-- What two histories tell alike of a slot, a helper stands for alike.
use Rattle.std.proofs.Common.{◌≡◌, ℕ, ◌<◌, ◌≤◌, Bool, not, List, [], length, sym, ap, ◌∙◌, subst}
use Rattle.std.specs.Prelude.{◌==◌, if◌then◌else◌, drop, is_some, IfSome, Option}
use Rattle.ack_queue.specs.declared.reply.Reply.{Reply}
use Rattle.config_model.specs.declared.sections.Process.{Process}
use Rattle.config_model.specs.Sections.{Sections}
use Rattle.respawn_window.specs.Starts.{Remembers}
use Rattle.book_history.specs.Bounds.{max_incarnations}
use Rattle.book_history.specs.Entries.{History}
use Rattle.book_history.specs.Helpers.{child, is_given_up, is_running, last_inc, starts, starts_counted}
use Rattle.book_history.specs.Replies.{acks, has_queue, queued, replies, taken}
use Rattle.book_history.specs.Slots.{process_at}
use Rattle.helper_book.specs.Seen.{Seen}
use Rattle.helper_book.specs.Stands.{ProcessStands, StartsStand, IsUnborn, RepliesStand, Stands}

-- two histories tell the same of an incarnation of slot h
pub record TellSame (cfg : Sections) (old new : History) (h inc : ℕ) : Type 0 where
  pub said : replies cfg h inc new ≡ replies cfg h inc old
  pub handed : taken h inc new ≡ taken h inc old
  pub on : acks h inc new ≡ acks h inc old
  pub queue : has_queue cfg h inc new ≡ has_queue cfg h inc old

-- and of the slot as a whole
pub record IsSame (cfg : Sections) (old new : History) (h : ℕ) : Type 0 where
  pub section : process_at cfg new h ≡ process_at cfg old h
  pub own_child : child cfg h new ≡ child cfg h old
  pub given_up : is_given_up cfg h new ≡ is_given_up cfg h old
  pub count : starts_counted h new ≡ starts_counted h old
  pub last : last_inc h new ≡ last_inc h old
  pub moments : starts cfg h new ≡ starts cfg h old
  pub each : (inc : ℕ) → TellSame cfg old new h inc

waits : (a b : Bool) (t u r s : List Reply) → a ≡ b → t ≡ u → r ≡ s
    → (if a then drop (length t) r else []) ≡ (if b then drop (length u) s else [])
waits a b t u r s p q e =
    ap (λ x. if x then drop (length t) r else []) p ∙ ap (λ x. if b then drop (length x) r else []) q
    ∙ ap (λ x. if b then drop (length u) x else []) e

pub queued_same : (cfg : Sections) (old new : History) (h inc : ℕ) → TellSame cfg old new h inc
    → queued cfg h inc new ≡ queued cfg h inc old
queued_same cfg old new h inc is =
    waits (has_queue cfg h inc new) (has_queue cfg h inc old) (taken h inc new) (taken h inc old)
    (replies cfg h inc new) (replies cfg h inc old) is.queue is.handed is.said

pub unborn_same : (cfg : Sections) (old new : History) (h inc : ℕ) → TellSame cfg old new h inc
    → IsUnborn cfg old h inc → IsUnborn cfg new h inc
unborn_same cfg old new h inc is was = record {
  silent = is.said ∙ was.silent;
  untaken = is.handed ∙ was.untaken;
  replied = is.on ∙ was.replied;
}

pub process_same : (cfg : Sections) (old new : History) (h : ℕ) (helper : Seen) → IsSame cfg old new h
    → ProcessStands cfg old h helper → ProcessStands cfg new h helper
process_same cfg old new h helper same is = record {
  section = is.section ∙ sym same.section;
  present = is.present ∙ ap is_some (sym same.section);
  own_child = is.own_child ∙ sym same.own_child;
  given_up = is.given_up ∙ sym same.given_up;
  respawn = subst (λ (p : Option Process). IfSome p (λ (process : Process). helper.slot.respawn ≡ process.respawn))
      (sym same.section) is.respawn;
}

pub starts_same : (cfg : Sections) (old new : History) (h : ℕ) (helper : Seen) → IsSame cfg old new h
    → StartsStand cfg old h helper → StartsStand cfg new h helper
starts_same cfg old new h helper same is = record {
  count = is.count ∙ sym same.count;
  last = same.last ∙ is.last ∙ sym same.count;
  few = subst (λ n. n ≤ max_incarnations) (sym same.count) is.few;
  started = is.started ∙ ap (λ (moments : List ℕ). not (length moments == 0)) (sym same.moments);
  window = subst (λ (moments : List ℕ). Remembers moments helper.slot.starts) (sym same.moments) is.window;
}

pub replies_same : (cfg : Sections) (old new : History) (h : ℕ) (helper : Seen) → IsSame cfg old new h
    → RepliesStand cfg old h helper → RepliesStand cfg new h helper
replies_same cfg old new h helper same is =
    let last = last_inc h old in
    let at_last : TellSame cfg old new h last = same.each last in
    record {
      waiting = is.waiting ∙ sym (ap (λ i. queued cfg h i new) same.last ∙ queued_same cfg old new h last at_last);
      on = is.on ∙ sym (ap (λ i. acks h i new) same.last ∙ at_last.on);
      taken_few = subst (λ i. length (taken h i new) ≤ length (replies cfg h i new)) (sym same.last)
          (subst (λ (t : List Reply). length t ≤ length (replies cfg h last new)) (sym at_last.handed)
          (subst (λ (r : List Reply). length (taken h last old) ≤ length r) (sym at_last.said) is.taken_few));
      nobody = (same.each 0).queue ∙ is.nobody;
      running = λ inc runs.
          let was = is.running inc (sym (ap (λ c. is_running c inc) same.own_child) ∙ runs) in
          record { last = was.last ∙ sym same.last; queue = (same.each inc).queue ∙ was.queue };
      unborn = λ inc later. unborn_same cfg old new h inc (same.each inc)
          (is.unborn inc (subst (λ n. n < inc) same.count later));
    }

pub same_stands : (cfg : Sections) (old new : History) (h : ℕ) (helper : Seen) → IsSame cfg old new h
    → Stands cfg old h helper → Stands cfg new h helper
same_stands cfg old new h helper same is = record {
  process = process_same cfg old new h helper same is.process;
  starts = starts_same cfg old new h helper same is.starts;
  replies = replies_same cfg old new h helper same is.replies;
}
