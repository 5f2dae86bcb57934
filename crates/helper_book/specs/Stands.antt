-- When a helper stands for a slot of a history.
use Rattle.std.specs.Prelude.{ℕ, ◌≡◌, ◌<◌, ◌≤◌, ◌==◌, true, false, not, [], length, is_some, IfSome}
use Rattle.config_model.specs.declared.sections.Process.{Process}
use Rattle.config_model.specs.Sections.{Sections}
use Rattle.respawn_window.specs.Starts.{Remembers}
use Rattle.book_history.specs.Bounds.{max_incarnations}
use Rattle.book_history.specs.Entries.{History}
use Rattle.book_history.specs.Helpers.{child, is_given_up, is_running, last_inc, starts, starts_counted}
use Rattle.book_history.specs.Replies.{acks, has_queue, queued, replies, taken}
use Rattle.book_history.specs.Slots.{process_at}
use Rattle.helper_book.specs.Seen.{Seen, child_in, has_process, was_given_up}

-- its process is the slot's, its child is the slot's, and it is given up where the slot is
pub record ProcessStands (cfg : Sections) (H : History) (h : ℕ) (helper : Seen) : Type 0 where
  pub section : helper.process ≡ process_at cfg H h
  pub present : has_process helper.slot.state ≡ is_some (process_at cfg H h)
  pub own_child : child_in helper.slot.state ≡ child cfg h H
  pub given_up : was_given_up helper.slot.state ≡ is_given_up cfg h H
  pub respawn : IfSome (process_at cfg H h) (λ (process : Process). helper.slot.respawn ≡ process.respawn)

-- its starts are the slot's: how many there were, and those that count for the next one
pub record StartsStand (cfg : Sections) (H : History) (h : ℕ) (helper : Seen) : Type 0 where
  pub count : helper.slot.count ≡ starts_counted h H
  pub last : last_inc h H ≡ starts_counted h H
  pub few : starts_counted h H ≤ max_incarnations
  pub started : helper.slot.started ≡ not (length (starts cfg h H) == 0)
  pub window : Remembers (starts cfg h H) helper.slot.starts

-- an incarnation has the slot's queue: it is the last one
pub record HasQueue (cfg : Sections) (H : History) (h inc : ℕ) : Type 0 where
  pub last : inc ≡ last_inc h H
  pub queue : has_queue cfg h inc H ≡ true

-- an incarnation is yet to start: nothing was said to it, and its lines will be replied to
pub record IsUnborn (cfg : Sections) (H : History) (h inc : ℕ) : Type 0 where
  pub silent : replies cfg h inc H ≡ []
  pub untaken : taken h inc H ≡ []
  pub replied : acks h inc H ≡ true

-- the replies that wait are those of the last incarnation, and its lines are replied to where they are to be; the child
-- that runs is that incarnation
pub record RepliesStand (cfg : Sections) (H : History) (h : ℕ) (helper : Seen) : Type 0 where
  pub waiting : helper.slot.replies ≡ queued cfg h (last_inc h H) H
  pub on : helper.acks ≡ acks h (last_inc h H) H
  pub taken_few : length (taken h (last_inc h H) H) ≤ length (replies cfg h (last_inc h H) H)
  pub nobody : has_queue cfg h 0 H ≡ false
  pub running : (inc : ℕ) → is_running (child cfg h H) inc ≡ true → HasQueue cfg H h inc
  pub unborn : (inc : ℕ) → starts_counted h H < inc → IsUnborn cfg H h inc

-- a helper stands for the slot h after a history
pub record Stands (cfg : Sections) (H : History) (h : ℕ) (helper : Seen) : Type 0 where
  pub process : ProcessStands cfg H h helper
  pub starts : StartsStand cfg H h helper
  pub replies : RepliesStand cfg H h helper
