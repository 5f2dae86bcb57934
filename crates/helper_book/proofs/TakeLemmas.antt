-- Replies that are taken.
use Rattle.std.proofs.Common.{◌≡◌, ℕ, zero, suc, ◌+◌, ◌≤◌, Bool, true, false}
use Rattle.std.proofs.Common.{not, List, [], ◌∷◌, ◌++◌, length}
use Rattle.std.proofs.Common.{refl, sym, ap, ◌∙◌, subst, arith, eq-eqb, ne_eqb, length-append, drop}
use Rattle.std.specs.Prelude.{◌==◌, ◌&&◌, ◌||◌, if◌then◌else◌, IsTrue}
use Rattle.std.specs.Prelude as prelude
use Rattle.std.proofs.lemmas.Bool.{and_from}
use Rattle.std.proofs.lemmas.List.{length-drop, length-take, drop-drop}
use Rattle.arrayvec.specs.ArrayVec.{ArrayVec}
use Rattle.ack_queue.specs.declared.reply.Reply.{Reply}
use Rattle.config_model.specs.Sections.{Sections}
use Rattle.helper_core.specs.Helper.{Helper as Slot}
use Rattle.helper_core.specs.Incarnations.{is_running as slot_runs}
use Rattle.helper_core.specs.Lending.{with_replies}
use Rattle.book_history.specs.declared.outcomes.Take.TheVariants as take
use Rattle.book_history.specs.Entries.{History}
use Rattle.book_history.specs.Entries.Entry.{RepliesTaken}
use Rattle.book_history.specs.Helpers.{is_running, last_inc}
use Rattle.book_history.specs.Legal.{AllowsTake}
use Rattle.book_history.specs.Replies.{has_queue, is_of, queued, replies, taken}
use Rattle.book_history.specs.Verdicts.{is_late, is_stopping}
use Rattle.helper_book.specs.Seen.{Seen}
use Rattle.helper_book.specs.Stands.{Stands}
use Rattle.helper_book.proofs.ApartLemmas.{none_taken, take_same}
use Rattle.helper_book.proofs.EndLemmas.{with_slot}
use Rattle.helper_book.proofs.SameLemmas.{same_stands}
use Rattle.helper_book.proofs.StateLemmas.{runs_in}

-- dropping what was taken
drop_taken : (n : ℕ) (xs : List Reply) → drop (length (prelude.take n xs)) xs ≡ drop n xs
drop_taken zero xs = refl
drop_taken (suc n) [] = refl
drop_taken (suc n) (x ∷ xs) = drop_taken n xs

left_behind : (has : Bool) (t r items : List Reply) (n : ℕ)
    → items ≡ prelude.take n (if has then drop (length t) r else [])
    → drop n (if has then drop (length t) r else []) ≡ (if has then drop (length (t ++ items)) r else [])
left_behind true t r items n e =
    sym (drop_taken n (drop (length t) r))
    ∙ drop-drop (length (prelude.take n (drop (length t) r))) (length t) r
    ∙ ap (λ (m : ℕ). drop m r) (ap (λ (xs : List Reply). length t + length xs) (sym e) ∙ sym (length-append t items))
left_behind false t r items zero e = refl
left_behind false t r items (suc n) e = refl

taken_within : (has : Bool) (t r items : List Reply) (n : ℕ) → length t ≤ length r
    → items ≡ prelude.take n (if has then drop (length t) r else []) → length (t ++ items) ≤ length r
taken_within true t r items n few e =
    let len = ap length e ∙ length-take n (drop (length t) r) in
    omega (arith, len, length-drop (length t) r, length-append t items)
taken_within false t r items n few e =
    let len = ap length e ∙ length-take n [] in
    omega (arith, len, length-append t items)

pub replies_taken : (cfg : Sections) (H : History) (h inc : ℕ) (helper : Seen) (given : ArrayVec Reply)
    → Stands cfg H h helper → inc ≡ helper.slot.count → given.items ≡ prelude.take 64 helper.slot.replies
    → Stands cfg (RepliesTaken h inc (take.Replies given) ∷ H) h
    (with_slot helper (with_replies helper.slot (drop 64 helper.slot.replies)))
replies_taken cfg H h inc helper given is own given_is =
    let last = last_inc h H in
    let has = has_queue cfg h last H in
    let t = taken h last H in
    let r = replies cfg h last H in
    let at_last : inc ≡ last = own ∙ is.starts.count ∙ sym is.starts.last in
    let of_last : is_of h inc h last ≡ true =
    and_from (h == h) (inc == last) (eq-eqb h h refl) (eq-eqb inc last at_last) in
    let now : taken h last (RepliesTaken h inc (take.Replies given) ∷ H) ≡ t ++ given.items =
    ap (λ so. if so then t ++ given.items else t) of_last in
    let first : given.items ≡ prelude.take 64 (if has then drop (length t) r else []) =
    given_is ∙ ap (prelude.take 64) is.replies.waiting in
    record {
      process = record {
        section = is.process.section;
        present = is.process.present;
        own_child = is.process.own_child;
        given_up = is.process.given_up;
        respawn = is.process.respawn;
      };
      starts = record {
        count = is.starts.count;
        last = is.starts.last;
        few = is.starts.few;
        started = is.starts.started;
        window = is.starts.window;
      };
      replies = record {
        waiting = ap (drop 64) is.replies.waiting ∙ left_behind has t r given.items 64 first
            ∙ sym (ap (λ (xs : List Reply). if has then drop (length xs) r else []) now);
        on = is.replies.on;
        taken_few = subst (λ (xs : List Reply). length xs ≤ length r) (sym now)
            (taken_within has t r given.items 64 is.replies.taken_few first);
        nobody = is.replies.nobody;
        running = λ i runs.
            let was = is.replies.running i runs in record { last = was.last; queue = was.queue };
        unborn = λ i later.
            let was = is.replies.unborn i later in
            let apart : is_of h inc h i ≡ false =
            ap (λ so. so && inc == i) (eq-eqb h h refl)
            ∙ ne_eqb inc i (λ e. let count = is.starts.last in absurd (omega (arith, at_last))) in
            record {
              silent = was.silent;
              untaken = ap (λ so. if so then taken h i H ++ given.items else taken h i H) apart ∙ was.untaken;
              replied = was.replied;
            };
      };
    }

pub nothing_stands : (cfg : Sections) (H : History) (h inc : ℕ) (helper : Seen) → Stands cfg H h helper
    → Stands cfg (RepliesTaken h inc take.Nothing ∷ H) h helper
nothing_stands cfg H h inc helper is =
    same_stands cfg H (RepliesTaken h inc take.Nothing ∷ H) h helper
    (take_same cfg H h h inc take.Nothing (none_taken H h h inc take.Nothing refl)) is

-- an answer with replies is allowed, and what it leaves
pub take_at : (cfg : Sections) (H : History) (h inc : ℕ) (helper : Seen) (slot : Slot) (given : ArrayVec Reply)
    → inc ≡ helper.slot.count → (length helper.slot.replies ≡ 0 → ⊥)
    → given.items ≡ prelude.take 64 helper.slot.replies
    → slot ≡ with_replies helper.slot (drop 64 helper.slot.replies) → Stands cfg H h helper
    → AllowsTake cfg H h inc (take.Replies given)
    × Stands cfg (RepliesTaken h inc (take.Replies given) ∷ H) h (with_slot helper slot)
take_at cfg H h inc helper slot given own some first slot_is is =
    let at_last : inc ≡ last_inc h H = own ∙ is.starts.count ∙ sym is.starts.last in
    let waiting : helper.slot.replies ≡ queued cfg h inc H =
    is.replies.waiting ∙ ap (λ i. queued cfg h i H) (sym at_last) in
    let many : (length (queued cfg h inc H) == 0) ≡ false =
    ne_eqb (length (queued cfg h inc H)) 0 (λ none. some (ap length waiting ∙ none)) in (
      (
        and_from (inc == last_inc h H) (not (length (queued cfg h inc H) == 0))
            (eq-eqb inc (last_inc h H) at_last) (ap not many),
        first ∙ ap (prelude.take 64) waiting,
      ),
      subst (λ s. Stands cfg (RepliesTaken h inc (take.Replies given) ∷ H) h (with_slot helper s)) (sym slot_is)
          (replies_taken cfg H h inc helper given is own first),
    )

-- an answer that none waits
pub nothing_allowed : (cfg : Sections) (H : History) (h inc : ℕ) (helper : Seen) → inc ≡ helper.slot.count
    → length helper.slot.replies ≡ 0 → slot_runs inc helper.slot.state ≡ true → is_stopping H ≡ false
    → Stands cfg H h helper → AllowsTake cfg H h inc take.Nothing
nothing_allowed cfg H h inc helper own none runs going is =
    let at_last : inc ≡ last_inc h H = own ∙ is.starts.count ∙ sym is.starts.last in
    let waiting : helper.slot.replies ≡ queued cfg h inc H =
    is.replies.waiting ∙ ap (λ i. queued cfg h i H) (sym at_last) in
    let timely : is_late cfg H h inc ≡ false =
    ap (λ b. not b || is_stopping H) (ap (λ c. is_running c inc) (sym is.process.own_child)
    ∙ sym (runs_in inc helper.slot.state) ∙ runs) ∙ going in
    and_from (inc == last_inc h H && length (queued cfg h inc H) == 0) (not (is_late cfg H h inc))
    (and_from (inc == last_inc h H) (length (queued cfg h inc H) == 0) (eq-eqb inc (last_inc h H) at_last)
    (eq-eqb (length (queued cfg h inc H)) 0 (sym (ap length waiting) ∙ none))) (ap not timely)
