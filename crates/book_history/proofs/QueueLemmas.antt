-- A queue of replies never passes its bound.
use Rattle.std.proofs.Common.{◌≡◌, ℕ, ◌+◌, ◌-◌, ◌<◌, ◌≤◌, Bool, true, false, not, List, [], ◌∷◌, ◌++◌, length}
use Rattle.std.proofs.Common.{Ok, Err, refl, sym, ap, ◌∙◌, subst, inl, inr, arith, eqb-true, eq-eqb, length-append}
use Rattle.std.specs.Prelude.{◌==◌, ◌&&◌, ◌||◌, if◌then◌else◌, nat_lt, drop, Result}
use Rattle.std.specs.Prelude.{IsTrue}
use Rattle.std.proofs.lemmas.Bool.{and_parts, and_from, both_ways, not-true}
use Rattle.std.proofs.lemmas.Bool.Decides.{Decides-ltb, not_from_Decides}
use Rattle.std.proofs.lemmas.List.{length-drop, length-take}
use Rattle.arrayvec.specs.ArrayVec.{ArrayVec}
use Rattle.text_forms.specs.Lines.{Line}
use Rattle.route_grammar.specs.declared.fault.ReadFault.{ReadFault}
use Rattle.ack_queue.specs.declared.reply.Reply.{Reply}
use Rattle.ack_queue.specs.declared.reply.Reply.TheVariants as reply
use Rattle.command_grammar.specs.declared.command.Command.{Command}
use Rattle.command_grammar.specs.declared.command.Command.TheVariants as command
use Rattle.config_model.specs.Sections.{Sections}
use Rattle.book_history.specs.declared.outcomes.Reload.TheVariants as reload
use Rattle.book_history.specs.declared.outcomes.Spawn.TheVariants as spawn
use Rattle.book_history.specs.declared.outcomes.Take.{Take}
use Rattle.book_history.specs.declared.outcomes.Take.TheVariants as take
use Rattle.book_history.specs.declared.outcomes.Verdict.{Verdict}
use Rattle.book_history.specs.declared.outcomes.Verdict.TheVariants as verdict
use Rattle.book_history.specs.Bounds.{max_nodes, max_queued, max_shown, max_taken}
use Rattle.book_history.specs.Entries.{History}
use Rattle.book_history.specs.Entries.Entry.{LineEntered, RepliesTaken, HelperDeaf, HelperGone, SpawnAsked, Reloaded}
use Rattle.book_history.specs.HelperLaws.{QueuesAreBounded}
use Rattle.book_history.specs.Helpers.{Child, child, deafened, is_running, leaves, starts_counted, without}
use Rattle.book_history.specs.Helpers.Child.{NoChild, Running, Deaf}
use Rattle.book_history.specs.Legal.{IsVerdict, AllowsTake, IsLegal}
use Rattle.book_history.specs.Nodes.{nodes}
use Rattle.book_history.specs.Replies.{acks, done_replies, handed_out, has_queue, is_of, line_replies, queued, refusal}
use Rattle.book_history.specs.Replies.{replies, reply_if, taken}
use Rattle.book_history.specs.Shows.{shown}
use Rattle.book_history.specs.Verdicts.{command_verdict, is_late, line_verdict, matches_none, may_lack_memory}
use Rattle.book_history.specs.Verdicts.{overflows}
use Rattle.book_history.specs.Verdicts.{is_stopping, reading_verdict}
use Rattle.book_history.proofs.StartLemmas.{incarnations_count, second_is}

one_reply : (on : Bool) (given : Reply) → length (reply_if on given) ≤ 1
one_reply true given = omega arith
one_reply false given = omega arith

-- a queue that isn't full has room for one reply more
not_full : (many : ℕ) → (many == max_queued) ≡ false → many ≤ max_queued → many + 1 ≤ max_queued
not_full many h few =
    let other : many ≡ max_queued → ⊥ = λ e. absurd (let yes = eq-eqb many max_queued e in cc) in
    omega (arith, other)

-- what a line that is done leaves room for
done_room : (cfg : Sections) (H : History) (h inc : ℕ) (given : Command)
    → length (queued cfg h inc H) + 1 ≤ max_queued → overflows cfg H h inc given ≡ false
    → length (queued cfg h inc H) + length (done_replies cfg H h inc given) ≤ max_queued
done_room cfg H h inc (command.Show pick within) room fits =
    let many = length (queued cfg h inc H) + length (done_replies cfg H h inc (command.Show pick within)) in
    let no = not_from_Decides (nat_lt max_queued many) (Decides-ltb max_queued many) fits in
    omega (arith, no)
done_room cfg H h inc command.EnableAck room fits = room
done_room cfg H h inc given room fits =
    let one = one_reply (acks h inc H) reply.Done in omega (arith, one, room)

-- a verdict that isn't an end, and not that the queue is full, comes where neither is so
pub record IsTaken (cfg : Sections) (H : History) (h inc : ℕ) : Type 0 where
  pub timely : is_late cfg H h inc ≡ false
  pub room : (length (queued cfg h inc H) == max_queued) ≡ false

pub taken_by : (cfg : Sections) (H : History) (h inc : ℕ) (line : Line) (reading : Result Command ReadFault)
    (given : Verdict) → (verdict.Ended ≡ given → ⊥) → (verdict.Busy ≡ given → ⊥)
    → line_verdict cfg H h inc line reading ≡ given
    → IsTaken cfg H h inc × (reading_verdict cfg H h inc line reading ≡ given)
taken_by cfg H h inc line reading given no_end no_wait e =
    let first = second_is (is_late cfg H h inc) _ _ given no_end e in
    let second = second_is (length (queued cfg h inc H) == max_queued) _ _ given no_wait first.1 in
    (record { timely = first.0; room = second.0 }, second.1)

pub lacking : (cfg : Sections) (H : History) (h inc : ℕ) → IsTrue (may_lack_memory cfg H h inc) → IsTaken cfg H h inc
lacking cfg H h inc may =
    let both = and_parts _ _ may in record { timely = not-true _ both.0; room = not-true _ both.1 }

-- a line that is taken leaves the queue within its bound
fits_by : (cfg : Sections) (H : History) (h inc : ℕ) (given : Command) (with_it asked : ℕ)
    → command_verdict cfg H h inc given with_it asked ≡ verdict.Done → overflows cfg H h inc given ≡ false
fits_by cfg H h inc given with_it asked e =
    let one = second_is (matches_none cfg H h given) _ _ verdict.Done (λ r. cc) e in
    let two = second_is (nat_lt max_nodes with_it) _ _ verdict.Done (λ r. cc) one.1 in
    let three = second_is (nat_lt max_shown asked) _ _ verdict.Done (λ r. cc) two.1 in
    (second_is (overflows cfg H h inc given) _ _ verdict.Done (λ r. cc) three.1).0

-- what becomes of a line, and whether it is taken
line_room : (cfg : Sections) (H : History) (h inc : ℕ) (line : Line) (reading : Result Command ReadFault)
    (given : Verdict) → IsVerdict cfg H h inc line reading given → length (queued cfg h inc H) ≤ max_queued
    → length (queued cfg h inc H) + length (line_replies cfg H h inc reading given) ≤ max_queued
line_room cfg H h inc line reading verdict.Ended allows few = omega (arith, few)
line_room cfg H h inc line reading verdict.Busy allows few = omega (arith, few)
line_room cfg H h inc line reading (verdict.Error because) (inl e) few =
    let is = (taken_by cfg H h inc line reading (verdict.Error because) (λ r. cc) (λ r. cc) (sym e)).0 in
    let room = not_full (length (queued cfg h inc H)) is.room few in
    let one = one_reply (acks h inc H) (refusal because) in omega (arith, room, one)
line_room cfg H h inc line reading (verdict.Error because) (inr both) few =
    let room = not_full (length (queued cfg h inc H)) (lacking cfg H h inc both.1).room few in
    let one = one_reply (acks h inc H) (refusal because) in omega (arith, room, one)
line_room cfg H h inc line (Err fault) verdict.Done allows few = omega (arith, few)
line_room cfg H h inc line (Ok given) verdict.Done (inl e) few =
    let is = taken_by cfg H h inc line (Ok given) verdict.Done (λ r. cc) (λ r. cc) (sym e) in
    done_room cfg H h inc given (not_full (length (queued cfg h inc H)) is.0.room few)
    (fits_by cfg H h inc given (nodes cfg (LineEntered h inc line (Ok given) verdict.Done ∷ H))
    (length (shown cfg H h given)) is.1)
line_room cfg H h inc line (Ok given) verdict.Done (inr both) few = cc

-- a line that comes too late has no reply
late_none : (cfg : Sections) (H : History) (h inc : ℕ) (line : Line) (reading : Result Command ReadFault)
    (given : Verdict) → IsVerdict cfg H h inc line reading given → is_late cfg H h inc ≡ true
    → length (line_replies cfg H h inc reading given) ≡ 0
late_none cfg H h inc line reading verdict.Ended allows late = refl
late_none cfg H h inc line reading verdict.Busy allows late = refl
late_none cfg H h inc line reading (verdict.Error because) (inl e) late =
    absurd (both_ways _ (taken_by cfg H h inc line reading (verdict.Error because) (λ r. cc) (λ r. cc)
    (sym e)).0.timely late)
late_none cfg H h inc line reading (verdict.Error because) (inr both) late =
    absurd (both_ways _ (lacking cfg H h inc both.1).timely late)
late_none cfg H h inc line (Err fault) verdict.Done allows late = refl
late_none cfg H h inc line (Ok given) verdict.Done (inl e) late =
    absurd (both_ways _ (taken_by cfg H h inc line (Ok given) verdict.Done (λ r. cc) (λ r. cc) (sym e)).0.timely late)
late_none cfg H h inc line (Ok given) verdict.Done (inr both) late = cc

-- what is known of an incarnation's replies: those that were taken are its first ones, a queue has no more than its
-- bound, and an incarnation that is yet to start has none
record IsQueue (cfg : Sections) (H : History) (h inc : ℕ) : Type 0 where
  pub taken_few : length (taken h inc H) ≤ length (replies cfg h inc H)
  pub few : has_queue cfg h inc H ≡ true → length (replies cfg h inc H) ≤ length (taken h inc H) + max_queued
  pub unborn : starts_counted h H < inc → length (replies cfg h inc H) ≡ 0
  pub born : is_running (child cfg h H) inc ≡ true → inc ≤ starts_counted h H

-- how many wait
queued_len : (so : Bool) (many : ℕ) (all : List Reply) → length (if so then drop many all else [])
    ≡ (if so then length all - many else 0)
queued_len true many all = length-drop many all
queued_len false many all = refl

bounded : (so : Bool) (many got : ℕ) → got ≤ many → (so ≡ true → many ≤ got + max_queued)
    → (if so then many - got else 0) ≤ max_queued
bounded true many got less few = let h = few refl in omega (arith, h, less)
bounded false many got less few = omega arith

within_bound : (cfg : Sections) (H : History) (h inc : ℕ) → IsQueue cfg H h inc
    → length (queued cfg h inc H) ≤ max_queued
within_bound cfg H h inc is =
    let len = queued_len (has_queue cfg h inc H) (length (taken h inc H)) (replies cfg h inc H) in
    let few = bounded (has_queue cfg h inc H) (length (replies cfg h inc H)) (length (taken h inc H)) is.taken_few
    is.few in
    subst (λ n. n ≤ max_queued) (sym len) few

no_more : (so : Bool) (many got : ℕ) → (if so then many - got else 0) ≤ many - got
no_more true many got = omega arith
no_more false many got = omega arith

-- what is handed out was waiting
handed_few : (cfg : Sections) (H : History) (h inc : ℕ) (given : Take) → AllowsTake cfg H h inc given
    → length (handed_out given) ≤ length (queued cfg h inc H)
handed_few cfg H h inc take.Ended allows = omega arith
handed_few cfg H h inc take.Nothing allows = omega arith
handed_few cfg H h inc (take.Replies given) allows =
    let len = ap length allows.1 ∙ length-take max_taken (queued cfg h inc H) in
    omega (arith, len)

-- the queue after a line of its own
line_queue : (cfg : Sections) (H : History) (h inc : ℕ) (line : Line) (reading : Result Command ReadFault)
    (given : Verdict) → IsVerdict cfg H h inc line reading given → IsQueue cfg H h inc
    → IsQueue cfg (LineEntered h inc line reading given ∷ H) h inc
line_queue cfg H h inc line reading given allows is =
    let own : is_of h inc h inc ≡ true = and_from _ _ (eq-eqb h h refl) (eq-eqb inc inc refl) in
    let before = replies cfg h inc H in
    let new = line_replies cfg H h inc reading given in
    let now : replies cfg h inc (LineEntered h inc line reading given ∷ H) ≡ before ++ new =
    ap (λ so. if so then before ++ new else before) own in
    let len : length (replies cfg h inc (LineEntered h inc line reading given ∷ H)) ≡ length before + length new =
    ap length now ∙ length-append before new in
    let room = line_room cfg H h inc line reading given allows (within_bound cfg H h inc is) in
    let waits = queued_len (has_queue cfg h inc H) (length (taken h inc H)) before in
    record {
      taken_few = let less = is.taken_few in omega (arith, len, less);
      few = λ has.
          let all : length (queued cfg h inc H) ≡ length before - length (taken h inc H) =
          waits ∙ ap (λ so. if so then length before - length (taken h inc H) else 0) has in
          let less = is.taken_few in omega (arith, len, room, all, less);
      unborn = λ early.
          let none = is.unborn early in
          let idle : is_running (child cfg h H) inc ≡ false = elim (is_running (child cfg h H) inc) as (λ b.
          is_running (child cfg h H) inc ≡ b → b ≡ false) [
            | true ↦ λ e. let old = is.born e in absurd (omega (arith, old, early))
            | false ↦ λ e. refl
          ] refl in
          let late : is_late cfg H h inc ≡ true = ap (λ b. not b || is_stopping H) idle in
          let silent = late_none cfg H h inc line reading given allows late in omega (arith, len, none, silent);
      born = is.born;
    }

-- the queue after some of it was taken
take_queue : (cfg : Sections) (H : History) (h inc : ℕ) (given : Take) → AllowsTake cfg H h inc given
    → IsQueue cfg H h inc → IsQueue cfg (RepliesTaken h inc given ∷ H) h inc
take_queue cfg H h inc given allows is =
    let own : is_of h inc h inc ≡ true = and_from _ _ (eq-eqb h h refl) (eq-eqb inc inc refl) in
    let before = taken h inc H in
    let now : taken h inc (RepliesTaken h inc given ∷ H) ≡ before ++ handed_out given =
    ap (λ so. if so then before ++ handed_out given else before) own in
    let len : length (taken h inc (RepliesTaken h inc given ∷ H)) ≡ length before + length (handed_out given) =
    ap length now ∙ length-append before (handed_out given) in
    let handed = handed_few cfg H h inc given allows in
    let waits = queued_len (has_queue cfg h inc H) (length before) (replies cfg h inc H) in
    let no_more = no_more (has_queue cfg h inc H) (length (replies cfg h inc H)) (length before) in
    let less = is.taken_few in
    record {
      taken_few = omega (arith, len, handed, waits, no_more, less);
      few = λ has. let old = is.few has in omega (arith, old, len);
      unborn = is.unborn;
      born = is.born;
    }

-- an incarnation that starts has no replies yet
start_queue : (cfg : Sections) (H : History) (h now own inc : ℕ) (run : ArrayVec ℕ) → own ≡ starts_counted h H + 1
    → IsQueue cfg H h inc → IsQueue cfg (SpawnAsked h now (spawn.Go own run) ∷ H) h inc
start_queue cfg H h now own inc run counts is =
    let own_slot : (h == h) ≡ true = eq-eqb h h refl in
    let entry = SpawnAsked h now (spawn.Go own run) in
    let more : starts_counted h (entry ∷ H) ≡ starts_counted h H + 1 =
    ap (λ so. if so then starts_counted h H + 1 else starts_counted h H) own_slot in
    record {
      taken_few = is.taken_few;
      few = λ has.
          let same : own ≡ inc = eqb-true own inc
          (sym (ap (λ so. if so then own == inc else has_queue cfg h inc H) own_slot) ∙ has) in
          let none = is.unborn (omega (arith, counts, same)) in omega (arith, none);
      unborn = λ early. is.unborn (omega (arith, more, early));
      born = λ runs.
          let same : own ≡ inc = eqb-true own inc
          (sym (ap (λ so. is_running (if so then Running own else child cfg h H) inc) own_slot) ∙ runs) in
          omega (arith, more, counts, same);
    }

-- a child that is gone, or no longer reads, runs no more than before
without_runs : (own inc : ℕ) (was : Child) → is_running (without own was) inc ≡ true → is_running was inc ≡ true
without_runs own inc NoChild runs = runs
without_runs own inc (Running present) runs =
    elim (present == own) as (λ b. is_running (if b then NoChild else Running present) inc ≡ true
    → (present == inc) ≡ true) [
      | true ↦ λ r. cc
      | false ↦ λ r. r
    ] runs
without_runs own inc (Deaf present) runs =
    elim (present == own) as (λ b. is_running (if b then NoChild else Deaf present) inc ≡ true → false ≡ true) [
      | true ↦ λ r. r
      | false ↦ λ r. r
    ] runs

deafened_runs : (own inc : ℕ) (was : Child) → is_running (deafened own was) inc ≡ true → is_running was inc ≡ true
deafened_runs own inc NoChild runs = runs
deafened_runs own inc (Running present) runs =
    elim (present == own) as (λ b. is_running (if b then Deaf present else Running present) inc ≡ true
    → (present == inc) ≡ true) [
      | true ↦ λ r. cc
      | false ↦ λ r. r
    ] runs
deafened_runs own inc (Deaf present) runs = runs

chosen_runs : (so : Bool) (now was : Child) (inc : ℕ) → (is_running now inc ≡ true → is_running was inc ≡ true)
    → is_running (if so then now else was) inc ≡ true → is_running was inc ≡ true
chosen_runs true now was inc h runs = h runs
chosen_runs false now was inc h runs = runs

kept_queue : (so was : Bool) → (if so then false else was) ≡ true → was ≡ true
kept_queue true was h = cc
kept_queue false was h = h

left_queue : (so was : Bool) → (so && was) ≡ true → was ≡ true
left_queue true was h = h
left_queue false was h = cc

left_child : (so : Bool) (was : Child) (inc : ℕ) → is_running (if so then was else NoChild) inc ≡ true
    → is_running was inc ≡ true
left_child true was inc h = h
left_child false was inc h = cc

-- an entry of another helper, or of none
by_slot : (cfg : Sections) (H : History) (h inc k i : ℕ) (line : Line) (reading : Result Command ReadFault)
    (given : Verdict) → IsVerdict cfg H k i line reading given → IsQueue cfg H h inc → (so : Bool)
    → is_of k i h inc ≡ so → IsQueue cfg (LineEntered k i line reading given ∷ H) h inc
by_slot cfg H h inc k i line reading given allows is true own =
    let both = and_parts _ _ own in
    let same_slot : k ≡ h = eqb-true k h both.0 in
    let same_inc : i ≡ inc = eqb-true i inc both.1 in
    subst (λ a. IsQueue cfg (LineEntered a i line reading given ∷ H) h inc) (sym same_slot)
    (subst (λ b. IsQueue cfg (LineEntered h b line reading given ∷ H) h inc) (sym same_inc)
    (line_queue cfg H h inc line reading given (subst (λ a. IsVerdict cfg H a inc line reading given) same_slot
    (subst (λ b. IsVerdict cfg H k b line reading given) same_inc allows)) is))
by_slot cfg H h inc k i line reading given allows is false other =
    let same : replies cfg h inc (LineEntered k i line reading given ∷ H) ≡ replies cfg h inc H =
    ap (λ so. if so then replies cfg h inc H ++ line_replies cfg H h inc reading given else replies cfg h inc H)
    other in
    record {
      taken_few = rw same is.taken_few;
      few = λ has. rw same (is.few has);
      unborn = λ early. rw same (is.unborn early);
      born = is.born;
    }

taken_by_slot : (cfg : Sections) (H : History) (h inc k i : ℕ) (given : Take) → AllowsTake cfg H k i given
    → IsQueue cfg H h inc → (so : Bool) → is_of k i h inc ≡ so → IsQueue cfg (RepliesTaken k i given ∷ H) h inc
taken_by_slot cfg H h inc k i given allows is true own =
    let both = and_parts _ _ own in
    let same_slot : k ≡ h = eqb-true k h both.0 in
    let same_inc : i ≡ inc = eqb-true i inc both.1 in
    subst (λ a. IsQueue cfg (RepliesTaken a i given ∷ H) h inc) (sym same_slot)
    (subst (λ b. IsQueue cfg (RepliesTaken h b given ∷ H) h inc) (sym same_inc)
    (take_queue cfg H h inc given (subst (λ a. AllowsTake cfg H a inc given) same_slot
    (subst (λ b. AllowsTake cfg H k b given) same_inc allows)) is))
taken_by_slot cfg H h inc k i given allows is false other =
    let same : taken h inc (RepliesTaken k i given ∷ H) ≡ taken h inc H =
    ap (λ so. if so then taken h inc H ++ handed_out given else taken h inc H) other in
    record {
      taken_few = rw same is.taken_few;
      few = λ has. rw same (is.few has);
      unborn = is.unborn;
      born = is.born;
    }

started_by_slot : (cfg : Sections) (H : History) (h inc k now own : ℕ) (run : ArrayVec ℕ)
    → own ≡ starts_counted k H + 1 → IsQueue cfg H h inc → (so : Bool) → (k == h) ≡ so
    → IsQueue cfg (SpawnAsked k now (spawn.Go own run) ∷ H) h inc
started_by_slot cfg H h inc k now own run counts is true same =
    let same_slot : k ≡ h = eqb-true k h same in
    subst (λ a. IsQueue cfg (SpawnAsked a now (spawn.Go own run) ∷ H) h inc) (sym same_slot)
    (start_queue cfg H h now own inc run (subst (λ a. own ≡ starts_counted a H + 1) same_slot counts) is)
started_by_slot cfg H h inc k now own run counts is false other =
    let entry = SpawnAsked k now (spawn.Go own run) in
    let same_starts : starts_counted h (entry ∷ H) ≡ starts_counted h H =
    ap (λ so. if so then starts_counted h H + 1 else starts_counted h H) other in
    let same_queue : has_queue cfg h inc (entry ∷ H) ≡ has_queue cfg h inc H =
    ap (λ so. if so then own == inc else has_queue cfg h inc H) other in
    let same_child : child cfg h (entry ∷ H) ≡ child cfg h H =
    ap (λ so. if so then Running own else child cfg h H) other in
    record {
      taken_few = is.taken_few;
      few = λ has. is.few (sym same_queue ∙ has);
      unborn = λ early. is.unborn (subst (λ n. n < inc) same_starts early);
      born = λ runs. subst (λ n. inc ≤ n) (sym same_starts)
          (is.born (sym (ap (λ c. is_running c inc) same_child) ∙ runs));
    }

is_queue : (cfg : Sections) (h inc : ℕ) (H : History) → IsLegal cfg H → IsQueue cfg H h inc
is_queue cfg h inc [] legal = record {
  taken_few = omega arith;
  few = λ has. cc;
  unborn = λ early. refl;
  born = λ runs. cc;
}
is_queue cfg h inc (LineEntered k i line reading given ∷ H) legal =
    by_slot cfg H h inc k i line reading given legal.0.1 (is_queue cfg h inc H legal.1) (is_of k i h inc) refl
is_queue cfg h inc (RepliesTaken k i given ∷ H) legal =
    taken_by_slot cfg H h inc k i given legal.0 (is_queue cfg h inc H legal.1) (is_of k i h inc) refl
is_queue cfg h inc (SpawnAsked k now (spawn.Go own run) ∷ H) legal =
    started_by_slot cfg H h inc k now own run (incarnations_count cfg H k now own run legal)
    (is_queue cfg h inc H legal.1) (k == h) refl
is_queue cfg h inc (HelperDeaf k i ∷ H) legal =
    let is = is_queue cfg h inc H legal.1 in
    record {
      taken_few = is.taken_few;
      few = λ has. is.few (kept_queue (is_of k i h inc) (has_queue cfg h inc H) has);
      unborn = is.unborn;
      born = λ runs. is.born (chosen_runs (k == h) (deafened i (child cfg h H)) (child cfg h H) inc
          (deafened_runs i inc (child cfg h H)) runs);
    }
is_queue cfg h inc (HelperGone k i ∷ H) legal =
    let is = is_queue cfg h inc H legal.1 in
    record {
      taken_few = is.taken_few;
      few = is.few;
      unborn = is.unborn;
      born = λ runs. is.born (chosen_runs (k == h) (without i (child cfg h H)) (child cfg h H) inc
          (without_runs i inc (child cfg h H)) runs);
    }
is_queue cfg h inc (Reloaded new reload.Ok ∷ H) legal =
    let is = is_queue cfg h inc H legal.1 in
    record {
      taken_few = is.taken_few;
      few = λ has. is.few (left_queue (leaves cfg H new h) (has_queue cfg h inc H) has);
      unborn = is.unborn;
      born = λ runs. is.born (left_child (leaves cfg H new h) (child cfg h H) inc runs);
    }
is_queue cfg h inc (entry ∷ H) legal =
    let is = is_queue cfg h inc H legal.1 in
    record { taken_few = is.taken_few; few = is.few; unborn = is.unborn; born = is.born }

pub queues_are_bounded : QueuesAreBounded
queues_are_bounded cfg H h inc legal = within_bound cfg H h inc (is_queue cfg h inc H legal)
