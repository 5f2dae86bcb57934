-- Entries that are no concern of a slot.
use Rattle.std.proofs.Common.{◌≡◌, ℕ, ◌+◌, Bool, true, false, List, [], ◌∷◌, ◌++◌, Ok}
use Rattle.std.proofs.Common.{Err, refl, ap, ◌∙◌, append-nil}
use Rattle.std.specs.Prelude.{◌==◌, ◌&&◌, if◌then◌else◌, Option, Some, None, Result, IsTrue}
use Rattle.std.proofs.lemmas.Bool.{not-true}
use Rattle.text_forms.specs.Lines.{Line}
use Rattle.route_grammar.specs.declared.fault.ReadFault.{ReadFault}
use Rattle.respawn_window.specs.Starts.{with_start}
use Rattle.ack_queue.specs.declared.reply.Reply.{Reply}
use Rattle.command_grammar.specs.declared.command.Command.{Command}
use Rattle.config_model.specs.declared.sections.Process.{Process}
use Rattle.config_model.specs.Sections.{Sections}
use Rattle.book_history.specs.declared.outcomes.Reload.TheVariants as reload
use Rattle.book_history.specs.declared.outcomes.Spawn.{Spawn}
use Rattle.book_history.specs.declared.outcomes.Spawn.TheVariants as spawn
use Rattle.book_history.specs.declared.outcomes.Take.{Take}
use Rattle.book_history.specs.declared.outcomes.Verdict.{Verdict}
use Rattle.book_history.specs.declared.outcomes.Verdict.TheVariants as verdict
use Rattle.book_history.specs.Entries.{Entry, History}
use Rattle.book_history.specs.Entries.Entry.{LineEntered, RepliesTaken, HelperDeaf, HelperGone, SpawnAsked, Reloaded}
use Rattle.book_history.specs.Helpers.{child, deafened, is_given_up, last_inc, starts}
use Rattle.book_history.specs.Helpers.{starts_counted, stays, without}
use Rattle.book_history.specs.Helpers.Child.{NoChild, Running}
use Rattle.book_history.specs.Replies.{acks, acks_after, handed_out, has_queue, is_of, line_replies, replies, taken}
use Rattle.book_history.specs.Slots.{process_at}
use Rattle.book_history.proofs.SelectingLemmas.{processes_are_decided}
use Rattle.helper_book.specs.Apart.{is_apart, OthersLeave, ReloadsLeave}
use Rattle.helper_book.proofs.SameLemmas.{TellSame, IsSame, same_stands}

-- a line that isn't taken

unanswered : (so : Bool) (rs : List Reply) → (if so then rs ++ [] else rs) ≡ rs
unanswered true rs = append-nil rs
unanswered false rs = refl

ended_silent : (cfg : Sections) (H : History) (h inc : ℕ) (reading : Result Command ReadFault)
    → line_replies cfg H h inc reading verdict.Ended ≡ []
ended_silent cfg H h inc (Ok given) = refl
ended_silent cfg H h inc (Err fault) = refl

busy_silent : (cfg : Sections) (H : History) (h inc : ℕ) (reading : Result Command ReadFault)
    → line_replies cfg H h inc reading verdict.Busy ≡ []
busy_silent cfg H h inc (Ok given) = refl
busy_silent cfg H h inc (Err fault) = refl

silent_line : (cfg : Sections) (H : History) (h i k inc : ℕ) (line : Line) (reading : Result Command ReadFault)
    (given : Verdict) → line_replies cfg H h i reading given ≡ []
    → replies cfg h i (LineEntered k inc line reading given ∷ H) ≡ replies cfg h i H
silent_line cfg H h i k inc line reading given silent =
    ap (λ (more : List Reply). if is_of k inc h i then replies cfg h i H ++ more else replies cfg h i H) silent
    ∙ unanswered (is_of k inc h i) (replies cfg h i H)

pub ended_acks : (h i k inc : ℕ) (line : Line) (reading : Result Command ReadFault) (H : History)
    → acks h i (LineEntered k inc line reading verdict.Ended ∷ H) ≡ acks h i H
ended_acks h i k inc line (Ok given) H = refl
ended_acks h i k inc line (Err fault) H = refl

pub busy_acks : (h i k inc : ℕ) (line : Line) (reading : Result Command ReadFault) (H : History)
    → acks h i (LineEntered k inc line reading verdict.Busy ∷ H) ≡ acks h i H
busy_acks h i k inc line (Ok given) H = refl
busy_acks h i k inc line (Err fault) H = refl

-- a line of another incarnation

pub other_acks : (h i k inc : ℕ) (line : Line) (reading : Result Command ReadFault) (given : Verdict) (H : History)
    → is_of k inc h i ≡ false → acks h i (LineEntered k inc line reading given ∷ H) ≡ acks h i H
other_acks h i k inc line (Ok given) verdict.Done H other =
    ap (λ so. if so then acks_after given (acks h i H) else acks h i H) other
other_acks h i k inc line (Err fault) verdict.Done H other = refl
other_acks h i k inc line reading verdict.Ended H other = ended_acks h i k inc line reading H
other_acks h i k inc line reading verdict.Busy H other = busy_acks h i k inc line reading H
other_acks h i k inc line (Ok given) (verdict.Error because) H other = refl
other_acks h i k inc line (Err fault) (verdict.Error because) H other = refl

pub other_line : (cfg : Sections) (H : History) (h i k inc : ℕ) (line : Line) (reading : Result Command ReadFault)
    (given : Verdict) → is_of k inc h i ≡ false → TellSame cfg H (LineEntered k inc line reading given ∷ H) h i
other_line cfg H h i k inc line reading given other = record {
  said = ap (λ so. if so then replies cfg h i H ++ line_replies cfg H h i reading given else replies cfg h i H) other;
  handed = refl;
  on = other_acks h i k inc line reading given H other;
  queue = refl;
}

pub other_slot : (h k i inc : ℕ) → (k == h) ≡ false → is_of k inc h i ≡ false
other_slot h k i inc other = ap (λ so. so && inc == i) other

line_same : (cfg : Sections) (H : History) (h k inc : ℕ) (line : Line) (reading : Result Command ReadFault)
    (given : Verdict) → ((i : ℕ) → TellSame cfg H (LineEntered k inc line reading given ∷ H) h i)
    → IsSame cfg H (LineEntered k inc line reading given ∷ H) h
line_same cfg H h k inc line reading given each = record {
  section = refl;
  own_child = refl;
  given_up = refl;
  count = refl;
  last = refl;
  moments = refl;
  each = each;
}

-- replies that are taken

pub take_same : (cfg : Sections) (H : History) (h k inc : ℕ) (given : Take)
    → ((i : ℕ) → taken h i (RepliesTaken k inc given ∷ H) ≡ taken h i H)
    → IsSame cfg H (RepliesTaken k inc given ∷ H) h
take_same cfg H h k inc given each = record {
  section = refl;
  own_child = refl;
  given_up = refl;
  count = refl;
  last = refl;
  moments = refl;
  each = λ i. record { said = refl; handed = each i; on = refl; queue = refl };
}

pub none_taken : (H : History) (h k inc : ℕ) (given : Take) → handed_out given ≡ [] → (i : ℕ)
    → taken h i (RepliesTaken k inc given ∷ H) ≡ taken h i H
none_taken H h k inc given none i =
    ap (λ (more : List Reply). if is_of k inc h i then taken h i H ++ more else taken h i H) none
    ∙ unanswered (is_of k inc h i) (taken h i H)

other_taken : (H : History) (h k inc : ℕ) (given : Take) → (k == h) ≡ false → (i : ℕ)
    → taken h i (RepliesTaken k inc given ∷ H) ≡ taken h i H
other_taken H h k inc given other i =
    ap (λ so. if so then taken h i H ++ handed_out given else taken h i H) (other_slot h k i inc other)

-- a helper of another slot

deaf_same : (cfg : Sections) (H : History) (h k inc : ℕ) → (k == h) ≡ false → IsSame cfg H (HelperDeaf k inc ∷ H) h
deaf_same cfg H h k inc other = record {
  section = refl;
  own_child = ap (λ so. if so then deafened inc (child cfg h H) else child cfg h H) other;
  given_up = refl;
  count = refl;
  last = refl;
  moments = refl;
  each = λ i. record {
    said = refl;
    handed = refl;
    on = refl;
    queue = ap (λ so. if so then false else has_queue cfg h i H) (other_slot h k i inc other);
  };
}

gone_same : (cfg : Sections) (H : History) (h k inc : ℕ) → (k == h) ≡ false → IsSame cfg H (HelperGone k inc ∷ H) h
gone_same cfg H h k inc other = record {
  section = refl;
  own_child = ap (λ so. if so then without inc (child cfg h H) else child cfg h H) other;
  given_up = refl;
  count = refl;
  last = refl;
  moments = refl;
  each = λ i. record { said = refl; handed = refl; on = refl; queue = refl };
}

pub stopping_same : (cfg : Sections) (H : History) (h k now : ℕ)
    → IsSame cfg H (SpawnAsked k now spawn.Stopping ∷ H) h
stopping_same cfg H h k now = record {
  section = refl;
  own_child = refl;
  given_up = refl;
  count = refl;
  last = refl;
  moments = refl;
  each = λ i. record { said = refl; handed = refl; on = refl; queue = refl };
}

pub absent_same : (cfg : Sections) (H : History) (h k now : ℕ) → IsSame cfg H (SpawnAsked k now spawn.Absent ∷ H) h
absent_same cfg H h k now = record {
  section = refl;
  own_child = refl;
  given_up = refl;
  count = refl;
  last = refl;
  moments = refl;
  each = λ i. record { said = refl; handed = refl; on = refl; queue = refl };
}

pub running_same : (cfg : Sections) (H : History) (h k now : ℕ) → IsSame cfg H (SpawnAsked k now spawn.Running ∷ H) h
running_same cfg H h k now = record {
  section = refl;
  own_child = refl;
  given_up = refl;
  count = refl;
  last = refl;
  moments = refl;
  each = λ i. record { said = refl; handed = refl; on = refl; queue = refl };
}

spawn_same : (cfg : Sections) (H : History) (h k now : ℕ) (given : Spawn) → (k == h) ≡ false
    → IsSame cfg H (SpawnAsked k now given ∷ H) h
spawn_same cfg H h k now spawn.Stopping other = stopping_same cfg H h k now
spawn_same cfg H h k now spawn.Absent other = absent_same cfg H h k now
spawn_same cfg H h k now spawn.Running other = running_same cfg H h k now
spawn_same cfg H h k now spawn.GiveUp other = record {
  section = refl;
  own_child = refl;
  given_up = ap (λ so. if so then true else is_given_up cfg h H) other;
  count = refl;
  last = refl;
  moments = refl;
  each = λ i. record { said = refl; handed = refl; on = refl; queue = refl };
}
spawn_same cfg H h k now (spawn.Go inc run) other = record {
  section = refl;
  own_child = ap (λ so. if so then Running inc else child cfg h H) other;
  given_up = refl;
  count = ap (λ so. if so then starts_counted h H + 1 else starts_counted h H) other;
  last = ap (λ so. if so then inc else last_inc h H) other;
  moments = ap (λ so. with_start so (starts cfg h H) now) other;
  each = λ i. record {
    said = refl;
    handed = refl;
    on = refl;
    queue = ap (λ so. if so then inc == i else has_queue cfg h i H) other;
  };
}

-- any entry that is no concern of the slot
apart_same : (cfg : Sections) (H : History) (h : ℕ) (entry : Entry) → IsTrue (is_apart h entry)
    → IsSame cfg H (entry ∷ H) h
apart_same cfg H h (LineEntered k inc line reading verdict.Ended) apart =
    line_same cfg H h k inc line reading verdict.Ended (λ i. record {
      said = silent_line cfg H h i k inc line reading verdict.Ended (ended_silent cfg H h i reading);
      handed = refl;
      on = ended_acks h i k inc line reading H;
      queue = refl;
    })
apart_same cfg H h (LineEntered k inc line reading verdict.Busy) apart =
    line_same cfg H h k inc line reading verdict.Busy (λ i. record {
      said = silent_line cfg H h i k inc line reading verdict.Busy (busy_silent cfg H h i reading);
      handed = refl;
      on = busy_acks h i k inc line reading H;
      queue = refl;
    })
apart_same cfg H h (LineEntered k inc line reading given) apart =
    line_same cfg H h k inc line reading given (λ i. other_line cfg H h i k inc line reading given
    (other_slot h k i inc (not-true (k == h) apart)))
apart_same cfg H h (RepliesTaken k inc given) apart =
    take_same cfg H h k inc given (other_taken H h k inc given (not-true (k == h) apart))
apart_same cfg H h (HelperDeaf k inc) apart = deaf_same cfg H h k inc (not-true (k == h) apart)
apart_same cfg H h (HelperGone k inc) apart = gone_same cfg H h k inc (not-true (k == h) apart)
apart_same cfg H h (SpawnAsked k now given) apart = spawn_same cfg H h k now given (not-true (k == h) apart)
apart_same cfg H h (Reloaded new reload.Ok) apart = absurd (let never : false ≡ true = apart in cc)
apart_same cfg H h entry apart = record {
  section = refl;
  own_child = refl;
  given_up = refl;
  count = refl;
  last = refl;
  moments = refl;
  each = λ i. record { said = refl; handed = refl; on = refl; queue = refl };
}

pub others_leave : OthersLeave
others_leave cfg H h helper entry apart is =
    same_stands cfg H (entry ∷ H) h helper (apart_same cfg H h entry apart) is

-- a reload that leaves the process as it was

pub stays_is : (old new : Option Process) → stays old new ≡ true → new ≡ old
stays_is None None so = refl
stays_is None (Some new) so = cc
stays_is (Some old) None so = cc
stays_is (Some old) (Some new) so = let same = (processes_are_decided old new).0 so in cc

pub stays_self : (process : Option Process) → stays process process ≡ true
stays_self None = refl
stays_self (Some process) = (processes_are_decided process process).1 refl

pub reloads_leave : ReloadsLeave
reloads_leave cfg new H h helper so is =
    same_stands cfg H (Reloaded new reload.Ok ∷ H) h helper (record {
      section = stays_is (process_at cfg H h) (process_at cfg (Reloaded new reload.Ok ∷ H) h) so;
      own_child = ap (λ b. if b then child cfg h H else NoChild) so;
      given_up = ap (λ b. b && is_given_up cfg h H) so;
      count = refl;
      last = refl;
      moments = ap (λ (b : Bool). if b then starts cfg h H else []) so;
      each = λ i. record {
        said = refl;
        handed = refl;
        on = refl;
        queue = ap (λ b. b && has_queue cfg h i H) so;
      };
    }) is
