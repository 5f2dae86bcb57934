-- Replies that are taken until fewer come, and messages that are cut until none comes.
use Rattle.std.proofs.Common.{ℕ, ◌≡◌, ◌≢◌, ◌⊎◌, Bool, true, false, List, [], ◌∷◌, ◌++◌, Ok, Err, Result, refl, sym}
use Rattle.std.proofs.Common.{subst, ◌∙◌}
use Rattle.std.proofs.Common.{append_assoc, inl, inr}
use Rattle.std.specs.List.{AllByRecursion}
use Rattle.outside.specs.Seen.{SinkSeen}
use Rattle.text_forms.specs.Lines.{Line}
use Rattle.config_model.specs.Sections.{Sections}
use Rattle.book_history.specs.declared.outcomes.Cut.{Cut}
use Rattle.book_history.specs.declared.outcomes.Cut.TheVariants as cut
use Rattle.book_history.specs.declared.outcomes.Take.{Take}
use Rattle.book_history.specs.declared.outcomes.Take.TheVariants as take
use Rattle.book_history.specs.declared.outcomes.Verdict.{Verdict}
use Rattle.book_history.specs.declared.outcomes.Verdict.TheVariants as verdict
use Rattle.book_history.specs.declared.outcomes.Why.{Why}
use Rattle.book_history.specs.Entries.{Entry, History}
use Rattle.book_history.specs.Entries.Entry.{LineEntered, MessageCut, RepliesTaken}
use Rattle.book_history.specs.Legal.{IsLegal}
use Rattle.answer_texts.specs.Shown.{encoded}
use Rattle.text_history.specs.Encodes.{AddsAnswer, AreTaken, IsFullTake, is_full}
use Rattle.text_history.specs.Plays.{IsDrain, IsMessageOf, is_message}
use Rattle.script_play.specs.declared.halt.Halt.{Halt}
use Rattle.script_play.specs.declared.halt.Halt.TheVariants as halt
use Rattle.script_play.specs.declared.player.Player.{Player}
use Rattle.script_play.specs.Player.{PlayerStands}
use Rattle.script_play.specs.Writing.{Wrote}
use Rattle.script_play.specs.Encoding.{Added, AddsAll, CutsOnce, EntersLine, Printed}
use Rattle.script_play.specs.Encoding.{TakesOnce, WritesText, WrotePart}
use Rattle.script_play.proofs.AddedLemmas.{all_both, run_last, run_left, run_none, run_stopped, writes_later}
use Rattle.script_play.proofs.AddedLemmas.{wrote_none}

-- what a call leaves that makes an entry and writes what is printed of it
entry_printed : (entry : Entry) (cfg : Sections) (H : History) (player : Player) (sink sink' : SinkSeen)
    → PlayerStands cfg (entry ∷ H) player → WritesText (encoded entry) sink sink' (Ok tt)
    → Printed entry cfg H player sink sink'
entry_printed entry cfg H player sink sink' stands wrote = record { stands = stands; wrote = wrote }

pub took_once : (given : Take) (full : Bool) (cfg : Sections) (H : History) (player : Player) (sink sink' : SinkSeen)
    → full ≡ is_full given → PlayerStands cfg (RepliesTaken 0 1 given ∷ H) player
    → WritesText (encoded (RepliesTaken 0 1 given)) sink sink' (Ok tt) → TakesOnce cfg H player sink sink' (Ok full)
took_once given full cfg H player sink sink' is stands wrote =
    (given, sym is, entry_printed (RepliesTaken 0 1 given) cfg H player sink sink' stands wrote)

pub took_part : (given : Take) (cfg : Sections) (H : History) (now player : Player) (sink sink' : SinkSeen)
    (halted : Halt)
    → PlayerStands cfg (RepliesTaken 0 1 given ∷ H) player
    → WritesText (encoded (RepliesTaken 0 1 given)) sink sink' (Err halted)
    → TakesOnce cfg H now sink sink' (Err halted)
took_part given cfg H now player sink sink' halted stands wrote =
    (given, record { legal = stands.book.held.legal; wrote = wrote.0 }, wrote.1)

pub made_once : (n : ℕ) (bytes : List ℕ) (given : Cut) (came : Bool) (cfg : Sections) (H : History) (player : Player)
    (sink sink' : SinkSeen) → came ≡ is_message given → PlayerStands cfg (MessageCut n bytes given ∷ H) player
    → WritesText (encoded (MessageCut n bytes given)) sink sink' (Ok tt) → CutsOnce n cfg H player sink sink' (Ok came)
made_once n bytes given came cfg H player sink sink' is stands wrote =
    (bytes, given, sym is, entry_printed (MessageCut n bytes given) cfg H player sink sink' stands wrote)

pub made_part : (n : ℕ) (bytes : List ℕ) (given : Cut) (cfg : Sections) (H : History) (now player : Player)
    (sink sink' : SinkSeen) (halted : Halt) → PlayerStands cfg (MessageCut n bytes given ∷ H) player
    → WritesText (encoded (MessageCut n bytes given)) sink sink' (Err halted)
    → CutsOnce n cfg H now sink sink' (Err halted)
made_part n bytes given cfg H now player sink sink' halted stands wrote =
    (bytes, given, record { legal = stands.book.held.legal; wrote = wrote.0 }, wrote.1)

-- takes that were as many as may be
pub record TakenSoFar (cfg : Sections) (H : History) (player : Player) (sink sink' : SinkSeen) : Type 0 where
  pub run : Added (AllByRecursion IsFullTake) cfg H player sink sink'

pub taken_none : (cfg : Sections) (H : History) (player : Player) (sink : SinkSeen) → PlayerStands cfg H player
    → TakenSoFar cfg H player sink sink
taken_none cfg H player sink stands = record { run = run_none IsFullTake cfg H player sink stands }

pub taken_more : (cfg : Sections) (H : History) (between player : Player) (sink mid sink' : SinkSeen) (so : Bool)
    (was : TakenSoFar cfg H between sink mid) → so ≡ true
    → TakesOnce cfg (was.run.added ++ H) player mid sink' (Ok so) → TakenSoFar cfg H player sink sink'
taken_more cfg H between player sink mid sink' so was is (given, full, printed) = record {
  run =
      run_last (AllByRecursion IsFullTake) cfg H sink mid sink' was.run.added (RepliesTaken 0 1 given) player
      was.run.wrote (record { given = given; full = full ∙ is; entry_is = refl }, was.run.adds) printed;
}

pub taken_last : (cfg : Sections) (H : History) (between player : Player) (sink mid sink' : SinkSeen) (so : Bool)
    (was : TakenSoFar cfg H between sink mid) → so ≡ false
    → TakesOnce cfg (was.run.added ++ H) player mid sink' (Ok so) → Added AreTaken cfg H player sink sink'
taken_last cfg H between player sink mid sink' so was is (given, few, printed) =
    run_last AreTaken cfg H sink mid sink' was.run.added (RepliesTaken 0 1 given) player was.run.wrote
    (record { given = given; full = was.run.added; ended = few ∙ is; are = was.run.adds; taken_are = refl }) printed

-- replies that are taken behind full takes, and then an end
taken_with : (given : Take) (full : Bool) (entries : History) → is_full given ≡ full → AllByRecursion IsFullTake entries
    → (more : History) × AreTaken (more ++ RepliesTaken 0 1 given ∷ entries)
taken_with given true entries is are = (
  RepliesTaken 0 1 take.Ended ∷ [],
  record {
    given = take.Ended;
    full = RepliesTaken 0 1 given ∷ entries;
    ended = refl;
    are = (record { given = given; full = is; entry_is = refl }, are);
    taken_are = refl;
  },
)
taken_with given false entries is are = (
  [],
  record { given = given; full = entries; ended = is; are = are; taken_are = refl },
)

pub taken_stopped : (cfg : Sections) (H : History) (between player now : Player) (sink mid sink' : SinkSeen)
    (halted : Halt) (was : TakenSoFar cfg H between sink mid)
    → TakesOnce cfg (was.run.added ++ H) player mid sink' (Err halted)
    → AddsAll AreTaken cfg H now sink sink' (Err halted)
taken_stopped cfg H between player now sink mid sink' halted was (given, printed, stops) =
    let done = taken_with given (is_full given) was.run.added refl was.run.adds in (
      run_stopped AreTaken cfg H sink mid sink' was.run.added done.0 (RepliesTaken 0 1 given) was.run.wrote done.1
          printed,
      writes_later sink mid sink' halted was.run.wrote.same stops,
    )

pub taken_endless : (cfg : Sections) (H : History) (between now : Player) (sink sink' : SinkSeen)
    → TakenSoFar cfg H between sink sink' → AddsAll AreTaken cfg H now sink sink' (Err halt.Memory)
taken_endless cfg H between now sink sink' was = (
  run_left IsFullTake AreTaken cfg H (RepliesTaken 0 1 take.Ended ∷ []) between sink sink' was.run
      (record { given = take.Ended; full = was.run.added; ended = refl; are = was.run.adds; taken_are = refl }),
  was.run.wrote.same,
)

-- cuts that made messages
pub record CutSoFar (n : ℕ) (cfg : Sections) (H : History) (player : Player) (sink sink' : SinkSeen) : Type 0 where
  pub run : Added (AllByRecursion (IsMessageOf n)) cfg H player sink sink'

pub cut_none : (n : ℕ) (cfg : Sections) (H : History) (player : Player) (sink : SinkSeen) → PlayerStands cfg H player
    → CutSoFar n cfg H player sink sink
cut_none n cfg H player sink stands = record { run = run_none (IsMessageOf n) cfg H player sink stands }

message_of : (n : ℕ) (bytes : List ℕ) (given : Cut) → is_message given ≡ true → IsMessageOf n (MessageCut n bytes given)
message_of n bytes cut.Down is = absurd cc
message_of n bytes (cut.Reset code sub) is = absurd cc
message_of n bytes cut.Nothing is = absurd cc
message_of n bytes (cut.Message last) is = record { bytes = bytes; last = last; entry_is = refl }

pub no_message : (given : Cut) → ((last : Bool) → given ≢ cut.Message last) → false ≡ is_message given
no_message cut.Down none = refl
no_message (cut.Reset code sub) none = refl
no_message cut.Nothing none = refl
no_message (cut.Message last) none = absurd (none last refl)

pub cut_more : (n : ℕ) (cfg : Sections) (H : History) (between player : Player) (sink mid sink' : SinkSeen) (so : Bool)
    (was : CutSoFar n cfg H between sink mid) → so ≡ true
    → CutsOnce n cfg (was.run.added ++ H) player mid sink' (Ok so) → CutSoFar n cfg H player sink sink'
cut_more n cfg H between player sink mid sink' so was came (bytes, given, is, printed) = record {
  run =
      run_last (AllByRecursion (IsMessageOf n)) cfg H sink mid sink' was.run.added (MessageCut n bytes given) player
      was.run.wrote (message_of n bytes given (is ∙ came), was.run.adds) printed;
}

pub cut_last : (n : ℕ) (cfg : Sections) (H : History) (between player : Player) (sink mid sink' : SinkSeen) (so : Bool)
    (was : CutSoFar n cfg H between sink mid) → so ≡ false
    → CutsOnce n cfg (was.run.added ++ H) player mid sink' (Ok so) → Added (IsDrain n) cfg H player sink sink'
cut_last n cfg H between player sink mid sink' so was came (bytes, given, is, printed) =
    run_last (IsDrain n) cfg H sink mid sink' was.run.added (MessageCut n bytes given) player was.run.wrote
    (record {
      bytes = bytes;
      given = given;
      messages = was.run.added;
      none = is ∙ came;
      are = was.run.adds;
      added_are = refl;
    })
    printed

-- messages, and then none
drain_with : (n : ℕ) (bytes : List ℕ) (given : Cut) (came : Bool) (entries : History) → is_message given ≡ came
    → AllByRecursion (IsMessageOf n) entries → (more : History) × IsDrain n (more ++ MessageCut n bytes given ∷ entries)
drain_with n bytes given true entries is are = (
  MessageCut n [] cut.Down ∷ [],
  record {
    bytes = [];
    given = cut.Down;
    messages = MessageCut n bytes given ∷ entries;
    none = refl;
    are = (message_of n bytes given is, are);
    added_are = refl;
  },
)
drain_with n bytes given false entries is are = (
  [],
  record { bytes = bytes; given = given; messages = entries; none = is; are = are; added_are = refl },
)

pub cut_stopped : (n : ℕ) (cfg : Sections) (H : History) (between player now : Player) (sink mid sink' : SinkSeen)
    (halted : Halt) (was : CutSoFar n cfg H between sink mid)
    → CutsOnce n cfg (was.run.added ++ H) player mid sink' (Err halted)
    → AddsAll (IsDrain n) cfg H now sink sink' (Err halted)
cut_stopped n cfg H between player now sink mid sink' halted was (bytes, given, printed, stops) =
    let done = drain_with n bytes given (is_message given) was.run.added refl was.run.adds in (
      run_stopped (IsDrain n) cfg H sink mid sink' was.run.added done.0 (MessageCut n bytes given) was.run.wrote done.1
          printed,
      writes_later sink mid sink' halted was.run.wrote.same stops,
    )

pub cut_endless : (n : ℕ) (cfg : Sections) (H : History) (between now : Player) (sink sink' : SinkSeen)
    → CutSoFar n cfg H between sink sink' → AddsAll (IsDrain n) cfg H now sink sink' (Err halt.Memory)
cut_endless n cfg H between now sink sink' was = (
  run_left (IsMessageOf n) (IsDrain n) cfg H (MessageCut n [] cut.Down ∷ []) between sink sink' was.run
      (record {
        bytes = [];
        given = cut.Down;
        messages = was.run.added;
        none = refl;
        are = was.run.adds;
        added_are = refl;
      }),
  was.run.wrote.same,
)

-- a line that was given another verdict came in time
pub in_time : (given : Verdict)
    → (given ≡ verdict.Done) ⊎ ((given ≡ verdict.Busy) ⊎ ((why : Why) × (given ≡ verdict.Error why)))
    → given ≢ verdict.Ended
in_time verdict.Ended (inl is) = absurd cc
in_time verdict.Ended (inr (inl is)) = absurd cc
in_time verdict.Ended (inr (inr (why, is))) = absurd cc
in_time verdict.Busy is = λ ended. absurd cc
in_time (verdict.Error why) is = λ ended. absurd cc
in_time verdict.Done is = λ ended. absurd cc

-- a line that came too late
pub line_late : (cfg : Sections) (H : History) (line : Line) (player : Player) (sink : SinkSeen)
    → EntersLine cfg H line verdict.Ended player → AddsAll (AddsAnswer H line) cfg H player sink sink (Ok tt)
line_late cfg H line player sink entered = record {
  added = LineEntered 0 1 line entered.reading verdict.Ended ∷ [];
  adds =
      record {
        reading = entered.reading;
        given = verdict.Ended;
        taken = [];
        replies = inl (refl, refl);
        added_are = refl;
      };
  stands = entered.stands;
  wrote = wrote_none sink;
}

-- a line, and then its replies
pub line_answered : (cfg : Sections) (H : History) (line : Line) (given : Verdict) (between player : Player)
    (sink sink' : SinkSeen) (result : Result (Unit {0}) Halt) → given ≢ verdict.Ended
    → (entered : EntersLine cfg H line given between)
    → AddsAll AreTaken cfg (LineEntered 0 1 line entered.reading given ∷ H) player sink sink' result
    → AddsAll (AddsAnswer H line) cfg H player sink sink' result
line_answered cfg H line given between player sink sink' (Ok done) taken entered took =
    let entry : Entry = LineEntered 0 1 line entered.reading given in
    record {
      added = took.added ++ entry ∷ [];
      adds =
          record {
            reading = entered.reading;
            given = given;
            taken = took.added;
            replies = inr (taken, took.adds);
            added_are = refl;
          };
      stands =
          subst (λ (all : History). PlayerStands cfg all player) (sym (append_assoc took.added (entry ∷ []) H))
          took.stands;
      wrote =
          subst (λ (text : List ℕ). Wrote text sink sink') (sym (all_both encoded took.added (entry ∷ []))) took.wrote;
    }
line_answered cfg H line given between player sink sink' (Err halted) taken entered (part, stops) =
    let entry : Entry = LineEntered 0 1 line entered.reading given in (
      record {
        added = part.added ++ entry ∷ [];
        more = part.more;
        adds =
            record {
              reading = entered.reading;
              given = given;
              taken = part.more ++ part.added;
              replies = inr (taken, part.adds);
              added_are = sym (append_assoc part.more part.added (entry ∷ []));
            };
        legal = subst (IsLegal cfg) (sym (append_assoc part.added (entry ∷ []) H)) part.legal;
        wrote =
            subst (λ (text : List ℕ). WrotePart text sink sink') (sym (all_both encoded part.added (entry ∷ [])))
            part.wrote;
      },
      stops,
    )
