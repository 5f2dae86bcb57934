-- Line entries, one behind the other.
use Rattle.std.proofs.Common.{ℕ, zero, suc, ◌≡◌, Bool, true, false, true≢false, ◌||◌, List, [], ◌∷◌, ◌++◌, Result}
use Rattle.std.proofs.Common.{replicate, refl, ap, ap₂, sym, subst, ◌∙◌, append-nil}
use Rattle.std.proofs.lemmas.List.{map-append}
use Rattle.std.proofs.lemmas.List.Concat.{flat_map-append}
use Rattle.text_forms.specs.Lines.{Line}
use Rattle.route_grammar.specs.declared.fault.ReadFault.{ReadFault}
use Rattle.command_grammar.specs.declared.command.Command.{Command}
use Rattle.book_history.specs.declared.outcomes.Verdict.{Verdict}
use Rattle.book_history.specs.declared.outcomes.Verdict.TheVariants as verdict
use Rattle.book_history.specs.Entries.{Entry}
use Rattle.book_history.specs.Entries.Entry.{LineEntered}
use Rattle.book_gate.specs.Calls.{Enters}
use Rattle.book_gate.specs.Known.{Known}
use Rattle.pass_entries.specs.Making.{Makes}
use Rattle.pass_entries.proofs.MakingLemmas.{makes_more, makes_none, makes_one}
use Rattle.helper_worker.specs.Lines.{AreAsked, Asked, EntersLines, GoesOn, LineRun, entries_for, line_in}

pub or_false : (test : Bool) → (test || false) ≡ test
or_false true = refl
or_false false = refl

module _ {X : Type 0} where
  replicate_next : (count : ℕ) (item : X) → replicate count item ++ item ∷ [] ≡ replicate (suc count) item
  replicate_next zero item = refl
  replicate_next (suc count) item = ap (λ (items : List X). item ∷ items) (replicate_next count item)

-- what holds behind an answer, if more follows from what holds where the line was taken
goes_on : (given : Verdict) (taken taken' late late' : Type 0) → GoesOn given taken late → (taken → taken')
    → (late → ⊥) → GoesOn given taken' late'
goes_on verdict.Ended taken taken' late late' on next never = absurd (never on)
goes_on verdict.Busy taken taken' late late' on next never = on
goes_on (verdict.Error why) taken taken' late late' on next never = next on
goes_on verdict.Done taken taken' late late' on next never = next on

asked_both : (first second : List Asked) (late : Bool) → AreAsked first false → AreAsked second late
    → AreAsked (first ++ second) late
asked_both [] second late one other = other
asked_both (asked ∷ first) second late one other =
    goes_on asked.given (AreAsked first false) (AreAsked (first ++ second) late) ((first ≡ []) × (false ≡ true))
    ((first ++ second ≡ []) × (late ≡ true)) one (λ rest. asked_both first second late rest other)
    (λ never. true≢false (sym never.1))

-- behind entries of which none came too late
run_both : (h inc : ℕ) (first second : List Line) (late : Bool) (front back : List Entry)
    → LineRun h inc first false front → LineRun h inc second late back
    → LineRun h inc (first ++ second) late (front ++ back)
run_both h inc first second late front back one other =
    record {
      asked = one.asked ++ other.asked;
      entries_are =
          ap₂ (λ (first second : List Entry). first ++ second) one.entries_are other.entries_are
          ∙ sym (flat_map-append (entries_for h inc) one.asked other.asked);
      texts_are =
          map-append line_in one.asked other.asked
          ∙ ap₂ (λ (first second : List Line). first ++ second) one.texts_are other.texts_are;
      ends = asked_both one.asked other.asked late one.ends other.ends;
    }

-- no line behind the last
abbrev nothing : List Asked
nothing = []

module _ {A : Type 0} where
  pub lines_none : (pass : Known A Entry) (h inc : ℕ) → EntersLines pass h inc [] false pass
  lines_none pass h inc =
      record {
        entries = [];
        makes = makes_none pass;
        run = record { asked = []; entries_are = refl; texts_are = refl; ends = refl };
      }

  pub lines_both : (pass between later : Known A Entry) (h inc : ℕ) (first second : List Line) (late : Bool)
      → EntersLines pass h inc first false between → EntersLines between h inc second late later
      → EntersLines pass h inc (first ++ second) late later
  lines_both pass between later h inc first second late one other =
      record {
        entries = one.entries ++ other.entries;
        makes = makes_more pass between later one.entries other.entries one.makes other.makes;
        run = run_both h inc first second late one.entries other.entries one.run other.run;
      }

  -- a line was entered, so often, and its replies found no room
  pub record Waits (pass : Known A Entry) (h inc : ℕ) (line : Line) (reading : Result Command ReadFault)
      (later : Known A Entry) : Type 0 where
    pub waits : ℕ
    pub makes : Makes pass (replicate waits (LineEntered h inc line reading verdict.Busy)) later

  pub waits_none : (pass : Known A Entry) (h inc : ℕ) (line : Line) (reading : Result Command ReadFault)
      → Waits pass h inc line reading pass
  waits_none pass h inc line reading = record { waits = zero; makes = makes_none pass }

  pub waits_more : (law : A → List Entry → Entry → Type 0) (pass between later : Known A Entry) (h inc : ℕ)
      (line : Line) (reading : Result Command ReadFault) → Waits pass h inc line reading between
      → Enters law between (LineEntered h inc line reading verdict.Busy) later → Waits pass h inc line reading later
  waits_more law pass between later h inc line reading before entered =
      let busy : Entry = LineEntered h inc line reading verdict.Busy in
      record {
        waits = suc before.waits;
        makes =
            subst (λ (made : List Entry). Makes pass made later) (replicate_next before.waits busy)
            (makes_more pass between later (replicate before.waits busy) (busy ∷ []) before.makes
            (makes_one law between later busy entered));
      }

  -- and then it was taken, or came too late
  pub lines_one : (law : A → List Entry → Entry → Type 0) (pass between later : Known A Entry) (h inc : ℕ) (line : Line)
      (reading : Result Command ReadFault) (given : Verdict) (late : Bool) → Waits pass h inc line reading between
      → Enters law between (LineEntered h inc line reading given) later
      → GoesOn given (late ≡ false) ((nothing ≡ []) × (late ≡ true)) → EntersLines pass h inc (line ∷ []) late later
  lines_one law pass between later h inc line reading given late before entered ends =
      let busy : Entry = LineEntered h inc line reading verdict.Busy in
      let last : Entry = LineEntered h inc line reading given in
      record {
        entries = replicate before.waits busy ++ last ∷ [];
        makes =
            makes_more pass between later (replicate before.waits busy) (last ∷ []) before.makes
            (makes_one law between later last entered);
        run =
            record {
              asked = record { line = line; reading = reading; waits = before.waits; given = given } ∷ [];
              entries_are = sym (append-nil (replicate before.waits busy ++ last ∷ []));
              texts_are = refl;
              ends = ends;
            };
      }
