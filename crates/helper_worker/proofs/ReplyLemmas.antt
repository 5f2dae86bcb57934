-- Replies, taken and written one after the other.
use Rattle.std.proofs.Common.{ℕ, ◌≡◌, ◌<◌, Bool, true, false, true≢false, ◌||◌, List, [], ◌∷◌, ◌++◌, Option}
use Rattle.std.proofs.Common.{inl, inr}
use Rattle.std.proofs.Common.{length, refl, ap, ap₂, sym, subst, ◌∙◌, append_assoc, append-nil, arith}
use Rattle.std.specs.List.{list_any}
use Rattle.std.proofs.lemmas.List.Concat.{flat_map-append}
use Rattle.std.proofs.lemmas.List.Elements.{All-append, All-cons, All-nil}
use Rattle.std.proofs.lemmas.List.Folds.{list_any-append}
use Rattle.outside.specs.Told.{Grows, counted}
use Rattle.outside.proofs.ToldLemmas.{grows_more}
use Rattle.book_history.specs.declared.outcomes.Take.{Take}
use Rattle.book_history.specs.declared.outcomes.Take.TheVariants as take
use Rattle.book_history.specs.Entries.{Entry}
use Rattle.book_history.specs.Entries.Entry.{HelperDeaf, RepliesTaken}
use Rattle.book_gate.specs.Calls.{Enters}
use Rattle.book_gate.specs.Known.{Known}
use Rattle.pass_entries.proofs.MakingLemmas.{makes_more, makes_none, makes_one}
use Rattle.helper_worker.specs.Replies.{AreTaken, IfLast, Answers, IsReplyOf, ReplyRun, TakesReplies, deaf_by}
use Rattle.helper_worker.specs.Replies.{is_last, lasts_by}
use Rattle.helper_worker.specs.Replies.{text_by, text_of}
use Rattle.helper_worker.proofs.HeardLemmas.{grows_none}

-- no entry behind the last
abbrev nothing : List Entry
nothing = []

ends_one : (last : Bool) → IfLast last ((nothing ≡ []) × (last ≡ true)) (last ≡ false)
ends_one true = (refl, refl)
ends_one false = refl

more_comes : (test : Bool) (ends more ends' more' : Type 0) → IfLast test ends more → (ends → ⊥) → (more → more')
    → IfLast test ends' more'
more_comes true ends more ends' more' holds never next = absurd (never holds)
more_comes false ends more ends' more' holds never next = next holds

taken_both : (front back : List Entry) (last : Bool) → AreTaken front false → AreTaken back last
    → AreTaken (front ++ back) last
taken_both [] back last one other = other
taken_both (entry ∷ front) back last one other =
    more_comes (lasts_by entry) ((front ≡ []) × (false ≡ true)) (AreTaken front false)
    ((front ++ back ≡ []) × (last ≡ true)) (AreTaken (front ++ back) last) one (λ never. true≢false (sym never.1))
    (λ rest. taken_both front back last rest other)

any_more : (test rest : Bool) (ends more : Type 0) → IfLast test ends more → (more → rest ≡ true)
    → (test || rest) ≡ true
any_more true rest ends more holds next = refl
any_more false rest ends more holds next = next holds

pub any_last : (all : List Entry) → AreTaken all true → list_any lasts_by all ≡ true
any_last [] ends = absurd (true≢false ends)
any_last (entry ∷ more) ends =
    any_more (lasts_by entry) (list_any lasts_by more) ((more ≡ []) × (true ≡ true)) (AreTaken more true) ends
    (any_last more)

run_taken : (h inc : ℕ) (given : Take)
    → ReplyRun h inc (text_of given) (is_last given) false (RepliesTaken h inc given ∷ [])
run_taken h inc given =
    record {
      only = All-cons (IsReplyOf h inc) (RepliesTaken h inc given) [] (inl (given, refl)) (All-nil (IsReplyOf h inc));
      text_is = append-nil (text_of given);
      ends = ends_one (is_last given);
      deaf_is = refl;
    }

run_deaf : (h inc : ℕ) → ReplyRun h inc [] true true (HelperDeaf h inc ∷ [])
run_deaf h inc =
    record {
      only = All-cons (IsReplyOf h inc) (HelperDeaf h inc) [] (inr refl) (All-nil (IsReplyOf h inc));
      text_is = refl;
      ends = (refl, refl);
      deaf_is = refl;
    }

run_both : (h inc : ℕ) (first second : List ℕ) (last gone_deaf : Bool) (front back : List Entry)
    → ReplyRun h inc first false false front → ReplyRun h inc second last gone_deaf back
    → ReplyRun h inc (first ++ second) last gone_deaf (front ++ back)
run_both h inc first second last gone_deaf front back one other =
    record {
      only = All-append (IsReplyOf h inc) front back one.only other.only;
      text_is =
          flat_map-append text_by front back
          ∙ ap₂ (λ (text next : List ℕ). text ++ next) one.text_is other.text_is;
      ends = taken_both front back last one.ends other.ends;
      deaf_is = list_any-append deaf_by front back ∙ ap₂ (λ (one two : Bool). one || two) one.deaf_is other.deaf_is;
    }

-- a count that was counted up
pub some_counted : (before now : ℕ) → now ≡ counted before → 0 < now
some_counted before now is = omega arith

module _ {A : Type 0} where
  -- replies were taken, and all were written
  pub record AnsweredSoFar (pass : Known A Entry) (h inc : ℕ) (told told' : Option (List ℕ)) (later : Known A Entry)
      : Type 0 where
    pub text : List ℕ
    pub takes : TakesReplies pass h inc text false false later
    pub grows : Grows told told' text

  pub answered_none : (pass : Known A Entry) (h inc : ℕ) (told : Option (List ℕ))
      → AnsweredSoFar pass h inc told told pass
  answered_none pass h inc told =
      record {
        text = [];
        takes =
            record {
              entries = [];
              makes = makes_none pass;
              run = record { only = All-nil (IsReplyOf h inc); text_is = refl; ends = refl; deaf_is = refl };
            };
        grows = grows_none told;
      }

  takes_both : (pass between later : Known A Entry) (h inc : ℕ) (first second : List ℕ) (last gone_deaf : Bool)
      → TakesReplies pass h inc first false false between → TakesReplies between h inc second last gone_deaf later
      → TakesReplies pass h inc (first ++ second) last gone_deaf later
  takes_both pass between later h inc first second last gone_deaf one other =
      record {
        entries = one.entries ++ other.entries;
        makes = makes_more pass between later one.entries other.entries one.makes other.makes;
        run = run_both h inc first second last gone_deaf one.entries other.entries one.run other.run;
      }

  takes_one : (law : A → List Entry → Entry → Type 0) (pass later : Known A Entry) (h inc : ℕ) (given : Take)
      → Enters law pass (RepliesTaken h inc given) later
      → TakesReplies pass h inc (text_of given) (is_last given) false later
  takes_one law pass later h inc given entered =
      record {
        entries = RepliesTaken h inc given ∷ [];
        makes = makes_one law pass later (RepliesTaken h inc given) entered;
        run = run_taken h inc given;
      }

  -- some were taken and written
  pub answered_more : (law : A → List Entry → Entry → Type 0) (pass between later : Known A Entry) (h inc : ℕ)
      (given : Take) (piece : List ℕ) (told mid told' : Option (List ℕ)) → AnsweredSoFar pass h inc told mid between
      → Enters law between (RepliesTaken h inc given) later → is_last given ≡ false → piece ≡ text_of given
      → Grows mid told' piece → AnsweredSoFar pass h inc told told' later
  answered_more law pass between later h inc given piece told mid told' answered entered more piece_is grows =
      record {
        text = answered.text ++ text_of given;
        takes =
            takes_both pass between later h inc answered.text (text_of given) false false answered.takes
            (subst (λ (last : Bool). TakesReplies between h inc (text_of given) last false later) more
            (takes_one law between later h inc given entered));
        grows =
            grows_more told mid told' answered.text (text_of given) answered.grows
            (subst (λ (text : List ℕ). Grows mid told' text) piece_is grows);
      }

  -- nothing more comes
  pub answered_last : (law : A → List Entry → Entry → Type 0) (pass between later : Known A Entry) (h inc : ℕ)
      (told told' : Option (List ℕ)) (faults : ℕ) → AnsweredSoFar pass h inc told told' between
      → Enters law between (RepliesTaken h inc take.Ended) later → Answers pass h inc told told' faults later
  answered_last law pass between later h inc told told' faults answered entered =
      record {
        text = answered.text ++ [];
        gone_deaf = false;
        takes =
            takes_both pass between later h inc answered.text [] true false answered.takes
            (takes_one law between later h inc take.Ended entered);
        why_deaf = λ is. absurd (true≢false (sym is));
        wrote =
            record {
              part = answered.text;
              rest = [];
              text_is = refl;
              grows = answered.grows;
              whole = inl refl;
            };
      }

  -- the sink failed
  pub answered_deaf : (law : A → List Entry → Entry → Type 0) (pass between asked later : Known A Entry) (h inc : ℕ)
      (given : Take) (piece : List ℕ) (told mid told' : Option (List ℕ)) (faults : ℕ)
      → AnsweredSoFar pass h inc told mid between → Enters law between (RepliesTaken h inc given) asked
      → is_last given ≡ false → piece ≡ text_of given → Enters law asked (HelperDeaf h inc) later
      → (part : List ℕ) × (rest : List ℕ) × (piece ≡ part ++ rest) × (0 < length rest) × Grows mid told' part
      → 0 < faults → Answers pass h inc told told' faults later
  answered_deaf law pass between asked later h inc given piece told mid told' faults answered entered more piece_is
      deafened (part, rest, text_is, left, grows) failed =
      record {
        text = answered.text ++ (text_of given ++ []);
        gone_deaf = true;
        why_deaf = λ is. failed;
        takes =
            takes_both pass between later h inc answered.text (text_of given ++ []) true true answered.takes
            (takes_both between asked later h inc (text_of given) [] true true
            (subst (λ (last : Bool). TakesReplies between h inc (text_of given) last false asked) more
            (takes_one law between asked h inc given entered))
            (record {
              entries = HelperDeaf h inc ∷ [];
              makes = makes_one law asked later (HelperDeaf h inc) deafened;
              run = run_deaf h inc;
            }));
        wrote =
            record {
              part = answered.text ++ part;
              rest = rest;
              text_is =
                  ap (λ (last : List ℕ). answered.text ++ last) (append-nil (text_of given) ∙ (sym piece_is ∙ text_is))
                  ∙ sym (append_assoc answered.text part rest);
              grows = grows_more told mid told' answered.text part answered.grows grows;
              whole = inr failed;
            };
      }
