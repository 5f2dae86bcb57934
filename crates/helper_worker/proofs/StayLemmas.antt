-- A replier takes nothing more for an incarnation behind its last entry.
use Rattle.std.proofs.Common.{ℕ, ◌≡◌, ◌⊎◌, ◌≤◌, Bool, true, false, true≢false, ◌||◌, ◌&&◌, ◌==◌, cond, List, []}
use Rattle.std.proofs.Common.{◌∷◌}
use Rattle.std.proofs.Common.{◌++◌, inl, inr, refl, ap, ap₂, sym, subst, ◌∙◌, append-nil, arith}
use Rattle.std.proofs.Common.{eqb-true, ne_eqb}
use Rattle.std.specs.List.{All, flat_map, list_any}
use Rattle.std.proofs.lemmas.List.Concat.{flat_map-append}
use Rattle.std.proofs.lemmas.List.Elements.{All-cons, All-head, All-nil, All-tail}
use Rattle.std.proofs.lemmas.List.Folds.{list_any-append}
use mathlib.Core.List.{IsPrefix}
use Rattle.book_history.specs.Entries.{Entry}
use Rattle.book_history.specs.Entries.Entry.{HelperDeaf, RepliesTaken}
use Rattle.book_gate.specs.declared.view.Signed.{Signed}
use Rattle.helper_worker.specs.Handing.{IsFront, deaf_for, is_early, is_go, is_reply, lasts_for, replies_for, text_for}
use Rattle.helper_worker.specs.Handing.{under}
use Rattle.helper_worker.specs.Replies.{AreTaken, IfLast, IsReplyOf, is_last, lasts_by, text_of}
use Rattle.helper_worker.specs.Serving.{IsServed, Rises, Served, entries_in}
use Rattle.helper_worker.specs.Staying.{AnswersStay}
use Rattle.helper_worker.proofs.HandingLemmas.{any_none, any_same, any_under, lasts_same, or_true, stop_stays}
use Rattle.helper_worker.proofs.RoundLemmas.{under_prefix}

or_none : (one other : Bool) → (one || other) ≡ false → (one ≡ false) × (other ≡ false)
or_none true other none = absurd (true≢false none)
or_none false other none = (refl, none)

only_first : (one other : Bool) → (one || other) ≡ true → other ≡ false → one ≡ true
only_first true other some none = refl
only_first false other some none = absurd (true≢false (sym some ∙ none))

or_first : (one other : Bool) → one ≡ true → (one || other) ≡ true
or_first one other is = ap (λ (one : Bool). one || other) is

and_second : (one other : Bool) → (one && other) ≡ true → (one ≡ true) × (other ≡ true)
and_second true other both = (refl, both)
and_second false other both = absurd (true≢false (sym both))

implied_first : (one rest one' rest' : Bool) → (one ≡ true → one' ≡ true) → (rest ≡ true → rest' ≡ true)
    → (one || rest) ≡ true → (one' || rest') ≡ true
implied_first true rest one' rest' first next some = or_first one' rest' (first refl)
implied_first false rest one' rest' first next some = ap (λ (last : Bool). one' || last) (next some) ∙ or_true one'

any_implied : (one other : Entry → Bool) → ((entry : Entry) → one entry ≡ true → other entry ≡ true)
    → (all : List Entry) → list_any one all ≡ true → list_any other all ≡ true
any_implied one other implied [] some = absurd (true≢false (sym some))
any_implied one other implied (entry ∷ more) some =
    implied_first (one entry) (list_any one more) (other entry) (list_any other more) (implied entry)
    (any_implied one other implied more) some

-- the last entry for an incarnation is one for it
last_replies : (inc : ℕ) (entry : Entry) → lasts_for inc entry ≡ true → replies_for inc entry ≡ true
last_replies inc (RepliesTaken h number given) lasts = (and_second (number == inc) (is_last given) lasts).0
last_replies inc (HelperDeaf h number) lasts = lasts
last_replies inc _ lasts = absurd (true≢false (sym lasts))

-- where no entry is for an incarnation, none has a text for it, and none tells it deaf
deaf_replies : (inc : ℕ) (entry : Entry) → deaf_for inc entry ≡ true → replies_for inc entry ≡ true
deaf_replies inc (HelperDeaf h number) deaf = deaf
deaf_replies inc _ deaf = absurd (true≢false (sym deaf))

text_replies : (inc : ℕ) (entry : Entry) → replies_for inc entry ≡ false → text_for inc entry ≡ []
text_replies inc (RepliesTaken h number given) none =
    ap (λ test. cond test (text_of given) []) none
text_replies inc _ none = refl

no_text : (inc : ℕ) (all : List Entry) → list_any (replies_for inc) all ≡ false → flat_map (text_for inc) all ≡ []
no_text inc [] none = refl
no_text inc (entry ∷ more) none =
    let both = or_none (replies_for inc entry) (list_any (replies_for inc) more) none in
    ap₂ (λ (front back : List ℕ). front ++ back) (text_replies inc entry both.0) (no_text inc more both.1)

false_if : (one other : Bool) → (one ≡ true → other ≡ true) → other ≡ false → one ≡ false
false_if true other next none = absurd (true≢false (sym (next refl) ∙ none))
false_if false other next none = refl

no_deaf : (inc : ℕ) (all : List Entry) → list_any (replies_for inc) all ≡ false → list_any (deaf_for inc) all ≡ false
no_deaf inc all none =
    false_if (list_any (deaf_for inc) all) (list_any (replies_for inc) all)
    (any_implied (deaf_for inc) (replies_for inc) (deaf_replies inc) all) none

-- entries of one incarnation are none for another
replies_apart : (h number inc : ℕ) → (number == inc) ≡ false → (entry : Entry) → IsReplyOf h number entry
    → replies_for inc entry ≡ false
replies_apart h number inc apart entry (inl (given, is)) = ap (replies_for inc) is ∙ apart
replies_apart h number inc apart entry (inr is) = ap (replies_for inc) is ∙ apart

inc_of : (h number inc : ℕ) (all : List Entry) → All (IsReplyOf h number) all → list_any (lasts_for inc) all ≡ true
    → number ≡ inc
inc_of h number inc all only lasts = decide (number == inc) refl
  where
    decide : (test : Bool) → (number == inc) ≡ test → number ≡ inc
    decide true is = eqb-true number inc is
    decide false is =
        absurd
        (true≢false
        (sym (any_implied (lasts_for inc) (replies_for inc) (last_replies inc) all lasts)
        ∙ any_none (IsReplyOf h number) (replies_for inc) (replies_apart h number inc is) all only))

-- none of later incarnations is for an earlier one
later_none : (h inc last last' : ℕ) (rounds : List Served) → All (IsServed h) rounds → Rises last rounds last'
    → inc ≤ last → list_any (replies_for inc) (flat_map entries_in rounds) ≡ false
later_none h inc last last' [] good rises below = refl
later_none h inc last last' (served ∷ more) good rises below =
    let first : IsServed h served = All-head (IsServed h) served more good in
    list_any-append (replies_for inc) served.entries (flat_map entries_in more)
    ∙ ap₂ (λ (one two : Bool). one || two)
    (any_none (IsReplyOf h served.inc) (replies_for inc)
    (replies_apart h served.inc inc (ne_eqb served.inc inc (λ same. omega (arith, same, below, rises.0))))
    served.entries first.run.only)
    (later_none h inc served.inc last' more (All-tail (IsServed h) served more good) rises.1
    (omega (arith, below, rises.0)))

front_only : (h inc : ℕ) (front rest : List Entry) → All (IsReplyOf h inc) (front ++ rest) → All (IsReplyOf h inc) front
front_only h inc [] rest only = All-nil (IsReplyOf h inc)
front_only h inc (entry ∷ front) rest only =
    All-cons (IsReplyOf h inc) entry front (All-head (IsReplyOf h inc) entry (front ++ rest) only)
    (front_only h inc front rest (All-tail (IsReplyOf h inc) entry (front ++ rest) only))

-- nothing stands behind the last entry
rest_none : (front rest : List Entry) (last : Bool) → AreTaken (front ++ rest) last → list_any lasts_by front ≡ true
    → rest ≡ []
rest_none [] rest last ends lasts = absurd (true≢false (sym lasts))
rest_none (entry ∷ front) rest last ends lasts =
    decide (lasts_by entry) front (list_any lasts_by front) ends lasts (λ more. rest_none front rest last more)
  where
    decide : (test : Bool) (front : List Entry) (later : Bool)
        → IfLast test ((front ++ rest ≡ []) × (last ≡ true)) (AreTaken (front ++ rest) last) → (test || later) ≡ true
        → (AreTaken (front ++ rest) last → later ≡ true → rest ≡ []) → rest ≡ []
    decide true [] later holds some next = holds.0
    decide true (other ∷ front) later holds some next = absurd (cc (holds.0))
    decide false front later holds some next = next holds some

module _ {X : Type 0} where
  -- of two fronts of one list one is a front of the other
  cut_of : (first second front back : List X) → first ++ second ≡ front ++ back
      → ((rest : List X) × (first ≡ front ++ rest) × (back ≡ rest ++ second))
      ⊎ ((rest : List X) × (front ≡ first ++ rest) × (second ≡ rest ++ back))
  cut_of [] second front back is = inr (front, refl, is)
  cut_of (one ∷ first) second [] back is = inl (one ∷ first, refl, sym is)
  cut_of (one ∷ first) second (other ∷ front) back is = next (cc (is)) (cut_of first second front back (cc (is)))
    where
      next : one ≡ other
          → ((rest : List X) × (first ≡ front ++ rest) × (back ≡ rest ++ second))
          ⊎ ((rest : List X) × (front ≡ first ++ rest) × (second ≡ rest ++ back))
          → ((rest : List X) × (one ∷ first ≡ (other ∷ front) ++ rest) × (back ≡ rest ++ second))
          ⊎ ((rest : List X) × (other ∷ front ≡ (one ∷ first) ++ rest) × (second ≡ rest ++ back))
      next same (inl (rest, is, back_is)) =
          inl (rest, ap₂ (λ (head : X) (tail : List X). head ∷ tail) same is, back_is)
      next same (inr (rest, is, second_is)) =
          inr (rest, ap₂ (λ (head : X) (tail : List X). head ∷ tail) (sym same) is, second_is)

-- behind the last entry for an incarnation none is for it
none_behind : (h last last' inc : ℕ) (rounds : List Served) (front back : List Entry) → All (IsServed h) rounds
    → Rises last rounds last' → flat_map entries_in rounds ≡ front ++ back → list_any (lasts_for inc) front ≡ true
    → list_any (replies_for inc) back ≡ false
none_behind h last last' inc [] [] back good rises is lasts = absurd (true≢false (sym lasts))
none_behind h last last' inc [] (entry ∷ front) back good rises is lasts = absurd (cc (is))
none_behind h last last' inc (served ∷ more) front back good rises is lasts =
    decide (cut_of served.entries (flat_map entries_in more) front back is)
    (λ rest more_is later.
    none_behind h served.inc last' inc more rest back (All-tail (IsServed h) served more good) rises.1 more_is later)
  where
    first : IsServed h served
    first = All-head (IsServed h) served more good

    rest_good : All (IsServed h) more
    rest_good = All-tail (IsServed h) served more good

    -- where it is this incarnation
    this : list_any (lasts_for inc) served.entries ≡ true → served.inc ≡ inc
    this some = inc_of h served.inc inc served.entries first.run.only some

    none_later : served.inc ≡ inc → list_any (replies_for inc) (flat_map entries_in more) ≡ false
    none_later same = later_none h inc served.inc last' more rest_good rises.1 (omega (arith, same))

    inside : (rest : List Entry) → served.entries ≡ front ++ rest → back ≡ rest ++ flat_map entries_in more
        → list_any (replies_for inc) back ≡ false
    inside rest entries_are back_is =
        let some : list_any (lasts_for inc) served.entries ≡ true =
        ap (list_any (lasts_for inc)) entries_are
        ∙ (list_any-append (lasts_for inc) front rest
        ∙ or_first (list_any (lasts_for inc) front) (list_any (lasts_for inc) rest) lasts) in
        let same : served.inc ≡ inc = this some in
        let only : All (IsReplyOf h inc) (front ++ rest) =
        subst (λ (all : List Entry). All (IsReplyOf h inc) all) entries_are
        (subst (λ (number : ℕ). All (IsReplyOf h number) served.entries) same first.run.only) in
        let none : rest ≡ [] =
        rest_none front rest true (subst (λ (all : List Entry). AreTaken all true) entries_are first.run.ends)
        (sym (any_same (IsReplyOf h inc) (lasts_for inc) lasts_by (lasts_same h inc) front
        (front_only h inc front rest only)) ∙ lasts) in
        ap (list_any (replies_for inc))
        (back_is ∙ ap (λ (rest : List Entry). rest ++ flat_map entries_in more) none)
        ∙ none_later same

    outside : (rest : List Entry) → front ≡ served.entries ++ rest → flat_map entries_in more ≡ rest ++ back
        → (list_any (lasts_for inc) rest ≡ true → list_any (replies_for inc) back ≡ false)
        → (test : Bool) → list_any (lasts_for inc) rest ≡ test → list_any (replies_for inc) back ≡ false
    outside rest front_is more_is next true later = next later
    outside rest front_is more_is next false later =
        let some : list_any (lasts_for inc) served.entries ≡ true =
        only_first (list_any (lasts_for inc) served.entries) (list_any (lasts_for inc) rest)
        (sym (list_any-append (lasts_for inc) served.entries rest)
        ∙ (sym (ap (list_any (lasts_for inc)) front_is) ∙ lasts)) later in
        (or_none (list_any (replies_for inc) rest) (list_any (replies_for inc) back)
        (sym (list_any-append (replies_for inc) rest back)
        ∙ (sym (ap (list_any (replies_for inc)) more_is) ∙ none_later (this some)))).1

    decide : ((rest : List Entry) × (served.entries ≡ front ++ rest) × (back ≡ rest ++ flat_map entries_in more))
        ⊎ ((rest : List Entry) × (front ≡ served.entries ++ rest) × (flat_map entries_in more ≡ rest ++ back))
        → ((rest : List Entry) → flat_map entries_in more ≡ rest ++ back → list_any (lasts_for inc) rest ≡ true
        → list_any (replies_for inc) back ≡ false)
        → list_any (replies_for inc) back ≡ false
    decide (inl (rest, entries_are, back_is)) next = inside rest entries_are back_is
    decide (inr (rest, front_is, more_is)) next =
        outside rest front_is more_is (next rest more_is) (list_any (lasts_for inc) rest) refl

-- an entry that came in time comes in time in each longer history
early_longer : (writer : List ℕ) (h inc : ℕ) (seen more : List (Signed Entry))
    → list_any (is_reply writer inc) seen ≡ true → is_early writer h inc seen ≡ false
    → is_early writer h inc (seen ++ more) ≡ false
early_longer writer h inc [] more some early = absurd (true≢false (sym some))
early_longer writer h inc (made ∷ seen) more some early =
    decide (is_go h inc made.entry) (is_reply writer inc made) (list_any (is_reply writer inc) seen)
    (is_early writer h inc seen) (is_early writer h inc (seen ++ more)) some early (early_longer writer h inc seen more)
  where
    decide : (go reply replies early longer : Bool) → (reply || replies) ≡ true → cond go false (reply || early) ≡ false
        → (replies ≡ true → early ≡ false → longer ≡ false) → cond go false (reply || longer) ≡ false
    decide true reply replies early longer some none next = refl
    decide false true replies early longer some none next = none
    decide false false replies early longer some none next = next some none

pub answers_stay : AnswersStay
answers_stay writer h inc last last' taken faults rounds before seen good rises all front (fronts, lasts, deaf, early) =
    let begun : IsPrefix (under writer before) (under writer seen) = under_prefix writer before seen front in
    let back : List Entry = begun.0 in
    let seen_is : under writer seen ≡ under writer before ++ back = sym begun.1 in
    let none : list_any (replies_for inc) back ≡ false =
    none_behind h last last' inc rounds (under writer before) back good rises (sym all ∙ seen_is) lasts in
    let text : flat_map (text_for inc) (under writer seen) ≡ flat_map (text_for inc) (under writer before) =
    ap (flat_map (text_for inc)) seen_is
    ∙ (flat_map-append (text_for inc) (under writer before) back
    ∙ (ap (λ (last : List ℕ). flat_map (text_for inc) (under writer before) ++ last) (no_text inc back none)
    ∙ append-nil (flat_map (text_for inc) (under writer before)))) in
    let replies : list_any (is_reply writer inc) before ≡ true =
    sym (any_under writer inc before)
    ∙ any_implied (lasts_for inc) (replies_for inc) (last_replies inc) (under writer before) lasts in (
      subst (λ (text : List ℕ). IsFront taken faults text) (sym text) fronts,
      ap (list_any (lasts_for inc)) seen_is
          ∙ (list_any-append (lasts_for inc) (under writer before) back
          ∙ or_first (list_any (lasts_for inc) (under writer before)) (list_any (lasts_for inc) back) lasts),
      λ deafened no_fault.
          stop_stays before seen front
          (deaf
          (only_first (list_any (deaf_for inc) (under writer before)) (list_any (deaf_for inc) back)
          (sym (list_any-append (deaf_for inc) (under writer before) back)
          ∙ (sym (ap (list_any (deaf_for inc)) seen_is) ∙ deafened))
          (no_deaf inc back none))
          no_fault),
      ap (is_early writer h inc) (sym front.1) ∙ early_longer writer h inc before front.0 replies early,
    )
