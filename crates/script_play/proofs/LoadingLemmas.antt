-- What a load enters, and the first of it.
use Rattle.std.proofs.Common.{◌≡◌, ℕ, ◌+◌, ◌-◌, ◌*◌, ◌<◌, zero, suc, Bool, true, false, List, [], ◌∷◌, ◌++◌}
use Rattle.std.proofs.Common.{Ok, Err}
use Rattle.std.proofs.Common.{refl, sym, ap, ◌∙◌, subst, arith, append_assoc}
use Rattle.std.specs.Prelude.{Result, IfOk, IsErr, MatchResult, OnOk}
use Rattle.std.specs.List.{AllByRecursion}
use Rattle.text_forms.specs.Lines.{Line, Text}
use Rattle.outside.specs.Seen.{SinkSeen}
use Rattle.outside.specs.Told.{Grows}
use Rattle.route_grammar.specs.declared.fault.ReadFault.{ReadFault}
use Rattle.command_grammar.specs.declared.command.Command.{Command}
use Rattle.command_grammar.specs.declared.command.Command.TheVariants as command
use Rattle.config_model.specs.Sections.{Sections}
use Rattle.book_core.specs.Seen.{Seen as Book}
use Rattle.book_core.specs.Stands.{Stands}
use Rattle.book_history.specs.declared.outcomes.Cut.{Cut}
use Rattle.book_history.specs.declared.outcomes.Cut.TheVariants as cut
use Rattle.book_history.specs.declared.outcomes.Spawn.{Spawn}
use Rattle.book_history.specs.declared.outcomes.Take.{Take}
use Rattle.book_history.specs.declared.outcomes.Take.TheVariants as take
use Rattle.book_history.specs.declared.outcomes.Up.{Up}
use Rattle.book_history.specs.declared.outcomes.Verdict.{Verdict}
use Rattle.book_history.specs.declared.outcomes.Verdict.TheVariants as verdict
use Rattle.book_history.specs.Bounds.{numbers_from}
use Rattle.book_history.specs.Entries.{History}
use Rattle.book_history.specs.Entries.Entry.{LineEntered, MessageCut, RepliesTaken}
use Rattle.text_history.specs.Adding.{Adding}
use Rattle.text_history.specs.Plays.{IsDrain, IsMessageOf, is_message}
use Rattle.text_history.proofs.AddingLemmas.{adding_more}
use Rattle.script_play.specs.declared.counting.Tally.{Tally}
use Rattle.script_play.specs.declared.status.Status.{Status}
use Rattle.script_play.specs.declared.status.Status.TheVariants as status
use Rattle.script_play.specs.Loads.{AddsAnnounce, AddsReplied, AddsWithdraw, AreCut, IsEntered, begun}
use Rattle.script_play.specs.Loads.{counts_of, counts_text, evens_below, withdraw_line}
use Rattle.script_play.specs.Loading.{Began, Begins, Cuts, EntersAll, EnteredAll, IsCounted, IsCut, IsCutAlone}
use Rattle.script_play.specs.Loading.{IsReplied}
use Rattle.script_play.specs.Loading.{IsTold, LoadBegan, Loads, Tallies, Tells}

-- ---- numbers

-- the first numbers, and those behind them
numbers_both : (n i k : ℕ) → numbers_from n (i + k) ≡ numbers_from n i ++ numbers_from (n + i) k
numbers_both n zero k =
    ap (numbers_from n) (let same : 0 + k ≡ k = omega arith in same)
    ∙ ap (λ m. numbers_from m k) (let same : n ≡ n + 0 = omega arith in same)
numbers_both n (suc i) k =
    ap (numbers_from n) (let same : suc i + k ≡ suc (i + k) = omega arith in same)
    ∙ ap (λ (ns : List ℕ). n ∷ ns) (numbers_both (suc n) i k)
    ∙ ap (λ m. n ∷ (numbers_from (suc n) i ++ numbers_from m k))
    (let same : suc n + i ≡ n + suc i = omega arith in same)

-- one more
numbers_more : (i : ℕ) → numbers_from 0 (i + 1) ≡ numbers_from 0 i ++ i ∷ []
numbers_more i =
    numbers_both 0 i 1 ∙ ap (λ m. numbers_from 0 i ++ m ∷ []) (let same : 0 + i ≡ i = omega arith in same)

-- those behind it
numbers_rest : (i count : ℕ) → i < count
    → numbers_from 0 count ≡ numbers_from 0 (i + 1) ++ numbers_from (i + 1) (count - (i + 1))
numbers_rest i count below =
    ap (numbers_from 0) (let same : count ≡ (i + 1) + (count - (i + 1)) = omega arith in same)
    ∙ numbers_both 0 (i + 1) (count - (i + 1))
    ∙ ap (λ m. numbers_from 0 (i + 1) ++ numbers_from m (count - (i + 1)))
    (let same : 0 + (i + 1) ≡ i + 1 = omega arith in same)

-- ---- events that go on, with some answers

-- one step and then another
abbrev pub Then : (History → History → Type 0) → (History → History → Type 0) → History → History → Type 0
Then First Next H H' = (mid : History) × First H mid × Next mid H'

-- from every history on, with some answers
abbrev pub GoesOn : (History → History → Type 0) → Type 0
GoesOn Leads = (start : History) → (added : History) × Leads start (added ++ start)

goes_on_then : (First Next : History → History → Type 0) → GoesOn First → GoesOn Next → GoesOn (Then First Next)
goes_on_then First Next first next = λ start.
    let one = first start in
    let more = next (one.0 ++ start) in (
      more.0 ++ one.0,
      (one.0 ++ start, one.1, subst (Next (one.0 ++ start)) (sym (append_assoc more.0 one.0 start)) more.1),
    )

cuts_go_on : GoesOn AreCut
cuts_go_on = λ start. (
  last,
  (
    last,
    record {
      bytes = [];
      given = cut.Nothing;
      messages = [];
      none = refl;
      are = tt;
      added_are = refl;
    },
    refl,
  ),
)
  where
    last : History
    last = MessageCut 0 [] cut.Nothing ∷ []

-- ---- lines

module _ (make : ℕ → List ℕ) where
  -- the line of a number
  abbrev pub Adds : History → ℕ → History → Type 0
  Adds H i added = AddsReplied (make i) added

  -- the lines of numbers
  abbrev pub Says : List ℕ → History → History → Type 0
  Says numbers H H' = Adding Adds H numbers H'

  -- the lines of the first numbers
  abbrev pub SaysFirst : ℕ → History → History → Type 0
  SaysFirst count H H' = Says (numbers_from 0 count) H H'

  says_both : (first next : List ℕ) (start mid end : History) → Says first start mid → Says next mid end
      → Says (first ++ next) start end
  says_both [] next start mid end is more = subst (λ (h : History). Says next h end) is more
  says_both (i ∷ first) next start mid end (added, adds, says) more =
      (added, adds, says_both first next (added ++ start) mid end says more)

  says_go_on : (numbers : List ℕ) → GoesOn (Says numbers)
  says_go_on [] = λ start. ([], refl)
  says_go_on (i ∷ numbers) = λ start.
      let one : History =
      RepliesTaken 0 1 take.Nothing ∷ LineEntered 0 1 (Text (make i)) (Ok command.Reload) verdict.Ended ∷ [] in
      let more = says_go_on numbers (one ++ start) in (
        more.0 ++ one,
        (
          one,
          (Ok command.Reload, verdict.Ended, take.Nothing, refl),
          subst (Says numbers (one ++ start)) (sym (append_assoc more.0 one start)) more.1,
        ),
      )

  -- one line more
  says_more : (i : ℕ) (H mid end : History) → SaysFirst i H mid → IsReplied (make i) mid end → SaysFirst (i + 1) H end
  says_more i H mid end says (added, adds, is) =
      subst (λ (h : History). SaysFirst (i + 1) H h) (sym is)
      (subst (λ (ns : List ℕ). Says ns H (added ++ mid)) (sym (numbers_more i))
      (adding_more Adds H mid added (numbers_from 0 i) i says adds))

  module _ (cfg : Sections) (H : History) where
    pub none_said : (book : Book) (tally : Tally) → IsCounted cfg H book tally
        → EnteredAll (SaysFirst 0) cfg H book tally
    none_said book tally counted = record { after = H; leads = refl; counted = counted }

    pub one_said : (i : ℕ) (mid book : Book) (at tally : Tally) → EnteredAll (SaysFirst i) cfg H mid at
        → ((before : History) → IsCounted cfg before mid at → EnteredAll (IsReplied (make i)) cfg before book tally)
        → EnteredAll (SaysFirst (i + 1)) cfg H book tally
    one_said i mid book at tally entered next =
        let one = next entered.after entered.counted in
        record {
          after = one.after;
          leads = says_more i H entered.after one.after entered.leads one.leads;
          counted = one.counted;
        }

    pub one_begun : (i count : ℕ) (mid book : Book) (at : Tally) → i < count → EnteredAll (SaysFirst i) cfg H mid at
        → ((before : History) → IsCounted cfg before mid at → Began (IsReplied (make i)) cfg before book)
        → Began (SaysFirst count) cfg H book
    one_begun i count mid book at below entered next =
        let one = next entered.after entered.counted in
        let rest = says_go_on (numbers_from (i + 1) (count - (i + 1))) (one.more ++ one.after) in
        record {
          after = one.after;
          more = rest.0 ++ one.more;
          leads = subst (λ (ns : List ℕ). Says ns H ((rest.0 ++ one.more) ++ one.after))
              (sym (numbers_rest i count below))
              (subst (λ (h : History). Says (numbers_from 0 (i + 1) ++ numbers_from (i + 1) (count - (i + 1))) H h)
              (sym (append_assoc rest.0 one.more one.after))
              (says_both (numbers_from 0 (i + 1)) (numbers_from (i + 1) (count - (i + 1))) H (one.more ++ one.after)
              (rest.0 ++ (one.more ++ one.after))
              (says_more i H entered.after (one.more ++ one.after) entered.leads one.leads) rest.1));
          stands = one.stands;
        }

-- ---- cuts

-- messages were cut, and are counted
pub record IsDraining (cfg : Sections) (H : History) (book : Book) (tally : Tally) : Type 0 where
  pub messages : History
  pub are : AllByRecursion (IsMessageOf 0) messages
  pub counted : IsCounted cfg (messages ++ H) book tally

message_of : (bytes : List ℕ) (given : Cut) → is_message given ≡ true → IsMessageOf 0 (MessageCut 0 bytes given)
message_of bytes (cut.Message last) is = record { bytes = bytes; last = last; entry_is = refl }
message_of bytes cut.Down is = absurd (let no_way : false ≡ true = is in cc)
message_of bytes (cut.Reset code sub) is = absurd (let no_way : false ≡ true = is in cc)
message_of bytes cut.Nothing is = absurd (let no_way : false ≡ true = is in cc)

-- the messages, and then no more
drained : (messages : History) (bytes : List ℕ) (given : Cut) → AllByRecursion (IsMessageOf 0) messages
    → is_message given ≡ false → IsDrain 0 (MessageCut 0 bytes given ∷ messages)
drained messages bytes given are none = record {
  bytes = bytes;
  given = given;
  messages = messages;
  none = none;
  are = are;
  added_are = refl;
}

module _ (cfg : Sections) (H : History) where
  pub draining_none : (book : Book) (tally : Tally) → IsCounted cfg H book tally → IsDraining cfg H book tally
  draining_none book tally counted = record { messages = []; are = tt; counted = counted }

  pub draining_more : (mid book : Book) (at tally : Tally) (came : Bool) → came ≡ true → IsDraining cfg H mid at
      → ((before : History) → IsCounted cfg before mid at → IsCut came cfg before book tally)
      → IsDraining cfg H book tally
  draining_more mid book at tally came so draining next =
      let one = next (draining.messages ++ H) draining.counted in
      record {
        messages = MessageCut 0 one.bytes one.given ∷ draining.messages;
        are = (message_of one.bytes one.given (one.answer ∙ so), draining.are);
        counted = one.counted;
      }

  pub draining_end : (mid book : Book) (at tally : Tally) (came : Bool) → came ≡ false → IsDraining cfg H mid at
      → ((before : History) → IsCounted cfg before mid at → IsCut came cfg before book tally)
      → EnteredAll AreCut cfg H book tally
  draining_end mid book at tally came so draining next =
      let one = next (draining.messages ++ H) draining.counted in
      let all : History = MessageCut 0 one.bytes one.given ∷ draining.messages in
      record {
        after = all ++ H;
        leads = (all, drained draining.messages one.bytes one.given draining.are (one.answer ∙ so), refl);
        counted = one.counted;
      }

  -- messages that were cut are the first of a whole drain
  cuts_begun : (messages : History) (book : Book) → AllByRecursion (IsMessageOf 0) messages
      → Stands cfg (messages ++ H) book → Began AreCut cfg H book
  cuts_begun messages book are stands = record {
    after = messages ++ H;
    more = MessageCut 0 [] cut.Nothing ∷ [];
    leads = (MessageCut 0 [] cut.Nothing ∷ messages, drained messages [] cut.Nothing are refl, refl);
    stands = stands;
  }

  pub draining_begun : (mid book : Book) (at : Tally) → IsDraining cfg H mid at
      → ((before : History) → IsCounted cfg before mid at → IsCutAlone cfg before book) → Began AreCut cfg H book
  draining_begun mid book at draining next =
      let one = next (draining.messages ++ H) draining.counted in
      cuts_begun (MessageCut 0 one.bytes (cut.Message one.last) ∷ draining.messages) book
      (message_of one.bytes (cut.Message one.last) refl, draining.are) one.stands

  -- nothing was cut
  pub draining_unbegun : (book : Book) (tally : Tally) → IsCounted cfg H book tally → Began AreCut cfg H book
  draining_unbegun book tally counted = cuts_begun [] book tt counted.stands

  pub draining_left : (book : Book) (tally : Tally) → IsDraining cfg H book tally → Began AreCut cfg H book
  draining_left book tally draining = cuts_begun draining.messages book draining.are draining.counted.stands

-- ---- one step behind the other

-- what began is what a call leaves that answers want of memory
pub began_err : {E : Type 0} (Leads : History → History → Type 0) (cfg : Sections) (H : History) (book : Book)
    (tally : Tally) (result : Result (Unit {0}) E) → IsErr result → Began Leads cfg H book
    → EntersAll Leads cfg H book tally result
began_err Leads cfg H book tally (Ok done) failed began = absurd (let no_way : false ≡ true = failed in cc)
began_err Leads cfg H book tally (Err because) failed began = began

module _ (First Next : History → History → Type 0) (cfg : Sections) (H : History) where
  -- a first step began, behind which the next goes on
  pub began_first : (book : Book) → GoesOn Next → Began First cfg H book → Began (Then First Next) cfg H book
  began_first book next began =
      let rest = next (began.more ++ began.after) in
      record {
        after = began.after;
        more = rest.0 ++ began.more;
        leads = (
          began.more ++ began.after,
          began.leads,
          subst (Next (began.more ++ began.after)) (sym (append_assoc rest.0 began.more began.after)) rest.1,
        );
        stands = began.stands;
      }

  -- the first step was entered, and the next began
  pub began_next : (mid book : Book) (at : Tally) → EnteredAll First cfg H mid at
      → ((before : History) → IsCounted cfg before mid at → Began Next cfg before book)
      → Began (Then First Next) cfg H book
  began_next mid book at entered next =
      let began = next entered.after entered.counted in
      record {
        after = began.after;
        more = began.more;
        leads = (entered.after, entered.leads, began.leads);
        stands = began.stands;
      }

  -- both were entered
  pub entered_both : (mid book : Book) (at tally : Tally) → EnteredAll First cfg H mid at
      → ((before : History) → IsCounted cfg before mid at → EnteredAll Next cfg before book tally)
      → EnteredAll (Then First Next) cfg H book tally
  entered_both mid book at tally entered next =
      let both = next entered.after entered.counted in
      record {
        after = both.after;
        leads = (entered.after, entered.leads, both.leads);
        counted = both.counted;
      }

-- ---- the whole

abbrev Announces : ℕ → History → History → Type 0
Announces count H H' = Adding AddsAnnounce H (numbers_from 0 count) H'

abbrev Withdraws : ℕ → History → History → Type 0
Withdraws count H H' = Adding AddsWithdraw H (numbers_from 0 (evens_below count)) H'

-- what comes behind the announcements, and behind their messages
abbrev Third : ℕ → History → History → Type 0
Third count H H' = Then (Withdraws count) AreCut H H'

abbrev Second : ℕ → History → History → Type 0
Second count H H' = Then AreCut (Third count) H H'

abbrev Whole : ℕ → History → History → Type 0
Whole count H H' = Then (Announces count) (Second count) H H'

third_goes_on : (count : ℕ) → GoesOn (Third count)
third_goes_on count =
    goes_on_then (Withdraws count) AreCut (says_go_on (λ i. withdraw_line (2 * i)) (numbers_from 0 (evens_below count)))
    cuts_go_on

second_goes_on : (count : ℕ) → GoesOn (Second count)
second_goes_on count = goes_on_then AreCut (Third count) cuts_go_on (third_goes_on count)

whole_is : (count : ℕ) (H H' : History) → Whole count H H' → IsEntered count H H'
whole_is count H H' (announced, announces, (sent, cuts, (withdrawn, withdraws, cuts_again))) = record {
  announced = announced;
  sent = sent;
  withdrawn = withdrawn;
  announces = announces;
  cuts = cuts;
  withdraws = withdraws;
  cuts_again = cuts_again;
}

module _ (count : ℕ) (cfg : Sections) (H : History) where
  whole_begun : (book : Book) → Began (Whole count) cfg H book → Began (IsEntered count) cfg H book
  whole_begun book began = record {
    after = began.after;
    more = began.more;
    leads = whole_is count H (began.more ++ began.after) began.leads;
    stands = began.stands;
  }

  pub begun_first : (book : Book) → Began (Announces count) cfg H book → Began (IsEntered count) cfg H book
  begun_first book began =
      whole_begun book (began_first (Announces count) (Second count) cfg H book (second_goes_on count) began)

  pub begun_second : (mid book : Book) (at : Tally) → EnteredAll (Announces count) cfg H mid at
      → ((before : History) → IsCounted cfg before mid at → Began AreCut cfg before book)
      → Began (IsEntered count) cfg H book
  begun_second mid book at announced next =
      whole_begun book (began_next (Announces count) (Second count) cfg H mid book at announced
      (λ before counted. began_first AreCut (Third count) cfg before book (third_goes_on count) (next before counted)))

  pub begun_third : (one mid book : Book) (first at : Tally) → EnteredAll (Announces count) cfg H one first
      → ((before : History) → IsCounted cfg before one first → EnteredAll AreCut cfg before mid at)
      → ((before : History) → IsCounted cfg before mid at → Began (Withdraws count) cfg before book)
      → Began (IsEntered count) cfg H book
  begun_third one mid book first at announced cuts next =
      whole_begun book (began_next (Announces count) (Second count) cfg H one book first announced
      (λ before counted. began_next AreCut (Third count) cfg before mid book at (cuts before counted)
      (λ later again. began_first (Withdraws count) AreCut cfg later book cuts_go_on (next later again))))

  pub all_entered : {E : Type 0} (one two mid book : Book) (first second at tally : Tally)
      (result : Result (Unit {0}) E)
      → EnteredAll (Announces count) cfg H one first
      → ((before : History) → IsCounted cfg before one first → EnteredAll AreCut cfg before two second)
      → ((before : History) → IsCounted cfg before two second → EnteredAll (Withdraws count) cfg before mid at)
      → ((before : History) → IsCounted cfg before mid at → EntersAll AreCut cfg before book tally result)
      → EntersAll (IsEntered count) cfg H book tally result
  all_entered one two mid book first second at tally (Ok done) announced cuts withdraws next =
      let all = entered_both (Announces count) (Second count) cfg H one book first tally announced
      (λ before counted. entered_both AreCut (Third count) cfg before two book second tally (cuts before counted)
      (λ later again.
      entered_both (Withdraws count) AreCut cfg later mid book at tally (withdraws later again) next)) in
      record {
        after = all.after;
        leads = whole_is count H all.after all.leads;
        counted = all.counted;
      }
  all_entered one two mid book first second at tally (Err because) announced cuts withdraws next =
      whole_begun book (began_next (Announces count) (Second count) cfg H one book first announced
      (λ before counted. began_next AreCut (Third count) cfg before two book second (cuts before counted)
      (λ later again. began_next (Withdraws count) AreCut cfg later mid book at (withdraws later again) next)))

-- ---- one line, and one cut

-- what is counted stays through entries that aren't counted
same_counts : (H : History) (taken : Take) (tally : Tally) → Tallies H tally
    → Tallies (RepliesTaken 0 1 taken ∷ H) tally
same_counts H taken tally t = record {
  lines = t.lines;
  done = t.done;
  errors = t.errors;
  messages = t.messages;
  bytes = t.bytes;
  announced = t.announced;
  withdrawn = t.withdrawn;
  left = t.left;
}

-- a line was entered and its reply taken, and the line is counted by a call
pub line_entered : {E : Type 0} (cfg : Sections) (H : History) (text : List ℕ) (line : Line)
    (reading : Result Command ReadFault) (given : Verdict) (taken : Take) (book : Book) (at tally : Tally)
    (result : Result (Unit {0}) E) → line ≡ Text text → Tallies H at
    → Stands cfg (RepliesTaken 0 1 taken ∷ LineEntered 0 1 line reading given ∷ H) book
    → OnOk result ((before : History) (h inc : ℕ) (other : Line) (said : Result Command ReadFault)
    → Tallies before at → Tallies (LineEntered h inc other said given ∷ before) tally)
    → EntersAll (IsReplied text) cfg H book tally result
line_entered cfg H text line reading given taken book at tally (Ok done) is counted stands next = record {
  after = RepliesTaken 0 1 taken ∷ LineEntered 0 1 (Text text) reading given ∷ H;
  leads = (
    RepliesTaken 0 1 taken ∷ LineEntered 0 1 (Text text) reading given ∷ [],
    (reading, given, taken, refl),
    refl,
  );
  counted = record {
    stands = subst (λ (l : Line). Stands cfg (RepliesTaken 0 1 taken ∷ LineEntered 0 1 l reading given ∷ H) book) is
        stands;
    counts = same_counts (LineEntered 0 1 (Text text) reading given ∷ H) taken tally
        (next H 0 1 (Text text) reading counted);
  };
}
line_entered cfg H text line reading given taken book at tally (Err because) is counted stands next = record {
  after = RepliesTaken 0 1 taken ∷ LineEntered 0 1 (Text text) reading given ∷ H;
  more = [];
  leads = (
    RepliesTaken 0 1 taken ∷ LineEntered 0 1 (Text text) reading given ∷ [],
    (reading, given, taken, refl),
    refl,
  );
  stands = subst (λ (l : Line). Stands cfg (RepliesTaken 0 1 taken ∷ LineEntered 0 1 l reading given ∷ H) book) is
      stands;
}

-- a message was cut
pub message_alone : (cfg : Sections) (H : History) (bytes out : List ℕ) (given : Cut) (last : Bool) (book : Book)
    → given ≡ cut.Message last → bytes ≡ out → Stands cfg (MessageCut 0 out given ∷ H) book
    → Stands cfg (MessageCut 0 bytes (cut.Message last) ∷ H) book
message_alone cfg H bytes out given last book is same stands =
    subst (λ (text : List ℕ). Stands cfg (MessageCut 0 text (cut.Message last) ∷ H) book) (sym same)
    (subst (λ (answer : Cut). Stands cfg (MessageCut 0 out answer ∷ H) book) is stands)

-- and was counted
pub message_cut : (cfg : Sections) (H : History) (bytes out : List ℕ) (given : Cut) (last : Bool) (book : Book)
    (tally : Tally) → given ≡ cut.Message last → bytes ≡ out → Stands cfg (MessageCut 0 out given ∷ H) book
    → Tallies (MessageCut 0 bytes (cut.Message last) ∷ H) tally → IsCut true cfg H book tally
message_cut cfg H bytes out given last book tally is same stands counted = record {
  bytes = bytes;
  given = cut.Message last;
  answer = refl;
  counted = record { stands = message_alone cfg H bytes out given last book is same stands; counts = counted };
}

-- and wasn't
pub message_uncounted : {E : Type 0} (cfg : Sections) (H : History) (bytes out : List ℕ) (given : Cut) (last : Bool)
    (book : Book) (tally : Tally) (result : Result Bool E) → IsErr result → given ≡ cut.Message last → bytes ≡ out
    → Stands cfg (MessageCut 0 out given ∷ H) book → Cuts cfg H book tally result
message_uncounted cfg H bytes out given last book tally (Ok came) failed is same stands =
    absurd (let no_way : false ≡ true = failed in cc)
message_uncounted cfg H bytes out given last book tally (Err because) failed is same stands = record {
  bytes = bytes;
  last = last;
  stands = message_alone cfg H bytes out given last book is same stands;
}

-- ---- the start, and the end

-- nothing is counted of the start
pub start_counted : (cfg : Sections) (book : Book) (tally : Tally) (begins : Begins cfg book) → Tallies [] tally
    → IsCounted cfg (begun begins.started begins.raised) book tally
start_counted cfg book tally begins t = record {
  stands = begins.stands;
  counts = record {
    lines = t.lines;
    done = t.done;
    errors = t.errors;
    messages = t.messages;
    bytes = t.bytes;
    announced = t.announced;
    withdrawn = t.withdrawn;
    left = t.left;
  };
}

-- the first events were entered
pub began_some : {V E : Type 0} (cfg : Sections) (count : ℕ) (started : Spawn) (raised : Up) (book : Book)
    (result : Result V E) (Told : V → Type 0) → IsErr result
    → Began (IsEntered count) cfg (begun started raised) book
    → MatchResult result Told (λ _. LoadBegan cfg count book)
began_some cfg count started raised book (Ok text) Told failed began = absurd (let no_way : false ≡ true = failed in cc)
began_some cfg count started raised book (Err because) Told failed began = record {
  history = began.after;
  load = record {
    more = began.more;
    load = record { started = started; raised = raised; entered = began.leads };
  };
  stands = began.stands;
}

-- all was entered, and the text of the counts is made by a call
pub told_by : {V E : Type 0} (cfg : Sections) (count : ℕ) (started : Spawn) (raised : Up) (book : Book) (tally : Tally)
    (result : Result V E) (items : V → List ℕ) → EnteredAll (IsEntered count) cfg (begun started raised) book tally
    → IfOk result (λ text. (H : History) → Tallies H tally → items text ≡ counts_text (counts_of count H))
    → MatchResult result (λ text. IsTold cfg count book (items text)) (λ _. LoadBegan cfg count book)
told_by cfg count started raised book tally (Ok text) items entered told = record {
  history = entered.after;
  load = record { started = started; raised = raised; entered = entered.leads };
  stands = entered.counted.stands;
  text_is = told entered.after entered.counted.counts;
}
told_by cfg count started raised book tally (Err because) items entered told = record {
  history = entered.after;
  load = record {
    more = [];
    load = record { started = started; raised = raised; entered = entered.leads };
  };
  stands = entered.counted.stands;
}

-- the text of the counts is written by a call
pub loads_told : (cfg : Sections) (count : ℕ) (book : Book) (text : List ℕ) (sink sink' : SinkSeen) (ends : Status)
    → IsTold cfg count book text → Tells text sink sink' ends → Loads cfg count book sink sink' ends
loads_told cfg count book text sink sink' status.Ok told wrote = record {
  history = told.history;
  load = told.load;
  stands = told.stands;
  taken = subst (Grows sink.taken sink'.taken) told.text_is wrote.taken;
  same = wrote.same;
}
loads_told cfg count book text sink sink' status.WriteFault told broke = record {
  history = told.history;
  load = told.load;
  stands = told.stands;
  part = broke.part;
  rest = broke.rest;
  text_is = sym told.text_is ∙ broke.text_is;
  taken = broke.taken;
  counts = broke.counts;
}
loads_told cfg count book text sink sink' status.Usage told other = other
loads_told cfg count book text sink sink' status.ConfigRead told other = other
loads_told cfg count book text sink sink' (status.ConfigRefused fault) told other = other
loads_told cfg count book text sink sink' (status.ScriptRefused line) told other = other
loads_told cfg count book text sink sink' status.ReadFault told other = other
loads_told cfg count book text sink sink' status.NoCrew told other = other
loads_told cfg count book text sink sink' status.NoMemory told other = absurd other
loads_told cfg count book text sink sink' status.InputLong told other = other
