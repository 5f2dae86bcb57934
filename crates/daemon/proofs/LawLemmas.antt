-- What follows of the history of a run.
use Rattle.std.proofs.Common.{◌≡◌, ◌⊎◌, ℕ, ◌+◌, ◌-◌, ◌^◌, ◌<◌, ◌≤◌, Bool, true, false, true≢false, ◌||◌, cond}
use Rattle.std.proofs.Common.{List, [], ◌∷◌, ◌++◌, Option, refl, sym, ap, subst, ◌∙◌, inl, inr, arith}
use Rattle.std.specs.Prelude.{Contains, min, reverse, Ok, if◌then◌else◌}
use Rattle.std.specs.List.{flat_map, list_any}
use Rattle.std.proofs.Math.Nat.{min-le_left}
use Rattle.std.proofs.lemmas.Bool.Decides.{nat_tests}
use Rattle.std.proofs.lemmas.List.{append_assoc, reverse-append}
use Rattle.std.proofs.lemmas.List.Folds.{list_any-append}
use mathlib.Core.List.{IsPrefix}
use Rattle.command_grammar.specs.declared.command.Command.TheVariants as command
use Rattle.config_model.specs.Sections.{Sections}
use Rattle.config_model.specs.declared.slots.Slots.{Slots}
use Rattle.outside.specs.Told.{counted}
use Rattle.book_gate.specs.Histories.{entries, entries_by, is_name}
use Rattle.book_gate.specs.Known.{Known}
use Rattle.book_gate.specs.declared.view.Signed.{Signed}
use Rattle.book_gate.proofs.HistoryLemmas.{entries-prefix, entries-push}
use Rattle.book_gate.proofs.ListLemmas.{contains_cases, contains_here, contains_none, contains_there}
use Rattle.book_history.specs.Entries.{Entry, History}
use Rattle.book_history.specs.Entries.Entry.{ControlAsked, HelperDeaf, HelperGone, LineEntered}
use Rattle.book_history.specs.Entries.Entry.{Stopped, WentDown}
use Rattle.book_history.specs.Legal.{Allows, directed, is_reload_due}
use Rattle.book_history.specs.Verdicts.{is_stopping}
use Rattle.book_history.specs.declared.outcomes.Control.TheVariants as control
use Rattle.book_history.specs.declared.outcomes.NotRead.TheVariants as not_read
use Rattle.book_history.specs.declared.outcomes.Verdict.TheVariants as verdict
use Rattle.control_worker.specs.Rounds.{counted_behind, stop_told, Round as Keeping, entries_of as kept_by}
use Rattle.control_worker.specs.Rounds.Round.{Idle as KeptIdle, Loaded, Refused as NotLoaded}
use Rattle.helper_worker.specs.Handing.{HasStop, IsAnswered, TookNothing, is_stop, under, writer_of}
use Rattle.helper_worker.proofs.HandingLemmas.{any_stays, stop_stays}
use Rattle.helper_worker.proofs.StayLemmas.{answers_stay}
use Rattle.daemon.specs.Done.{IfRun}
use Rattle.daemon.specs.Entered.{HasShutdown, IsByWorker, IsOfKeeper, IsOfReader, IsOfReplier, IsOfTalker}
use Rattle.daemon.specs.Entered.{RoseBy, are_answered, is_shutdown, unread_in}
use Rattle.daemon.specs.Laws.{IsOfSlot, NoneRefused, RunsAnswer, RunsCount, RunsEnd, RunsEnter, RunsName, RunsReload}
use Rattle.daemon.specs.Laws.{RunsShutDown, RunsStop}
use Rattle.daemon.specs.Names.{keeper_of, reader_of, talker_of, workers}
use Rattle.daemon.specs.Runs.{Devices, IsRun, KeeperRan, ReplierRan}
use Rattle.daemon.proofs.EnteredLemmas.{by_worker}

pub runs_enter : RunsEnter
runs_enter refused old new content path slots last run made has =
    by_worker refused old new content path slots last run made has

-- an entry that passes a test
abbrev Found : (Entry → Bool) → List (Signed Entry) → Type 0
Found test seen = (made : Signed Entry) × Contains seen made × (test made.entry ≡ true)

found_first : (test : Entry → Bool) (made : Signed Entry) (seen : List (Signed Entry))
    → (list_any test (entries seen) ≡ true → Found test seen) → (passes : Bool) → test made.entry ≡ passes
    → (passes || list_any test (entries seen)) ≡ true → Found test (made ∷ seen)
found_first test made seen others true is any = (made, contains_here made seen, is)
found_first test made seen others false is any =
    let found = others any in (found.0, contains_there made seen found.0 found.1, found.2)

some_entry : (test : Entry → Bool) (seen : List (Signed Entry)) → list_any test (entries seen) ≡ true → Found test seen
some_entry test [] any = absurd (true≢false (sym any))
some_entry test (made ∷ seen) any = found_first test made seen (some_entry test seen) (test made.entry) refl any

-- no worker's own entry ends the daemon
reader_no_stop : (moments : Option (ℕ → Bool)) (h : ℕ) (entry : Entry) → IsOfReader moments h entry
    → is_stop entry ≡ true → ⊥
reader_no_stop moments h Stopped own is = own
reader_no_stop moments h _ own is = true≢false (sym is)

replier_no_stop : (h : ℕ) (entry : Entry) → IsOfReplier h entry → is_stop entry ≡ true → ⊥
replier_no_stop h Stopped own is = own
replier_no_stop h _ own is = true≢false (sym is)

talker_no_stop : (n : ℕ) (entry : Entry) → IsOfTalker n entry → is_stop entry ≡ true → ⊥
talker_no_stop n Stopped own is = own
talker_no_stop n _ own is = true≢false (sym is)

keeper_no_stop : (content : Option (List ℕ → List ℕ)) (path : List ℕ) (slots : Slots) (entry : Entry)
    → IsOfKeeper content path slots entry
    → is_stop entry ≡ true → ⊥
keeper_no_stop content path slots Stopped own is = own
keeper_no_stop content path slots _ own is = true≢false (sym is)

pub runs_stop : RunsStop
runs_stop refused old new content path slots last run stop =
    of (by_worker refused old new content path slots last run found.0 found.1)
  where
    found : Found is_stop last.seen
    found = some_entry is_stop last.seen stop

    of : IsByWorker refused old.moments content path slots found.0
        → (k : ℕ) × (k < workers slots.helpers slots.peers) × (refused k ≡ true)
    of (inl (h, low, name, inl own)) = absurd (reader_no_stop old.moments h found.0.entry own found.2)
    of (inl (h, low, name, inr (is, off))) = (h + h, omega arith, off)
    of (inr (inl (h, low, name, inl own))) = absurd (replier_no_stop h found.0.entry own found.2)
    of (inr (inl (h, low, name, inr (is, off)))) = (h + h + 1, omega arith, off)
    of (inr (inr (inl (n, low, name, inl own)))) = absurd (talker_no_stop n found.0.entry own found.2)
    of (inr (inr (inl (n, low, name, inr (is, off))))) = (slots.helpers + slots.helpers + n, omega arith, off)
    of (inr (inr (inr (name, inl own)))) = absurd (keeper_no_stop content path slots found.0.entry own found.2)
    of (inr (inr (inr (name, inr (is, off))))) = (slots.helpers + slots.helpers + slots.peers, omega arith, off)

-- a worker's own entry tells its slot
reader_slot : (moments : Option (ℕ → Bool)) (helpers h : ℕ) (name : List ℕ) → name ≡ reader_of h → (entry : Entry)
    → IsOfReader moments h entry → IsOfSlot helpers entry name
reader_slot moments helpers h name is (HelperGone slot inc) own = is ∙ ap reader_of (sym own)
reader_slot moments helpers h name is (HelperDeaf slot inc) own = absurd own
reader_slot moments helpers h name is (WentDown n) own = absurd own
reader_slot moments helpers h name is _ own = tt

replier_slot : (helpers h : ℕ) (name : List ℕ) → name ≡ writer_of h → (entry : Entry)
    → IsOfReplier h entry → IsOfSlot helpers entry name
replier_slot helpers h name is (HelperGone slot inc) own = absurd own
replier_slot helpers h name is (HelperDeaf slot inc) own = is ∙ ap writer_of (sym own)
replier_slot helpers h name is (WentDown n) own = absurd own
replier_slot helpers h name is _ own = tt

talker_slot : (helpers n : ℕ) (name : List ℕ) → name ≡ talker_of helpers n → (entry : Entry)
    → IsOfTalker n entry → IsOfSlot helpers entry name
talker_slot helpers n name is (HelperGone slot inc) own = absurd own
talker_slot helpers n name is (HelperDeaf slot inc) own = absurd own
talker_slot helpers n name is (WentDown slot) own = is ∙ ap (talker_of helpers) (sym own)
talker_slot helpers n name is _ own = tt

keeper_slot : (content : Option (List ℕ → List ℕ)) (path : List ℕ) (slots : Slots) (helpers : ℕ) (name : List ℕ)
    (entry : Entry)
    → IsOfKeeper content path slots entry → IsOfSlot helpers entry name
keeper_slot content path slots helpers name (HelperGone slot inc) own = absurd own
keeper_slot content path slots helpers name (HelperDeaf slot inc) own = absurd own
keeper_slot content path slots helpers name (WentDown slot) own = absurd own
keeper_slot content path slots helpers name _ own = tt

stop_slot : (helpers : ℕ) (name : List ℕ) (entry : Entry) → entry ≡ Stopped → IsOfSlot helpers entry name
stop_slot helpers name entry is = subst (λ it. IsOfSlot helpers it name) (sym is) tt

pub runs_name : RunsName
runs_name refused old new content path slots last run made has =
    of (by_worker refused old new content path slots last run made has)
  where
    of : IsByWorker refused old.moments content path slots made → IsOfSlot slots.helpers made.entry made.name
    of (inl (h, low, name, inl own)) = reader_slot old.moments slots.helpers h made.name name made.entry own
    of (inl (h, low, name, inr (is, off))) = stop_slot slots.helpers made.name made.entry is
    of (inr (inl (h, low, name, inl own))) = replier_slot slots.helpers h made.name name made.entry own
    of (inr (inl (h, low, name, inr (is, off)))) = stop_slot slots.helpers made.name made.entry is
    of (inr (inr (inl (n, low, name, inl own)))) = talker_slot slots.helpers n made.name name made.entry own
    of (inr (inr (inl (n, low, name, inr (is, off))))) = stop_slot slots.helpers made.name made.entry is
    of (inr (inr (inr (name, inl own)))) = keeper_slot content path slots slots.helpers made.name made.entry own
    of (inr (inr (inr (name, inr (is, off))))) = stop_slot slots.helpers made.name made.entry is

-- the keeper's rounds answer what is due
rounds_answer : (rounds : List Keeping) → are_answered false (flat_map kept_by rounds ++ stop_told ∷ []) ≡ true
rounds_answer [] = refl
rounds_answer (KeptIdle ∷ rounds) = rounds_answer rounds
rounds_answer (Loaded new given ∷ rounds) = rounds_answer rounds
rounds_answer (NotLoaded why ∷ rounds) = rounds_answer rounds

keeper_answers : (content : Option (List ℕ
    → List ℕ)) (path : List ℕ) (slots : Slots) (was now : ℕ) (seen : List (Signed Entry)) (off : Bool)
    → IfRun off (KeeperRan content path slots was now seen)
    ((under (keeper_of slots.helpers slots.peers) seen ≡ Stopped ∷ []) × (now ≡ was))
    → are_answered false (under (keeper_of slots.helpers slots.peers) seen) ≡ true
keeper_answers content path slots was now seen false ran = ap (are_answered false) ran.made ∙ rounds_answer ran.rounds
keeper_answers content path slots was now seen true off = ap (are_answered false) off.0

pub runs_reload : RunsReload
runs_reload refused old new content path slots last run =
    keeper_answers content path slots old.faults new.faults last.seen
    (refused (slots.helpers + slots.helpers + slots.peers)) run.keeper

min_step : (before count end now : ℕ) → min (min (before + 1) end + count) end ≤ now
    → min (before + (count + 1)) end ≤ now
min_step before count end now below = grind (arith, nat_tests)

min_none : (before end : ℕ) → min (before + 0) end ≤ before
min_none before end = omega (arith, min-le_left (before + 0) end)

-- a count that rises by one and then by more rises by one more
rose_more : (count before now : ℕ) → RoseBy count (counted before) now → RoseBy (count + 1) before now
rose_more count before now rose = min_step before count (2 ^ 64 - 1) now rose

rounds_count : (rounds : List Keeping) (before : ℕ)
    → RoseBy (unread_in (flat_map kept_by rounds ++ stop_told ∷ [])) before (counted_behind before rounds)
rounds_count [] before = min_none before (2 ^ 64 - 1)
rounds_count (KeptIdle ∷ rounds) before = rounds_count rounds before
rounds_count (Loaded new given ∷ rounds) before = rounds_count rounds before
rounds_count (NotLoaded not_read.ReadFault ∷ rounds) before =
    rose_more (unread_in (flat_map kept_by rounds ++ stop_told ∷ [])) before
    (counted_behind (counted before) rounds) (rounds_count rounds (counted before))
rounds_count (NotLoaded (not_read.Refused fault) ∷ rounds) before = rounds_count rounds before
rounds_count (NotLoaded not_read.NoMemory ∷ rounds) before = rounds_count rounds before

keeper_counts : (content : Option (List ℕ
    → List ℕ)) (path : List ℕ) (slots : Slots) (was now : ℕ) (seen : List (Signed Entry)) (off : Bool)
    → IfRun off (KeeperRan content path slots was now seen)
    ((under (keeper_of slots.helpers slots.peers) seen ≡ Stopped ∷ []) × (now ≡ was))
    → RoseBy (unread_in (under (keeper_of slots.helpers slots.peers) seen)) was now
keeper_counts content path slots was now seen false ran =
    subst (λ made. RoseBy (unread_in made) was now) (sym ran.made)
    (subst (λ count. RoseBy (unread_in (flat_map kept_by ran.rounds ++ stop_told ∷ [])) was count) (sym ran.counts)
    (rounds_count ran.rounds was))
keeper_counts content path slots was now seen true off =
    subst (λ made. RoseBy (unread_in made) was now) (sym off.0)
    (subst (λ count. RoseBy 0 was count) (sym off.1) (rounds_count [] was))

pub runs_count : RunsCount
runs_count refused old new content path slots last run =
    keeper_counts content path slots old.faults new.faults last.seen
    (refused (slots.helpers + slots.helpers + slots.peers)) run.keeper

-- a job that isn't refused ran
ran : (R O : Type 0) (off : Bool) → off ≡ false → IfRun off R O → R
ran R O false is run = run
ran R O true is run = absurd (true≢false is)

pub runs_end : RunsEnd
runs_end refused old new content path slots last run none = record {
  readers = λ h low. let it = ran _ _ (refused (h + h)) (none (h + h) (omega arith)) (run.readers h low) in
      (it.now, (_, it.made));
  talkers = λ n low. let it = ran _ _ (refused (slots.helpers + slots.helpers + n))
      (none (slots.helpers + slots.helpers + n) (omega arith)) (run.talkers n low) in (_, it.made);
  keeper = let it = ran _ _ (refused (slots.helpers + slots.helpers + slots.peers))
      (none (slots.helpers + slots.helpers + slots.peers) (omega arith)) run.keeper in (_, it.made);
}

no_stop : (refused : ℕ → Bool) (old new : Devices) (content : Option (List ℕ → List ℕ)) (path : List ℕ) (slots : Slots)
    (last : Known Sections Entry) → IsRun refused old new content path slots last → NoneRefused refused slots
    → HasStop last.seen → ⊥
no_stop refused old new content path slots last run none stop =
    let found = runs_stop refused old new content path slots last run stop in
    true≢false (sym found.2 ∙ none found.0 found.1)

-- a history behind which the daemon ends has an accepted shutdown or was ended by a worker
stopping_by : (H : History) → is_stopping H ≡ true → (list_any is_shutdown H ≡ true) ⊎ (list_any is_stop H ≡ true)
stopping_by [] is = absurd (true≢false (sym is))
stopping_by (LineEntered h inc line (Ok command.Shutdown) verdict.Done ∷ H) is = inl refl
stopping_by (Stopped ∷ H) is = inr refl
stopping_by (_ ∷ H) is = stopping_by H is

stop_told_when : (stopping due : Bool)
    → control.Stop ≡ (if stopping then control.Stop else (if due then control.ReloadDue else control.Nothing))
    → stopping ≡ true
stop_told_when true due is = refl
stop_told_when false true is = absurd cc
stop_told_when false false is = absurd cc

any_reverse : (test : Entry → Bool) (H : List Entry) → list_any test (reverse H) ≡ true → list_any test H ≡ true
any_reverse test [] any = any
any_reverse test (entry ∷ H) any =
    of (test entry) (list_any test (reverse H)) (any_reverse test H)
    (sym (list_any-append test (reverse H) (entry ∷ [])) ∙ (ap (list_any test) (sym (reverse-append
    (entry ∷ []) H)) ∙ any))
  where
    of : (this those : Bool) → (those ≡ true → list_any test H ≡ true) → (those || (this || false)) ≡ true
        → (this || list_any test H) ≡ true
    of true those rest any = refl
    of false true rest any = rest refl
    of false false rest any = absurd (true≢false (sym any))

-- where an entry stands
split_first : (first : Signed Entry) (seen : List (Signed Entry)) (made : Signed Entry)
    → (Contains seen made → (before : List (Signed Entry)) × IsPrefix (before ++ made ∷ []) seen)
    → (first ≡ made) ⊎ Contains seen made → (before : List (Signed Entry))
    × IsPrefix (before ++ made ∷ []) (first ∷ seen)
split_first first seen made others (inl is) = ([], (seen, ap (λ (it : Signed Entry). it ∷ seen) (sym is)))
split_first first seen made others (inr rest) =
    let found = others rest in
    (first ∷ found.0, (found.1.0, ap (λ (behind : List (Signed Entry)). first ∷ behind) found.1.1))

split_at : (seen : List (Signed Entry)) (made : Signed Entry) → Contains seen made
    → (before : List (Signed Entry)) × IsPrefix (before ++ made ∷ []) seen
split_at [] made has = absurd (contains_none made has)
split_at (first ∷ seen) made has =
    split_first first seen made (split_at seen made) (contains_cases first seen made has)

any_last : (test : Entry → Bool) (front : List Entry) (last : Entry) → test last ≡ true
    → list_any test (front ++ last ∷ []) ≡ true
any_last test front last is =
    list_any-append test front (last ∷ []) ∙ or_true (list_any test front) (test last) is
  where
    or_true : (a b : Bool) → b ≡ true → (a || (b || false)) ≡ true
    or_true true b is = refl
    or_true false true is = refl
    or_true false false is = absurd (true≢false (sym is))

or_late : (a b : Bool) → b ≡ true → (a || b) ≡ true
or_late true b is = refl
or_late false b is = is

or_more : (a b c : Bool) → (b ≡ true → c ≡ true) → (a || b) ≡ true → (a || c) ≡ true
or_more true b c more is = refl
or_more false b c more is = more is

any_of_under : (test : Entry → Bool) (name : List ℕ) (seen : List (Signed Entry))
    → list_any test (under name seen) ≡ true → list_any test (entries seen) ≡ true
any_of_under test name [] any = any
any_of_under test name (made ∷ seen) any =
    kept (is_name name made.name) (any_of_under test name seen) any
  where
    kept : (here : Bool) → (list_any test (under name seen) ≡ true → list_any test (entries seen) ≡ true)
        → list_any test (entries (cond here (made ∷ entries_by name seen) (entries_by name seen))) ≡ true
        → (test made.entry || list_any test (entries seen)) ≡ true
    kept true others any =
        or_more (test made.entry) (list_any test (under name seen)) (list_any test (entries seen)) others any
    kept false others any = or_late (test made.entry) (list_any test (entries seen)) (others any)

abbrev is_told : Entry → Bool
is_told (ControlAsked control.Stop) = true
is_told _ = false

told_is : (entry : Entry) → is_told entry ≡ true → entry ≡ stop_told
told_is (ControlAsked control.Stop) is = refl
told_is _ is = absurd (true≢false (sym is))

pub runs_shut_down : RunsShutDown
runs_shut_down refused old new content path slots last run none =
    (of (stopping_by (reverse (entries before)) stopping), no_stop refused old new content path slots last run none)
  where
    ends : (front : List Entry) × (under (keeper_of slots.helpers slots.peers) last.seen ≡ front ++ stop_told ∷ [])
    ends = (runs_end refused old new content path slots last run none).keeper

    found : Found is_told last.seen
    found = some_entry is_told last.seen (any_of_under is_told (keeper_of slots.helpers slots.peers) last.seen
        (ap (list_any is_told) ends.1 ∙ any_last is_told ends.0 stop_told refl))

    before : List (Signed Entry)
    before = (split_at last.seen found.0 found.1).0

    front : IsPrefix (before ++ found.0 ∷ []) last.seen
    front = (split_at last.seen found.0 found.1).1

    legal : control.Stop ≡ directed (reverse (entries before))
    legal =
        subst (λ entry. Allows run.history.legal.0 (reverse (entries before)) entry) (told_is found.0.entry found.2)
        (run.history.legal.2 (entries before) found.0.entry
        (subst (λ front. IsPrefix front (entries last.seen)) (entries-push before found.0)
        (entries-prefix (before ++ found.0 ∷ []) last.seen front)))

    stopping : is_stopping (reverse (entries before)) ≡ true
    stopping = stop_told_when (is_stopping (reverse (entries before))) (is_reload_due (reverse (entries before))) legal

    earlier : IsPrefix before last.seen
    earlier = (found.0 ∷ front.0, sym (append_assoc before (found.0 ∷ []) front.0) ∙ front.1)

    of : (list_any is_shutdown (reverse (entries before)) ≡ true) ⊎ (list_any is_stop (reverse (entries before)) ≡ true)
        → HasShutdown last.seen
    of (inl shut) = any_stays is_shutdown before last.seen earlier (any_reverse is_shutdown (entries before) shut)
    of (inr stop) = absurd (no_stop refused old new content path slots last run none
        (stop_stays before last.seen earlier (any_reverse is_stop (entries before) stop)))

pub runs_answer : RunsAnswer
runs_answer refused old new content path slots last run none h inc taken faults low back = of back.back
  where
    served : ReplierRan h last.seen
    served = ran _ _ (refused (h + h + 1)) (none (h + h + 1) (omega arith)) (run.repliers h low)

    of : IsAnswered (writer_of h) h inc taken faults back.before ⊎ (TookNothing taken × HasStop back.before)
        → IsAnswered (writer_of h) h inc taken faults last.seen
    of (inl answered) = answers_stay (writer_of h) h inc 0 served.last taken faults served.rounds back.before last.seen
        served.good served.rises served.made back.front answered
    of (inr (nothing, stop)) = absurd (no_stop refused old new content path slots last run none
        (stop_stays back.before last.seen back.front stop))
