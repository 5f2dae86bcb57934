-- A helper that is to be started.
use Rattle.std.proofs.Common.{◌≡◌, ℕ, ◌+◌, ◌-◌, ◌^◌, ◌<◌, ◌≤◌, Bool, true, false, not, List, [], ◌∷◌, ◌++◌, length}
use Rattle.std.proofs.Common.{Some, None, refl, sym, ap, ◌∙◌, subst, arith, eq-eqb, eqb-true, ne_eqb, drop}
use Rattle.std.specs.Prelude.{◌==◌, ◌&&◌, ◌||◌, nat_lt, if◌then◌else◌, is_some, IfSome, Option}
use Rattle.std.proofs.lemmas.Bool.{and_parts}
use Rattle.std.proofs.lemmas.Bool.Decides.{Decides-ltb, not_from_Decides}
use Rattle.arrayvec.specs.ArrayVec.{ArrayVec}
use Rattle.ack_queue.specs.declared.reply.Reply.{Reply}
use Rattle.config_model.specs.declared.sections.Process.{Process}
use Rattle.config_model.specs.Sections.{Sections}
use Rattle.respawn_window.specs.Starts.{Remembers, raised, window, with_start}
use Rattle.helper_core.specs.Helper.{Helper as Slot}
use Rattle.helper_core.specs.Starting.{after_start, has_turn, is_go, may_start, start_in, start_of}
use Rattle.helper_core.specs.declared.state.Start.{Start}
use Rattle.helper_core.specs.declared.state.Start.TheVariants as start
use Rattle.helper_core.specs.declared.state.State.{State}
use Rattle.helper_core.specs.declared.state.State.TheVariants.{Absent, Idle, Running, Deaf, GivenUp}
use Rattle.book_history.specs.declared.outcomes.Spawn.{Spawn}
use Rattle.book_history.specs.declared.outcomes.Spawn.TheVariants as spawn
use Rattle.book_history.specs.Bounds.{max_incarnations, max_starts}
use Rattle.book_history.specs.Entries.{History}
use Rattle.book_history.specs.Entries.Entry.{SpawnAsked}
use Rattle.book_history.specs.Helpers.{child, is_given_up, is_present, is_running, last_inc, starts, starts_counted}
use Rattle.book_history.specs.Legal.{gives_up, is_spent, process_started, started}
use Rattle.book_history.specs.Replies.{acks, has_queue, queued, replies, taken}
use Rattle.book_history.specs.Helpers.Child.{NoChild, Running as Runs}
use Rattle.book_history.specs.Slots.{process_at}
use Rattle.book_history.specs.Verdicts.{is_stopping}
use Rattle.helper_book.specs.Seen.{Seen, child_in, has_process, was_given_up}
use Rattle.helper_book.specs.Stands.{Stands}
use Rattle.helper_book.specs.Told.{spawn_of, words_of}
use Rattle.helper_book.proofs.ApartLemmas.{absent_same, running_same, stopping_same}
use Rattle.helper_book.proofs.SameLemmas.{same_stands}

-- The answer.

-- a number up to a bound is the bound where it isn't below it
at_bound : (n m : ℕ) → n ≤ m → (n == m) ≡ not (nat_lt n m)
at_bound n m few = elim (nat_lt n m) as (λ b. nat_lt n m ≡ b → (n == m) ≡ not b) [
  | true ↦ λ e. let less = (Decides-ltb n m).0 e in ne_eqb n m (λ same. absurd (omega (arith, less, same)))
  | false ↦ λ e. let least = not_from_Decides (nat_lt n m) (Decides-ltb n m) e in eq-eqb n m (omega (arith, least))
] refl

-- the two orders of the tests: respawn, started before, fewer than the bound, few of late
turn : (r s c w : Bool) → (((false || not w) || (not r && s)) || not c) ≡ not (((r || not s) && c) && w)
turn true true true true = refl
turn true true true false = refl
turn true true false true = refl
turn true true false false = refl
turn true false true true = refl
turn true false true false = refl
turn true false false true = refl
turn true false false false = refl
turn false true true true = refl
turn false true true false = refl
turn false true false true = refl
turn false true false false = refl
turn false false true true = refl
turn false false true false = refl
turn false false false true = refl
turn false false false false = refl

-- an idle slot's process may be started where it isn't to be given up
idle_turn : (cfg : Sections) (H : History) (h now : ℕ) (helper : Seen) (process : Process) → Stands cfg H h helper
    → process_at cfg H h ≡ Some process → is_given_up cfg h H ≡ false
    → gives_up cfg H h now process ≡ not (may_start (starts cfg h H) now helper.slot)
idle_turn cfg H h now helper process is at wanted =
    let respawn : helper.slot.respawn ≡ process.respawn =
    subst (λ (p : Option Process). IfSome p (λ (one : Process). helper.slot.respawn ≡ one.respawn)) at
    is.process.respawn in
    let w = nat_lt (window (starts cfg h H) now) 5 in
    let s = not (length (starts cfg h H) == 0) in
    let c = nat_lt (starts_counted h H) (2 ^ 64 - 1) in
    ap (λ g. ((g || not w) || (not process.respawn && s)) || starts_counted h H == max_incarnations) wanted
    ∙ ap (λ m. ((false || not w) || (not process.respawn && s)) || m)
    (at_bound (starts_counted h H) max_incarnations is.starts.few)
    ∙ turn process.respawn s c w
    ∙ ap (λ r. not (((r || not s) && c) && w)) (sym respawn)
    ∙ ap (λ t. not (((helper.slot.respawn || not t) && c) && w)) (sym is.starts.started)
    ∙ ap (λ n. not (((helper.slot.respawn || not helper.slot.started) && nat_lt n (2 ^ 64 - 1)) && w))
    (sym is.starts.count)

chosen : (may : Bool) (next : ℕ) (process : Process)
    → (if not may then spawn.GiveUp else spawn.Go next process.run)
    ≡ spawn_of (if may then start.Go next else start.GiveUp) (Some process)
chosen true next process = refl
chosen false next process = refl

-- what the history allows a slot with a process, by the slot's state
in_state : (cfg : Sections) (H : History) (h now : ℕ) (process : Process) (state : State) (may : Bool) (next : ℕ)
    → has_process state ≡ true → child_in state ≡ child cfg h H → was_given_up state ≡ is_given_up cfg h H
    → (is_given_up cfg h H ≡ false → gives_up cfg H h now process ≡ not may) → next ≡ starts_counted h H + 1
    → process_started cfg H h now (Some process) ≡ spawn_of (start_in state may next) (Some process)
in_state cfg H h now process Absent may next some own given idle next_is = cc
in_state cfg H h now process (Running inc) may next some own given idle next_is =
    sym (ap (λ c. if is_present c then spawn.Running
    else (if gives_up cfg H h now process then spawn.GiveUp else spawn.Go (starts_counted h H + 1) process.run)) own)
in_state cfg H h now process (Deaf inc) may next some own given idle next_is =
    sym (ap (λ c. if is_present c then spawn.Running
    else (if gives_up cfg H h now process then spawn.GiveUp else spawn.Go (starts_counted h H + 1) process.run)) own)
in_state cfg H h now process GivenUp may next some own given idle next_is =
    sym (ap (λ c. if is_present c then spawn.Running
    else (if gives_up cfg H h now process then spawn.GiveUp else spawn.Go (starts_counted h H + 1) process.run)) own)
    ∙ sym (ap (λ g. if ((g || not (nat_lt (window (starts cfg h H) now) max_starts))
    || is_spent process (starts cfg h H)) || starts_counted h H == max_incarnations then spawn.GiveUp
    else spawn.Go (starts_counted h H + 1) process.run) given)
in_state cfg H h now process Idle may next some own given idle next_is =
    sym (ap (λ c. if is_present c then spawn.Running
    else (if gives_up cfg H h now process then spawn.GiveUp else spawn.Go (starts_counted h H + 1) process.run)) own)
    ∙ ap (λ so. if so then spawn.GiveUp else spawn.Go (starts_counted h H + 1) process.run) (idle (sym given))
    ∙ ap (λ n. if not may then spawn.GiveUp else spawn.Go n process.run) (sym next_is)
    ∙ chosen may next process

absent_start : (state : State) (may : Bool) (next : ℕ) (process : Option Process) → has_process state ≡ false
    → spawn.Absent ≡ spawn_of (start_in state may next) process
absent_start Absent may next process none = refl
absent_start Idle may next process none = cc
absent_start (Running inc) may next process none = cc
absent_start (Deaf inc) may next process none = cc
absent_start GivenUp may next process none = cc

by_process : (cfg : Sections) (H : History) (h now : ℕ) (helper : Seen) (process : Option Process)
    → Stands cfg H h helper → process_at cfg H h ≡ process
    → process_started cfg H h now process ≡ spawn_of (start_of (starts cfg h H) now helper.slot) process
by_process cfg H h now helper None is at =
    absent_start helper.slot.state (may_start (starts cfg h H) now helper.slot) (helper.slot.count + 1) None
    (is.process.present ∙ ap is_some at)
by_process cfg H h now helper (Some process) is at =
    in_state cfg H h now process helper.slot.state (may_start (starts cfg h H) now helper.slot)
    (helper.slot.count + 1) (is.process.present ∙ ap is_some at) is.process.own_child is.process.given_up
    (idle_turn cfg H h now helper process is at) (ap (λ n. n + 1) is.starts.count)

pub started_is : (cfg : Sections) (H : History) (h now : ℕ) (helper : Seen) → Stands cfg H h helper
    → is_stopping H ≡ false
    → spawn_of (start_of (starts cfg h H) now helper.slot) helper.process ≡ started cfg H h now
started_is cfg H h now helper is going =
    ap (spawn_of (start_of (starts cfg h H) now helper.slot)) is.process.section
    ∙ sym (ap (λ so. if so then spawn.Stopping else process_started cfg H h now (process_at cfg H h)) going
    ∙ by_process cfg H h now helper (process_at cfg H h) is refl)

pub stopping_is : (cfg : Sections) (H : History) (h now : ℕ) → is_stopping H ≡ true
    → spawn.Stopping ≡ started cfg H h now
stopping_is cfg H h now ends =
    sym (ap (λ so. if so then spawn.Stopping else process_started cfg H h now (process_at cfg H h)) ends)

pub stopping_stands : (cfg : Sections) (H : History) (h now : ℕ) (helper : Seen) → Stands cfg H h helper
    → Stands cfg (SpawnAsked h now spawn.Stopping ∷ H) h helper
stopping_stands cfg H h now helper is =
    same_stands cfg H (SpawnAsked h now spawn.Stopping ∷ H) h helper (stopping_same cfg H h h now) is

-- What an attempt leaves.

-- the helper with this slot behind an attempt
abbrev pub after_spawn : Seen → Start → Slot → Seen
after_spawn helper start slot = record {
  slot = slot;
  process = helper.process;
  acks = is_go start || helper.acks;
}

given_up_from : (state : State) (may : Bool) (next : ℕ) → start_in state may next ≡ start.GiveUp
    → (has_process state ≡ true) × (child_in state ≡ NoChild)
given_up_from Absent may next e = cc
given_up_from Idle may next e = (refl, refl)
given_up_from (Running inc) may next e = cc
given_up_from (Deaf inc) may next e = cc
given_up_from GivenUp may next e = (refl, refl)

-- a start comes from an idle slot that may be started
record ComesFrom (state : State) (may : Bool) (next inc : ℕ) : Type 0 where
  pub some : has_process state ≡ true
  pub wanted : was_given_up state ≡ false
  pub allowed : may ≡ true
  pub next_is : inc ≡ next

comes_from : (state : State) (may : Bool) (next inc : ℕ) → start_in state may next ≡ start.Go inc
    → ComesFrom state may next inc
comes_from Absent may next inc e = cc
comes_from Idle true next inc e = record {
  some = refl;
  wanted = refl;
  allowed = refl;
  next_is = let same : next ≡ inc = cc in sym same;
}
comes_from Idle false next inc e = cc
comes_from (Running own) may next inc e = cc
comes_from (Deaf own) may next inc e = cc
comes_from GivenUp may next inc e = cc

gives_up_stands : (cfg : Sections) (H : History) (h now : ℕ) (helper : Seen) (kept : List ℕ)
    → start.GiveUp ≡ start_of (starts cfg h H) now helper.slot → Stands cfg H h helper
    → Stands cfg (SpawnAsked h now spawn.GiveUp ∷ H) h
    (after_spawn helper start.GiveUp (after_start start.GiveUp kept helper.slot))
gives_up_stands cfg H h now helper kept gives is =
    let from = given_up_from helper.slot.state (may_start (starts cfg h H) now helper.slot) (helper.slot.count + 1)
    (sym gives) in
    record {
      process = record {
        section = is.process.section;
        present = sym from.0 ∙ is.process.present;
        own_child = sym from.1 ∙ is.process.own_child;
        given_up = sym (ap (λ so. if so then true else is_given_up cfg h H) (eq-eqb h h refl));
        respawn = is.process.respawn;
      };
      starts = record {
        count = is.starts.count;
        last = is.starts.last;
        few = is.starts.few;
        started = is.starts.started;
        window = is.starts.window;
      };
      replies = record {
        waiting = is.replies.waiting;
        on = is.replies.on;
        taken_few = is.replies.taken_few;
        nobody = is.replies.nobody;
        running = λ i runs.
            let was = is.replies.running i runs in record { last = was.last; queue = was.queue };
        unborn = λ i later.
            let was = is.replies.unborn i later in
            record { silent = was.silent; untaken = was.untaken; replied = was.replied };
      };
    }

next_few : (n m : ℕ) → nat_lt n m ≡ true → n + 1 ≤ m
next_few n m less = let below = (Decides-ltb n m).0 less in omega (arith, below)

pushed_some : (xs : List ℕ) (x : ℕ) → true ≡ not (length (xs ++ x ∷ []) == 0)
pushed_some [] x = refl
pushed_some (y ∷ ys) x =
    sym (ap not (ne_eqb (length (y ∷ ys ++ x ∷ [])) 0 (λ e. absurd (let none : length (y ∷ ys ++ x ∷ []) ≡ 0 = e in
    omega arith))))

none_waits : (has : Bool) (t r : List Reply) → t ≡ [] → r ≡ [] → (if has then drop (length t) r else []) ≡ []
none_waits true t r untaken silent = ap (λ (xs : List Reply). drop (length xs) r) untaken ∙ silent
none_waits false t r untaken silent = refl

go_stands : (cfg : Sections) (H : History) (h now inc : ℕ) (run : ArrayVec ℕ) (helper : Seen) (kept : List ℕ)
    → start.Go inc ≡ start_of (starts cfg h H) now helper.slot
    → Remembers (with_start true (starts cfg h H) now) kept → Stands cfg H h helper
    → Stands cfg (SpawnAsked h now (spawn.Go inc run) ∷ H) h
    (after_spawn helper (start.Go inc) (after_start (start.Go inc) kept helper.slot))
go_stands cfg H h now inc run helper kept goes remembers is =
    let K = SpawnAsked h now (spawn.Go inc run) ∷ H in
    let own : (h == h) ≡ true = eq-eqb h h refl in
    let from = comes_from helper.slot.state (may_start (starts cfg h H) now helper.slot) (helper.slot.count + 1) inc
    (sym goes) in
    let next : inc ≡ starts_counted h H + 1 = from.next_is ∙ ap (λ n. n + 1) is.starts.count in
    let later : starts_counted h H < inc = omega (arith, next) in
    let fresh = is.replies.unborn inc later in
    let count : starts_counted h K ≡ starts_counted h H + 1 =
    ap (λ so. if so then starts_counted h H + 1 else starts_counted h H) own in
    let last : last_inc h K ≡ inc = ap (λ so. if so then inc else last_inc h H) own in
    let now_child : child cfg h K ≡ Runs inc = ap (λ so. if so then Runs inc else child cfg h H) own in
    let moments : starts cfg h K ≡ with_start true (starts cfg h H) now =
    ap (λ so. with_start so (starts cfg h H) now) own in
    let slot = helper.slot in
    let turn = and_parts (slot.respawn || not slot.started) (nat_lt slot.count (2 ^ 64 - 1))
    (and_parts (has_turn slot) (nat_lt (window (starts cfg h H) now) 5) from.allowed).0 in
    let below : starts_counted h H + 1 ≤ max_incarnations =
    subst (λ n. n + 1 ≤ max_incarnations) is.starts.count (next_few helper.slot.count max_incarnations turn.1) in
    record {
      process = record {
        section = is.process.section;
        present = sym from.some ∙ is.process.present;
        own_child = sym now_child;
        given_up = sym from.wanted ∙ is.process.given_up;
        respawn = is.process.respawn;
      };
      starts = record {
        count = next ∙ sym count;
        last = last ∙ next ∙ sym count;
        few = subst (λ n. n ≤ max_incarnations) (sym count) below;
        started = pushed_some (starts cfg h H) (raised (starts cfg h H) now)
            ∙ sym (ap (λ (xs : List ℕ). not (length xs == 0)) moments);
        window = subst (λ (xs : List ℕ). Remembers xs kept) (sym moments) remembers;
      };
      replies = record {
        waiting = sym (ap (λ i. queued cfg h i K) last
            ∙ none_waits (has_queue cfg h inc K) (taken h inc H) (replies cfg h inc H) fresh.untaken fresh.silent);
        on = sym (ap (λ i. acks h i K) last ∙ fresh.replied);
        taken_few = subst (λ i. length (taken h i H) ≤ length (replies cfg h i H)) (sym last)
            (let none = ap length fresh.untaken in omega (arith, none));
        nobody = ap (λ so. if so then inc == 0 else has_queue cfg h 0 H) own
            ∙ ne_eqb inc 0 (λ e. absurd (omega (arith, next, e)));
        running = λ i runs.
            let same : inc ≡ i = eqb-true inc i (sym (ap (λ c. is_running c i) now_child) ∙ runs) in
            record {
              last = sym same ∙ sym last;
              queue = ap (λ so. if so then inc == i else has_queue cfg h i H) own ∙ eq-eqb inc i same;
            };
        unborn = λ i after.
            let was = is.replies.unborn i (omega (arith, count, after)) in
            record { silent = was.silent; untaken = was.untaken; replied = was.replied };
      };
    }

attempt_stands : (cfg : Sections) (H : History) (h now : ℕ) (helper : Seen) (start : Start) (kept : List ℕ)
    → start ≡ start_of (starts cfg h H) now helper.slot
    → Remembers (with_start (is_go start) (starts cfg h H) now) kept → Stands cfg H h helper
    → Stands cfg (SpawnAsked h now (spawn_of start helper.process) ∷ H) h
    (after_spawn helper start (after_start start kept helper.slot))
attempt_stands cfg H h now helper start.Absent kept e remembers is =
    same_stands cfg H (SpawnAsked h now spawn.Absent ∷ H) h helper (absent_same cfg H h h now) is
attempt_stands cfg H h now helper start.Running kept e remembers is =
    same_stands cfg H (SpawnAsked h now spawn.Running ∷ H) h helper (running_same cfg H h h now) is
attempt_stands cfg H h now helper start.GiveUp kept e remembers is =
    gives_up_stands cfg H h now helper kept e is
attempt_stands cfg H h now helper (start.Go inc) kept e remembers is =
    go_stands cfg H h now inc (words_of helper.process) helper kept e remembers is

-- the whole of an attempt of a slot that isn't stopping, by what the slot's own call says
pub attempted : (cfg : Sections) (H : History) (h now : ℕ) (helper : Seen) (start : Start) (slot : Slot) (on : Bool)
    (answer : Spawn) → start ≡ start_of (starts cfg h H) now helper.slot
    → slot ≡ after_start start slot.starts helper.slot
    → Remembers (with_start (is_go start) (starts cfg h H) now) slot.starts
    → on ≡ (is_go start || helper.acks) → answer ≡ spawn_of start helper.process → Stands cfg H h helper
    → is_stopping H ≡ false
    → (answer ≡ started cfg H h now)
    × Stands cfg (SpawnAsked h now answer ∷ H) h (record { slot = slot; process = helper.process; acks = on })
attempted cfg H h now helper start slot on answer start_is slot_is remembers on_is answer_is is going =
    let allowed : answer ≡ started cfg H h now =
    answer_is ∙ ap (λ s. spawn_of s helper.process) start_is ∙ started_is cfg H h now helper is going in (
      allowed,
      subst (λ a. Stands cfg (SpawnAsked h now a ∷ H) h
          (record { slot = slot; process = helper.process; acks = on })) (sym answer_is)
          (subst (λ b. Stands cfg (SpawnAsked h now (spawn_of start helper.process) ∷ H) h
          (record { slot = slot; process = helper.process; acks = b })) (sym on_is)
          (subst (λ s. Stands cfg (SpawnAsked h now (spawn_of start helper.process) ∷ H) h
          (record { slot = s; process = helper.process; acks = is_go start || helper.acks })) (sym slot_is)
          (attempt_stands cfg H h now helper start slot.starts start_is remembers is))),
    )
