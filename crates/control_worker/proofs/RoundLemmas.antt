-- One round more of a keeper.
use Rattle.std.proofs.Common.{ℕ, ◌≡◌, Bool, true, false, true≢false, Result, Ok, Err, List, [], ◌∷◌, ◌++◌, Option}
use Rattle.std.proofs.Common.{refl, ap, sym, subst, ◌∙◌, append-nil}
use Rattle.std.specs.List.{flat_map}
use Rattle.std.proofs.lemmas.List.Concat.{flat_map-append}
use Rattle.std.proofs.lemmas.List.Elements.{All-append, All-cons, All-nil}
use Rattle.outside.specs.Told.{CountsOne}
use Rattle.config_model.specs.declared.slots.Slots.{Slots}
use Rattle.config_model.specs.Sections.{Sections}
use Rattle.book_history.specs.Entries.{Entry}
use Rattle.book_history.specs.Entries.Entry.{ControlAsked, Reloaded, ReloadRefused}
use Rattle.book_history.specs.declared.outcomes.Control.TheVariants as control
use Rattle.book_history.specs.declared.outcomes.NotRead.{NotRead}
use Rattle.book_history.specs.declared.outcomes.NotRead.TheVariants as not_read
use Rattle.book_history.specs.declared.outcomes.Reload.{Reload}
use Rattle.book_gate.specs.Calls.{Enters}
use Rattle.book_gate.specs.Known.{Known}
use Rattle.config_files.specs.Configured.{IsConfigAt, IsNoneAt}
use Rattle.pass_entries.specs.Making.{Makes}
use Rattle.pass_entries.proofs.MakingLemmas.{makes_more, makes_none, makes_one}
use Rattle.control_worker.specs.Rounds.{IsFiled, Keeps, Reloads, Round, Idle, Loaded, Refused}
use Rattle.control_worker.specs.Rounds.{answered, counted_behind, counted_by, due_told, entries_of}

-- the count behind one round more
counted_next : (faults : ℕ) (rounds : List Round) (round : Round)
    → counted_behind faults (rounds ++ round ∷ []) ≡ counted_by (counted_behind faults rounds) round
counted_next faults [] round = refl
counted_next faults (first ∷ rounds) round = counted_next (counted_by faults first) rounds round

-- the entries of one round more
entries_next : (rounds : List Round) (round : Round)
    → flat_map entries_of (rounds ++ round ∷ []) ≡ flat_map entries_of rounds ++ entries_of round
entries_next rounds round =
    flat_map-append entries_of rounds (round ∷ [])
    ∙ ap (λ (entries : List Entry). flat_map entries_of rounds ++ entries) (append-nil (entries_of round))

-- whether a file wasn't read
abbrev is_fault : {T : Type 0} → Result T NotRead → Bool
is_fault (Err not_read.ReadFault) = true
is_fault (Err (not_read.Refused fault)) = false
is_fault (Err not_read.NoMemory) = false
is_fault (Ok config) = false

-- the answer that there is no configuration
abbrev none_for : (T : Type 0) → NotRead → Result T NotRead
none_for T why = Err why

-- the count behind a refusal
counted_as : (T : Type 0) (faults faults' : ℕ) (why : NotRead)
    → (none_for T why ≡ none_for T not_read.ReadFault → CountsOne faults faults')
    → ((none_for T why ≡ none_for T not_read.ReadFault → ⊥) → faults' ≡ faults)
    → faults' ≡ counted_by faults (Refused why)
counted_as T faults faults' not_read.ReadFault one same = (one refl).0
counted_as T faults faults' (not_read.Refused fault) one same = same (λ is. true≢false (sym (ap (is_fault {T = T}) is)))
counted_as T faults faults' not_read.NoMemory one same = same (λ is. true≢false (sym (ap (is_fault {T = T}) is)))

module _ {A : Type 0} (content : Option (List ℕ → List ℕ)) (path : List ℕ) (slots : Slots) where
  -- no round
  pub keeps_none : (pass : Known A Entry) (faults : ℕ) → Keeps content path slots pass faults [] faults pass
  keeps_none pass faults =
      record { rounds = []; makes = makes_none pass; filed = All-nil (IsFiled content path slots); counts = refl }

  -- one round more
  keeps_round : (pass between later : Known A Entry) (faults mid faults' : ℕ) (round : Round)
      → Keeps content path slots pass faults [] mid between → Makes between (entries_of round) later
      → IsFiled content path slots round → faults' ≡ counted_by mid round
      → Keeps content path slots pass faults [] faults' later
  keeps_round pass between later faults mid faults' round kept makes filed counts =
      record {
        rounds = kept.rounds ++ round ∷ [];
        makes =
            subst (λ (made : List Entry). Makes pass made later)
            (ap (λ (made : List Entry). made ++ entries_of round) (append-nil (flat_map entries_of kept.rounds))
            ∙ (sym (entries_next kept.rounds round)
            ∙ sym (append-nil (flat_map entries_of (kept.rounds ++ round ∷ [])))))
            (makes_more pass between later (flat_map entries_of kept.rounds ++ []) (entries_of round) kept.makes makes);
        filed =
            All-append (IsFiled content path slots) kept.rounds (round ∷ []) kept.filed
            (All-cons (IsFiled content path slots) round [] filed (All-nil (IsFiled content path slots)));
        counts =
            counts
            ∙ (ap (λ (count : ℕ). counted_by count round) kept.counts ∙ sym (counted_next faults kept.rounds round));
      }

  -- nothing was to be done
  pub keeps_idle : (law : A → List Entry → Entry → Type 0) (pass between later : Known A Entry) (faults mid : ℕ)
      → Keeps content path slots pass faults [] mid between
      → Enters law between (ControlAsked control.Nothing) later → Keeps content path slots pass faults [] mid later
  keeps_idle law pass between later faults mid kept entered =
      keeps_round pass between later faults mid mid Idle kept
      (makes_one law between later (ControlAsked control.Nothing) entered) tt refl

  -- a reload was due, and what came of it was entered
  pub keeps_reload : (law : A → List Entry → Entry → Type 0) (pass between asked later : Known A Entry)
      (faults mid faults' : ℕ) → Keeps content path slots pass faults [] mid between → Enters law between due_told asked
      → Reloads content path slots asked mid faults' later → Keeps content path slots pass faults [] faults' later
  keeps_reload law pass between asked later faults mid faults' kept entered reloads =
      keeps_round pass between later faults mid faults' reloads.round kept
      (subst (λ (made : List Entry). Makes between made later) (sym reloads.due)
      (makes_more between asked later (due_told ∷ []) (answered reloads.round)
      (makes_one law between asked due_told entered) reloads.makes))
      reloads.filed reloads.counts

  -- the last entry
  pub keeps_end : (law : A → List Entry → Entry → Type 0) (pass between later : Known A Entry) (faults mid : ℕ)
      (last : Entry) → Keeps content path slots pass faults [] mid between → Enters law between last later
      → Keeps content path slots pass faults (last ∷ []) mid later
  keeps_end law pass between later faults mid last kept entered =
      record {
        rounds = kept.rounds;
        makes =
            makes_more pass between later (flat_map entries_of kept.rounds) (last ∷ [])
            (subst (λ (made : List Entry). Makes pass made between) (append-nil (flat_map entries_of kept.rounds))
            kept.makes)
            (makes_one law between later last entered);
        filed = kept.filed;
        counts = kept.counts;
      }

  -- a configuration was entered
  pub reloads_loaded : (law : A → List Entry → Entry → Type 0) (pass later : Known A Entry) (faults faults' : ℕ)
      (new : Sections) (given : Reload) → Enters law pass (Reloaded new given) later → IsConfigAt content path slots new
      → faults' ≡ faults → Reloads content path slots pass faults faults' later
  reloads_loaded law pass later faults faults' new given entered filed same =
      record {
        round = Loaded new given;
        due = refl;
        makes = makes_one law pass later (Reloaded new given) entered;
        filed = filed;
        counts = same;
      }

  -- why there is none was entered
  pub reloads_refused : (T : Type 0) (law : A → List Entry → Entry → Type 0) (pass later : Known A Entry)
      (faults faults' : ℕ) (why : NotRead) → Enters law pass (ReloadRefused why) later
      → IsNoneAt content path slots why → (none_for T why ≡ none_for T not_read.ReadFault → CountsOne faults faults')
      → ((none_for T why ≡ none_for T not_read.ReadFault → ⊥) → faults' ≡ faults)
      → Reloads content path slots pass faults faults' later
  reloads_refused T law pass later faults faults' why entered none one same =
      record {
        round = Refused why;
        due = refl;
        makes = makes_one law pass later (ReloadRefused why) entered;
        filed = none;
        counts = counted_as T faults faults' why one same;
      }
