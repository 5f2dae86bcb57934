-- Lines in time, and those that are too late or have to wait.
use Rattle.std.proofs.Common.{◌≡◌, ℕ, ◌<◌, ◌≤◌, Bool, true, false, not, ◌∷◌, length, Some, Ok, Err, refl, sym, ap, ◌∙◌}
use Rattle.std.proofs.Common.{inl, inr, subst, arith}
use Rattle.std.proofs.lemmas.Bool.{ltb-false, ltb-true}
use Rattle.std.proofs.lemmas.Option.{same_Some, slice_get_read}
use Rattle.std.specs.Prelude.{◌==◌, ◌&&◌, ◌||◌, nat_lt, if◌then◌else◌, Result, get_or, slice_get, slice_set}
use Rattle.text_forms.specs.Lines.{Line}
use Rattle.route_grammar.specs.declared.fault.ReadFault.{ReadFault}
use Rattle.route_grammar.specs.declared.fault.ReadFault.TheVariants as read
use Rattle.command_grammar.specs.declared.command.Command.{Command}
use Rattle.command_grammar.specs.Readings.{Says}
use Rattle.config_model.specs.Sections.{Sections}
use Rattle.helper_book.specs.Seen.{Seen as Helper}
use Rattle.helper_book.specs.Stands as of_helper
use Rattle.book_history.specs.declared.outcomes.Verdict.{Verdict}
use Rattle.book_history.specs.declared.outcomes.Verdict.TheVariants as verdict
use Rattle.book_history.specs.declared.outcomes.Why.{Why}
use Rattle.book_history.specs.declared.outcomes.Why.TheVariants as why
use Rattle.book_history.specs.Bounds.{max_queued}
use Rattle.book_history.specs.Entries.{History}
use Rattle.book_history.specs.Entries.Entry.{LineEntered}
use Rattle.book_history.specs.Helpers.{child, is_running}
use Rattle.book_history.specs.Legal.{Allows, IsVerdict}
use Rattle.book_history.specs.Replies.{queued}
use Rattle.book_history.specs.Verdicts.{is_late, is_stopping, line_verdict, may_lack_memory, reading_verdict}
use Rattle.book_core.specs.Lines.{Answers, HasRoom, IsInTime, Refuses, why_of}
use Rattle.book_core.specs.Seen.{Seen}
use Rattle.book_core.specs.Stands.{Stands}
use Rattle.book_core.proofs.LineLemmas.{line_busy, line_late, line_refused, verdict_read}

-- what is known of an incarnation that isn't late
runs_by : (runs stops : Bool) → (not runs || stops) ≡ false → runs ≡ true
runs_by true stops timely = refl
runs_by false stops timely = absurd (let never : true ≡ false = timely in cc)

pub runs_in_time : (cfg : Sections) (H : History) (h inc : ℕ) → is_late cfg H h inc ≡ false
    → is_running (child cfg h H) inc ≡ true
runs_in_time cfg H h inc timely = runs_by (is_running (child cfg h H) inc) (is_stopping H) timely

-- the helper at a place of a book
pub helper_found : (book : Seen) (h : ℕ) (was : Helper) → h < length book.helpers → was ≡ get_or book.helpers h was
    → slice_get book.helpers h ≡ Some was
helper_found book h was within is = slice_get_read book.helpers (length book.helpers) h was refl within is

-- a helper tells whether it is too late
pub late_told : (cfg : Sections) (H : History) (h inc : ℕ) (book : Seen) (was : Helper) (runs : Bool)
    → h < length book.helpers → was ≡ get_or book.helpers h was
    → (of_helper.Stands cfg H h was → runs ≡ is_running (child cfg h H) inc) → Stands cfg H book
    → (not runs || book.stopping) ≡ is_late cfg H h inc
late_told cfg H h inc book was runs within is told stands =
    let found : slice_get book.helpers h ≡ Some was =
    slice_get_read book.helpers (length book.helpers) h was refl within is in
    ap (λ b. not b || book.stopping) (told (stands.helpers h was found))
    ∙ ap (λ b. not (is_running (child cfg h H) inc) || b) stands.daemon.stopping

-- one more reply finds room where the queue isn't full
pub has_room : (book : Seen) (h : ℕ) (was : Helper) → h < length book.helpers → was ≡ get_or book.helpers h was
    → length was.slot.replies < max_queued → HasRoom h book
has_room book h was within is few = λ helper at.
    let found : slice_get book.helpers h ≡ Some was =
    slice_get_read book.helpers (length book.helpers) h was refl within is in
    subst (λ (one : Helper). length one.slot.replies < max_queued)
    (same_Some was helper (sym found ∙ at)) few

pub room_of : (book : Seen) (h : ℕ) (was : Helper) → h < length book.helpers → was ≡ get_or book.helpers h was
    → HasRoom h book → length was.slot.replies < max_queued
room_of book h was within is room =
    room was (slice_get_read book.helpers (length book.helpers) h was refl within is)

-- want of memory may stand in place of any verdict on a reading
lacks : (late full : Bool) → late ≡ false → full ≡ false → (not late && not full) ≡ true
lacks false false timely room = refl
lacks false true timely room = absurd (let never : true ≡ false = room in cc)
lacks true full timely room = absurd (let never : true ≡ false = timely in cc)

pub wants_memory : (cfg : Sections) (H : History) (h inc : ℕ) (line : Line) (reading : Result Command ReadFault)
    → IsInTime cfg H h inc → IsVerdict cfg H h inc line reading (verdict.Error why.NoMemory)
wants_memory cfg H h inc line reading timely =
    inr (refl, lacks (is_late cfg H h inc) (length (queued cfg h inc H) == max_queued) timely.in_time timely.room)

-- a line in time that finds room has the verdict on its reading
pub is_on_reading : (cfg : Sections) (H : History) (h inc : ℕ) (line : Line) (reading : Result Command ReadFault)
    (given : Verdict) → IsInTime cfg H h inc → given ≡ reading_verdict cfg H h inc line reading
    → IsVerdict cfg H h inc line reading given
is_on_reading cfg H h inc line reading given timely is =
    inl (is ∙ sym (verdict_read cfg H h inc line reading timely.in_time timely.room))

-- a helper is told that a line is refused
pub refused : (h : ℕ) (because : Why) (book : Seen) (was new : Helper) → h < length book.helpers
    → was ≡ get_or book.helpers h was
    → ((cfg : Sections) (H : History) (k inc : ℕ) (line : Line) (reading : Result Command ReadFault)
    → of_helper.Stands cfg H k was → is_running (child cfg k H) inc ≡ true
    → of_helper.Stands cfg (LineEntered k inc line reading (verdict.Error because) ∷ H) k new)
    → Refuses h because book (record book { helpers = slice_set book.helpers h new })
refused h because book was new within is did = λ cfg H inc line reading says timely verdict_is stands.
    line_refused cfg H h inc line reading because book was new within is says verdict_is
    (λ stood. did cfg H h inc line reading stood (runs_in_time cfg H h inc timely.in_time)) stands

-- a line without a command
fault_verdict : (cfg : Sections) (H : History) (h inc : ℕ) (line : Line) (fault : ReadFault)
    → verdict.Error (why_of fault) ≡ reading_verdict cfg H h inc line (Err fault)
fault_verdict cfg H h inc line (read.Line fault) = refl
fault_verdict cfg H h inc line read.NoMemory = refl

pub fault_answers : (h : ℕ) (fault : ReadFault) (old new : Seen) → Refuses h (why_of fault) old new
    → Answers h (Err fault) (verdict.Error (why_of fault)) old new
fault_answers h fault old new refuses = λ cfg H inc line says timely stands.
    refuses cfg H inc line (Err fault) says timely
    (is_on_reading cfg H h inc line (Err fault) (verdict.Error (why_of fault)) timely
    (fault_verdict cfg H h inc line fault)) stands

-- a line that is too late
pub too_late : (cfg : Sections) (H : History) (h inc : ℕ) (line : Line) (reading : Result Command ReadFault)
    (book : Seen) (late : Bool) → Says line reading → late ≡ is_late cfg H h inc → late ≡ true → Stands cfg H book
    → Allows cfg H (LineEntered h inc line reading verdict.Ended)
    × Stands cfg (LineEntered h inc line reading verdict.Ended ∷ H) book
too_late cfg H h inc line reading book late says told is stands =
    line_late cfg H h inc line reading book says (sym told ∙ is) stands

-- a line whose helper has no room for a reply
pub has_to_wait : (cfg : Sections) (H : History) (h inc : ℕ) (line : Line) (reading : Result Command ReadFault)
    (book : Seen) → Says line reading → is_late cfg H h inc ≡ false → (length (queued cfg h inc H) == max_queued) ≡ true
    → Stands cfg H book → Allows cfg H (LineEntered h inc line reading verdict.Busy)
    × Stands cfg (LineEntered h inc line reading verdict.Busy ∷ H) book
has_to_wait cfg H h inc line reading book says timely full stands =
    line_busy cfg H h inc line reading book says
    (sym (ap (λ b. if b then verdict.Ended else (if length (queued cfg h inc H) == max_queued then verdict.Busy
    else reading_verdict cfg H h inc line reading)) timely
    ∙ ap (λ b. if b then verdict.Busy else reading_verdict cfg H h inc line reading) full)) stands

-- a line whose helper has room, and what its reading is answered
pub in_time : (cfg : Sections) (H : History) (h inc : ℕ) (line : Line) (reading : Result Command ReadFault)
    (answer : Verdict) (old new : Seen) → Says line reading → is_late cfg H h inc ≡ false
    → (length (queued cfg h inc H) == max_queued) ≡ false → Answers h reading answer old new → Stands cfg H old
    → Allows cfg H (LineEntered h inc line reading answer)
    × Stands cfg (LineEntered h inc line reading answer ∷ H) new
in_time cfg H h inc line reading answer old new says timely room answers stands =
    answers cfg H inc line says (record { in_time = timely; room = room }) stands

-- whether the queue is full, as a helper tells it
pub full_told : (cfg : Sections) (H : History) (h inc : ℕ) (book : Seen) (was : Helper) (full : Bool)
    → h < length book.helpers → was ≡ get_or book.helpers h was
    → (of_helper.Stands cfg H h was → is_running (child cfg h H) inc ≡ true
    → full ≡ (length (queued cfg h inc H) == max_queued)) → is_late cfg H h inc ≡ false → Stands cfg H book
    → (length (queued cfg h inc H) == max_queued) ≡ full
full_told cfg H h inc book was full within is told timely stands =
    sym (told (stands.helpers h was (helper_found book h was within is)) (runs_in_time cfg H h inc timely))

-- a queue that isn't full has room for one more reply
pub not_full : (full : Bool) (many : ℕ) → full ≡ false → (max_queued ≤ many → full ≡ true) → many < max_queued
not_full full many is fills = by_size (nat_lt many max_queued) refl
  where
    by_size : (less : Bool) → nat_lt many max_queued ≡ less → many < max_queued
    by_size true less = ltb-true many max_queued less
    by_size false past =
        absurd (let never : true ≡ false = sym (fills (ltb-false many max_queued past)) ∙ is in cc)
