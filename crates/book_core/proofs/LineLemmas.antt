-- Lines: what becomes of the book, by the verdict.
use Rattle.std.proofs.Common.{◌≡◌, ℕ, ◌<◌, ◌≤◌, Bool, true, false, List, ◌∷◌, length, None, Ok}
use Rattle.std.proofs.Common.{Err, refl, sym, ap, ◌∙◌, subst, inl, eq-eqb}
use Rattle.std.proofs.lemmas.Bool.{ltb-false}
use Rattle.std.specs.Prelude.{◌==◌, ◌||◌, nat_lt, if◌then◌else◌, Result, get_or, slice_set}
use Rattle.std.specs.Prelude.{unwrap_or}
use Rattle.text_forms.specs.Lines.{Line}
use Rattle.route_grammar.specs.declared.fault.ReadFault.{ReadFault}
use Rattle.command_grammar.specs.declared.command.Command.{Command}
use Rattle.command_grammar.specs.declared.command.Command.TheVariants as command
use Rattle.command_grammar.specs.Readings.{Says}
use Rattle.config_model.specs.Sections.{Sections}
use Rattle.helper_book.specs.Seen.{Seen as Helper}
use Rattle.helper_book.specs.Stands as of_helper
use Rattle.peer_history.specs.Steps.{Step}
use Rattle.book_history.specs.declared.outcomes.Verdict.{Verdict}
use Rattle.book_history.specs.declared.outcomes.Verdict.TheVariants as verdict
use Rattle.book_history.specs.declared.outcomes.Why.{Why}
use Rattle.book_history.specs.declared.outcomes.Why.TheVariants as why
use Rattle.book_history.specs.Bounds.{max_nodes, max_queued, max_shown}
use Rattle.book_history.specs.Entries.{History}
use Rattle.book_history.specs.Entries.Entry.{LineEntered}
use Rattle.book_history.specs.Legal.{Allows, IsVerdict, is_reload_due}
use Rattle.book_history.specs.Nodes.{nodes}
use Rattle.book_history.specs.PeerSteps.{commanded}
use Rattle.book_history.specs.Replies.{queued}
use Rattle.book_history.specs.Selecting.{selects}
use Rattle.book_history.specs.Shows.{shown}
use Rattle.book_history.specs.Verdicts.{command_verdict, is_late, is_stopping, line_verdict, matches_none, overflows}
use Rattle.book_history.specs.Verdicts.{reading_verdict}
use Rattle.book_core.specs.declared.peering.Peering.{Peering}
use Rattle.book_core.specs.Choosing.{is_done, is_reload, is_shutdown}
use Rattle.book_core.specs.Moves.{Moves, MovesAll}
use Rattle.book_core.specs.Quiet.{due_behind, ends_daemon, is_quiet}
use Rattle.book_core.specs.Seen.{Seen}
use Rattle.book_core.specs.Stands.{Stands}
use Rattle.book_core.proofs.HeldLemmas.{slots_unmoved}
use Rattle.book_core.proofs.HelperLemmas.{helper_changed, helper_did, quiet_did}
use Rattle.book_core.proofs.PeerLemmas.{peers_moved}
use Rattle.book_core.proofs.QuietLemmas.{due_after, stopping_behind}

-- a line that isn't done is quiet, and says nothing of the daemon
undone_quiet : (h inc : ℕ) (line : Line) (reading : Result Command ReadFault) (given : Verdict) → is_done given ≡ false
    → is_quiet (LineEntered h inc line reading given) ≡ true
undone_quiet h inc line (Ok said) verdict.Done undone =
    absurd (let never : true ≡ false = undone in cc)
undone_quiet h inc line (Ok said) verdict.Ended undone = refl
undone_quiet h inc line (Ok said) verdict.Busy undone = refl
undone_quiet h inc line (Ok said) (verdict.Error because) undone = refl
undone_quiet h inc line (Err fault) given undone = refl

undone_on : (h inc : ℕ) (line : Line) (reading : Result Command ReadFault) (given : Verdict) → is_done given ≡ false
    → ends_daemon (LineEntered h inc line reading given) ≡ false
undone_on h inc line (Ok command.Shutdown) verdict.Done undone =
    absurd (let never : true ≡ false = undone in cc)
undone_on h inc line reading given undone = refl

undone_silent : (h inc : ℕ) (line : Line) (reading : Result Command ReadFault) (given : Verdict)
    → is_done given ≡ false → due_behind (LineEntered h inc line reading given) ≡ None
undone_silent h inc line (Ok command.Reload) verdict.Done undone =
    absurd (let never : true ≡ false = undone in cc)
undone_silent h inc line reading given undone = refl

-- what a line that is done says of the daemon
done_ends : (h inc : ℕ) (line : Line) (given : Command)
    → ends_daemon (LineEntered h inc line (Ok given) verdict.Done) ≡ is_shutdown given
done_ends h inc line command.Shutdown = refl
done_ends h inc line given = refl

done_due : (h inc : ℕ) (line : Line) (given : Command) (was : Bool)
    → unwrap_or (due_behind (LineEntered h inc line (Ok given) verdict.Done)) was ≡ (is_reload given || was)
done_due h inc line command.Reload was = refl
done_due h inc line given was = refl

-- a line that comes too late
pub line_late : (cfg : Sections) (H : History) (h inc : ℕ) (line : Line) (reading : Result Command ReadFault)
    (book : Seen) → Says line reading → is_late cfg H h inc ≡ true → Stands cfg H book
    → Allows cfg H (LineEntered h inc line reading verdict.Ended)
    × Stands cfg (LineEntered h inc line reading verdict.Ended ∷ H) book
line_late cfg H h inc line reading book says late stands =
    let entry = LineEntered h inc line reading verdict.Ended in
    let is : verdict.Ended ≡ line_verdict cfg H h inc line reading =
    sym (ap (λ b. if b then verdict.Ended else (if length (queued cfg h inc H) == max_queued then verdict.Busy
    else reading_verdict cfg H h inc line reading)) late) in
    let allowed : Allows cfg H entry = (says, inl is) in (
      allowed,
      quiet_did cfg H entry book (undone_quiet h inc line reading verdict.Ended refl) (λ k. refl)
          (undone_on h inc line reading verdict.Ended refl) (undone_silent h inc line reading verdict.Ended refl)
          allowed stands,
    )

-- a line that has to wait, for either reason
pub line_busy : (cfg : Sections) (H : History) (h inc : ℕ) (line : Line) (reading : Result Command ReadFault)
    (book : Seen) → Says line reading → verdict.Busy ≡ line_verdict cfg H h inc line reading → Stands cfg H book
    → Allows cfg H (LineEntered h inc line reading verdict.Busy)
    × Stands cfg (LineEntered h inc line reading verdict.Busy ∷ H) book
line_busy cfg H h inc line reading book says is stands =
    let entry = LineEntered h inc line reading verdict.Busy in
    let allowed : Allows cfg H entry = (says, inl is) in (
      allowed,
      quiet_did cfg H entry book (undone_quiet h inc line reading verdict.Busy refl) (λ k. refl)
          (undone_on h inc line reading verdict.Busy refl) (undone_silent h inc line reading verdict.Busy refl) allowed
          stands,
    )

-- the verdict on a line in time that finds room is that on its reading
pub verdict_read : (cfg : Sections) (H : History) (h inc : ℕ) (line : Line) (reading : Result Command ReadFault)
    → is_late cfg H h inc ≡ false → (length (queued cfg h inc H) == max_queued) ≡ false
    → line_verdict cfg H h inc line reading ≡ reading_verdict cfg H h inc line reading
verdict_read cfg H h inc line reading late full =
    ap (λ b. if b then verdict.Ended else (if length (queued cfg h inc H) == max_queued then verdict.Busy
    else reading_verdict cfg H h inc line reading)) late
    ∙ ap (λ b. if b then verdict.Busy else reading_verdict cfg H h inc line reading) full

-- a line that is refused: its helper is told so, and nothing else changes
pub line_refused : (cfg : Sections) (H : History) (h inc : ℕ) (line : Line) (reading : Result Command ReadFault)
    (because : Why) (book : Seen) (was new : Helper) → h < length book.helpers → was ≡ get_or book.helpers h was
    → Says line reading → IsVerdict cfg H h inc line reading (verdict.Error because)
    → (of_helper.Stands cfg H h was
    → of_helper.Stands cfg (LineEntered h inc line reading (verdict.Error because) ∷ H) h new)
    → Stands cfg H book → Allows cfg H (LineEntered h inc line reading (verdict.Error because))
    × Stands cfg (LineEntered h inc line reading (verdict.Error because) ∷ H)
    (record book { helpers = slice_set book.helpers h new })
line_refused cfg H h inc line reading because book was new within is says verdict_is did stands =
    helper_did cfg H (LineEntered h inc line reading (verdict.Error because)) book h was new (eq-eqb h h refl)
    (undone_quiet h inc line reading (verdict.Error because) refl)
    (undone_on h inc line reading (verdict.Error because) refl)
    (undone_silent h inc line reading (verdict.Error because) refl) within is
    (λ stood. ((says, verdict_is), did stood)) stands

-- a line that is done keeps the bound on nodes
done_kept : (none full long over : Bool) (a b c : Why) → verdict.Done ≡ (if none then verdict.Error a
    else (if full then verdict.Error b else (if long then verdict.Error c
    else (if over then verdict.Busy else verdict.Done)))) → full ≡ false
done_kept true full long over a b c is =
    absurd (let never : ◌≡◌ {A = Verdict} verdict.Done (verdict.Error a) = is in cc)
done_kept false true long over a b c is =
    absurd (let never : ◌≡◌ {A = Verdict} verdict.Done (verdict.Error b) = is in cc)
done_kept false false long over a b c is = refl

pub done_within : (cfg : Sections) (H : History) (h inc with_it asked : ℕ) (given : Command)
    → verdict.Done ≡ command_verdict cfg H h inc given with_it asked → with_it ≤ max_nodes
done_within cfg H h inc with_it asked given is =
    ltb-false max_nodes with_it (done_kept (matches_none cfg H h given) (nat_lt max_nodes with_it)
    (nat_lt max_shown asked) (overflows cfg H h inc given) why.NoMatch (why.Full with_it) (why.Show asked) is)

-- the book behind a line that is done
abbrev pub after_line : Seen → ℕ → Helper → List Peering → Command → Seen
after_line book h helper peers given = record {
  helpers = slice_set book.helpers h helper;
  peers = peers;
  stopping = is_shutdown given || book.stopping;
  reload_due = is_reload given || book.reload_due;
}

-- a line that is done: its helper is told so, and each slot did what the command is to it
pub line_done : (cfg : Sections) (H : History) (h inc : ℕ) (line : Line) (given : Command) (book : Seen)
    (new : Helper) (peers : List Peering) → Says line (Ok given)
    → verdict.Done ≡ line_verdict cfg H h inc line (Ok given)
    → verdict.Done ≡ reading_verdict cfg H h inc line (Ok given)
    → of_helper.Stands cfg (LineEntered h inc line (Ok given) verdict.Done ∷ H) h new
    → MovesAll (λ n. commanded given (selects cfg H h given n)) book.peers peers → Stands cfg H book
    → Allows cfg H (LineEntered h inc line (Ok given) verdict.Done)
    × Stands cfg (LineEntered h inc line (Ok given) verdict.Done ∷ H) (after_line book h new peers given)
line_done cfg H h inc line given book new peers says is read own moved stands =
    let entry = LineEntered h inc line (Ok given) verdict.Done in
    let with_it = nodes cfg (entry ∷ H) in (
      (says, inl is),
      record {
        helpers = helper_changed cfg H entry book.helpers h new (eq-eqb h h refl) own stands.helpers;
        peers = peers_moved cfg H entry (λ n. commanded given (selects cfg H h given n)) book.peers peers (λ n. refl)
            refl moved stands.peers;
        daemon = record {
          stopping = ap (λ b. is_shutdown given || b) stands.daemon.stopping
              ∙ ap (λ b. b || is_stopping H) (sym (done_ends h inc line given)) ∙ sym (stopping_behind entry H);
          reload_due = ap (λ b. is_reload given || b) stands.daemon.reload_due
              ∙ sym (done_due h inc line given (is_reload_due H))
              ∙ sym (due_after entry H);
        };
        held = record {
          legal = ((says, inl is), stands.held.legal);
          bounded = done_within cfg H h inc with_it (length (shown cfg H h given)) given read;
          slots = slots_unmoved cfg H entry refl stands.held.slots;
        };
      },
    )

-- steps that are the same at each slot that there is
pub moves_alike : (f g : ℕ → List Step) (old new : List Peering) → ((n : ℕ) → n < length old → f n ≡ g n)
    → MovesAll f old new → MovesAll g old new
moves_alike f g old new alike moved = record {
  count = moved.count;
  below = λ n was is within there here.
      subst (λ steps. Moves steps was is) (alike n within) (moved.below n was is within there here);
  above = moved.above;
}
