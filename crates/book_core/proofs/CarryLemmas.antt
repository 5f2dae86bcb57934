-- Commands that announce nothing and show nothing, once they are done for the slots that they are for.
use Rattle.std.proofs.Common.{◌≡◌, ℕ, ◌<◌, ◌≤◌, ◌+◌, Bool, true, false, not, List, [], ◌∷◌, ◌++◌, length}
use Rattle.std.proofs.Common.{Some, None, Ok, zero, suc, refl, sym, ap, ◌∙◌, subst, arith}
use Rattle.std.proofs.lemmas.Option.{get_or_from_slice_get, slice_get_read}
use Rattle.std.specs.List.{list_any}
use Rattle.std.specs.Prelude.{◌&&◌, ◌||◌, nat_lt, if◌then◌else◌, is_some, Option, get_or, slice_get, slice_set}
use Rattle.text_forms.specs.Lines.{Line}
use Rattle.ack_queue.specs.declared.reply.Reply.{Reply}
use Rattle.command_grammar.specs.declared.command.Command.{Command}
use Rattle.command_grammar.specs.declared.command.Command.TheVariants as command
use Rattle.config_model.specs.declared.sections.Process.{Process}
use Rattle.config_model.specs.Limits.{max_peers}
use Rattle.config_model.specs.Sections.{Sections}
use Rattle.helper_book.specs.Seen.{Seen as Helper}
use Rattle.helper_book.specs.Stands as of_helper
use Rattle.helper_book.specs.Told.{told}
use Rattle.peer_book.specs.Slot.{Slot}
use Rattle.peer_book.specs.Stands as of_peer
use Rattle.peer_history.specs.Laws as law
use Rattle.peer_history.specs.Steps.{Step}
use Rattle.book_history.specs.declared.outcomes.Verdict.{Verdict}
use Rattle.book_history.specs.declared.outcomes.Verdict.TheVariants as verdict
use Rattle.book_history.specs.declared.outcomes.Why.{Why}
use Rattle.book_history.specs.declared.outcomes.Why.TheVariants as why
use Rattle.book_history.specs.Bounds.{max_nodes, max_queued, max_shown, numbers_from}
use Rattle.book_history.specs.Entries.{History}
use Rattle.book_history.specs.Entries.Entry.{LineEntered}
use Rattle.book_history.specs.Helpers.{child, is_running}
use Rattle.book_history.specs.Nodes.{nodes}
use Rattle.book_history.specs.PeerSteps.{commanded}
use Rattle.book_history.specs.Replies.{reply_if}
use Rattle.book_history.specs.Selecting.{pick_of, selects}
use Rattle.book_history.specs.Shows.{shown}
use Rattle.book_history.specs.Slots.{process_at}
use Rattle.book_history.specs.Verdicts.{matches_none, overflows, reading_verdict}
use Rattle.book_core.specs.declared.peering.Peering.{Peering}
use Rattle.book_core.specs.Carrying.{carried, is_among}
use Rattle.book_core.specs.Choosing.{AreChosen, is_announce, is_chosen, is_reload, is_show, is_shutdown}
use Rattle.book_core.specs.Lines.{Answers, Does, Refuses, Selects}
use Rattle.book_core.specs.Moves.{Moves, MovesAll}
use Rattle.book_core.specs.Seen.{Seen}
use Rattle.book_core.specs.Stands.{PeersStand, Stands}
use Rattle.book_core.proofs.ChoosingLemmas.{chosen_are_selected}
use Rattle.book_core.proofs.CountLemmas.{line_not_full}
use Rattle.book_core.proofs.LineLemmas.{line_done, moves_alike, verdict_read}
use Rattle.book_core.proofs.SessionLemmas.{with_slot}
use Rattle.book_core.proofs.TimeLemmas.{is_on_reading, runs_in_time}

-- steps that a slot did
pub moves_by : (was : Peering) (slot : Slot) (these given : List Step) → these ≡ given
    → ((before : List Step) → of_peer.Stands before was.slot → of_peer.Stands (given ++ before) slot)
    → Moves these was (with_slot was slot)
moves_by was slot these given same did = record {
  slot = λ before stood.
      subst (λ (steps : List Step). of_peer.Stands (steps ++ before) slot) (sym same) (did before stood);
  names = refl;
}

-- a place of a list of tests
pub among_at : (chosen : List Bool) (n : ℕ) (so : Bool) → n < length chosen → so ≡ get_or chosen n so
    → is_among chosen n ≡ so
among_at chosen n so within is =
    get_or_from_slice_get chosen n so false (slice_get_read chosen (length chosen) n so refl within is)

there : {A : Type 0} (xs : List A) (n : ℕ) → n < length xs → (x : A) × (slice_get xs n ≡ Some x)
there [] n within = absurd (omega (arith, within))
there (x ∷ xs) zero within = (x, refl)
there (x ∷ xs) (suc n) within = there xs n (omega (arith, within))

-- the chosen slots are those that the history selects
pub selected_all : (cfg : Sections) (H : History) (h : ℕ) (given : Command) (process : Option Process)
    (peers : List Peering) (chosen : List Bool) → process ≡ process_at cfg H h → length peers ≡ max_peers
    → PeersStand cfg H peers → AreChosen process given peers chosen → Selects cfg H h given chosen
selected_all cfg H h given process peers chosen told_is all stand are = λ n within.
    let at = there peers n (subst (λ k. n < k) (sym all) within) in
    let one : slice_get chosen n ≡ Some (is_chosen process given at.0) =
    are n ∙ ap (λ o. elim o [
      | None ↦ None
      | Some p ↦ Some (is_chosen process given p)
    ]) at.1 in
    get_or_from_slice_get chosen n (is_chosen process given at.0) false one
    ∙ subst (λ (p : Option Process). is_chosen p given at.0 ≡ selects cfg H h given n) (sym told_is)
    (chosen_are_selected cfg H h n given at.0 (stand n at.0 at.1))

-- whether any slot is chosen, and whether any is selected
any_alike : (chosen : List Bool) (k : ℕ) (test : ℕ → Bool)
    → ((n : ℕ) → n < length chosen → get_or chosen n false ≡ test (k + n))
    → list_any (λ so. so) chosen ≡ list_any test (numbers_from k (length chosen))
any_alike [] k test alike = refl
any_alike (so ∷ chosen) k test alike =
    let here : so ≡ test k =
    alike 0 (omega arith) ∙ ap test (let same : k + 0 ≡ k = omega arith in same) in
    let later : (n : ℕ) → n < length chosen → get_or chosen n false ≡ test (suc k + n) = λ n within.
    alike (suc n) (omega (arith, within)) ∙ ap test (let same : k + suc n ≡ suc k + n = omega arith in same) in
    ap (λ b. b || list_any (λ so. so) chosen) here ∙ ap (λ b. test k || b) (any_alike chosen (suc k) test later)

pub none_matched : (cfg : Sections) (H : History) (h : ℕ) (given : Command) (chosen : List Bool)
    → length chosen ≡ max_peers → Selects cfg H h given chosen
    → (is_some (pick_of given) && not (list_any (λ so. so) chosen)) ≡ matches_none cfg H h given
none_matched cfg H h given chosen many selected =
    let any : list_any (λ so. so) chosen ≡ list_any (selects cfg H h given) (numbers_from 0 (length chosen)) =
    any_alike chosen 0 (selects cfg H h given) (λ n within.
    selected n (subst (λ k. n < k) many within)
    ∙ ap (selects cfg H h given) (let same : n ≡ 0 + n = omega arith in same)) in
    ap (λ b. is_some (pick_of given) && not b)
    (any ∙ ap (λ k. list_any (selects cfg H h given) (numbers_from 0 k)) many)

-- ---- the verdict

shows_none : (cfg : Sections) (H : History) (h : ℕ) (given : Command) → is_show given ≡ false
    → shown cfg H h given ≡ []
shows_none cfg H h (command.Show pick within) silent = absurd (let never : true ≡ false = silent in cc)
shows_none cfg H h given silent = refl

fits : (cfg : Sections) (H : History) (h inc : ℕ) (given : Command) → is_show given ≡ false
    → overflows cfg H h inc given ≡ false
fits cfg H h inc (command.Show pick within) silent = absurd (let never : true ≡ false = silent in cc)
fits cfg H h inc given silent = refl

pub done_by : (none full long over : Bool) (a b c : Why) → none ≡ false → full ≡ false → long ≡ false → over ≡ false
    → verdict.Done ≡ (if none then verdict.Error a else (if full then verdict.Error b else (if long then verdict.Error c
    else (if over then verdict.Busy else verdict.Done))))
done_by false false false false a b c n f l o = refl
done_by true full long over a b c n f l o = absurd (let never : true ≡ false = n in cc)
done_by false true long over a b c n f l o = absurd (let never : true ≡ false = f in cc)
done_by false false true over a b c n f l o = absurd (let never : true ≡ false = l in cc)
done_by false false false true a b c n f l o = absurd (let never : true ≡ false = o in cc)

plain_done : law.SessionsAddNoNode → (cfg : Sections) (H : History) (h inc : ℕ) (line : Line) (given : Command)
    (book : Seen) → is_announce given ≡ false → is_show given ≡ false → matches_none cfg H h given ≡ false
    → Stands cfg H book → verdict.Done ≡ reading_verdict cfg H h inc line (Ok given)
plain_done stay cfg H h inc line given book plain silent some stands =
    let with_it = nodes cfg (LineEntered h inc line (Ok given) verdict.Done ∷ H) in
    let asked = length (shown cfg H h given) in
    done_by (matches_none cfg H h given) (nat_lt max_nodes with_it) (nat_lt max_shown asked)
    (overflows cfg H h inc given) why.NoMatch (why.Full with_it) (why.Show asked) some
    (line_not_full stay cfg H h inc line given stands.held.legal stands.held.bounded plain)
    (ap (λ (routes : List Rattle.ack_queue.specs.declared.reply.Shown.Shown). nat_lt max_shown (length routes))
    (shows_none cfg H h given silent)) (fits cfg H h inc given silent)

-- a command that is done adds at most one reply, where it shows nothing
one_reply : (on : Bool) (given : Reply) → length (reply_if on given) ≤ 1
one_reply true given = omega arith
one_reply false given = omega arith

pub finds_room : (replies : ℕ) (acks : Bool) (given : Command) → replies < max_queued
    → replies + length (told acks given []) ≤ max_queued
finds_room replies acks given few =
    let one : length (told acks given []) ≤ 1 = one_reply _ _ in omega (arith, few, one)

-- a command is done: each slot did what it is to it, and the helper is told so
pub did_done : (h : ℕ) (given : Command) (chosen : List Bool) (book : Seen) (new was : Helper) (peers : List Peering)
    (stopping due : Bool) → slice_get book.helpers h ≡ Some was → is_show given ≡ false
    → length book.peers ≡ max_peers → MovesAll (carried chosen given) book.peers peers
    → stopping ≡ (is_shutdown given || book.stopping) → due ≡ (is_reload given || book.reload_due)
    → ((cfg : Sections) (H : History) (k inc : ℕ) (line : Line) → of_helper.Stands cfg H k was
    → is_running (child cfg k H) inc ≡ true → [] ≡ shown cfg H k given
    → of_helper.Stands cfg (LineEntered k inc line (Ok given) verdict.Done ∷ H) k new)
    → ((cfg : Sections) (H : History) (inc : ℕ) (line : Line) → Selects cfg H h given chosen
    → matches_none cfg H h given ≡ false → Stands cfg H book
    → verdict.Done ≡ reading_verdict cfg H h inc line (Ok given))
    → Does h given chosen verdict.Done book (record {
      helpers = slice_set book.helpers h new;
      peers = peers;
      stopping = stopping;
      reload_due = due;
    })
did_done h given chosen book new was peers stopping due found silent all moved ends asks accepts reads =
    λ cfg H inc line says timely selected some stands.
    let read = reads cfg H inc line selected some stands in
    let own = accepts cfg H h inc line (stands.helpers h was found) (runs_in_time cfg H h inc timely.in_time)
    (sym (shows_none cfg H h given silent)) in
    let did = line_done cfg H h inc line given book new peers says
    (read ∙ sym (verdict_read cfg H h inc line (Ok given) timely.in_time timely.room)) read own
    (moves_alike (carried chosen given) (λ n. commanded given (selects cfg H h given n)) book.peers peers
    (λ n within. ap (commanded given) (selected n (subst (λ k. n < k) all within))) moved) stands in (
      did.0,
      subst (λ (b : Bool). Stands cfg (LineEntered h inc line (Ok given) verdict.Done ∷ H) (record {
        helpers = slice_set book.helpers h new;
        peers = peers;
        stopping = b;
        reload_due = due;
      })) (sym ends)
          (subst (λ (b : Bool). Stands cfg (LineEntered h inc line (Ok given) verdict.Done ∷ H) (record {
            helpers = slice_set book.helpers h new;
            peers = peers;
            stopping = is_shutdown given || book.stopping;
            reload_due = b;
          })) (sym asks) did.1),
    )

-- so it is with a command that announces nothing and shows nothing
pub did_plain : law.SessionsAddNoNode → (h : ℕ) (given : Command) (chosen : List Bool) (book : Seen)
    (new was : Helper) (peers : List Peering) (stopping due : Bool) → slice_get book.helpers h ≡ Some was
    → is_announce given ≡ false → is_show given ≡ false → length book.peers ≡ max_peers
    → MovesAll (carried chosen given) book.peers peers → stopping ≡ (is_shutdown given || book.stopping)
    → due ≡ (is_reload given || book.reload_due)
    → ((cfg : Sections) (H : History) (k inc : ℕ) (line : Line) → of_helper.Stands cfg H k was
    → is_running (child cfg k H) inc ≡ true → [] ≡ shown cfg H k given
    → of_helper.Stands cfg (LineEntered k inc line (Ok given) verdict.Done ∷ H) k new)
    → Does h given chosen verdict.Done book (record {
      helpers = slice_set book.helpers h new;
      peers = peers;
      stopping = stopping;
      reload_due = due;
    })
did_plain stay h given chosen book new was peers stopping due found plain silent all moved ends asks accepts =
    did_done h given chosen book new was peers stopping due found silent all moved ends asks accepts
    (λ cfg H inc line selected some stands. plain_done stay cfg H h inc line given book plain silent some stands)

-- ---- answers to a command

pub done_answers : (h : ℕ) (given : Command) (chosen : List Bool) (none : Bool) (answer : Verdict) (old new : Seen)
    → ((cfg : Sections) (H : History) → Stands cfg H old → Selects cfg H h given chosen)
    → length chosen ≡ max_peers → none ≡ (is_some (pick_of given) && not (list_any (λ so. so) chosen))
    → none ≡ false → Does h given chosen answer old new → Answers h (Ok given) answer old new
done_answers h given chosen none answer old new selected many told_none some does = λ cfg H inc line says timely stands.
    let picked = selected cfg H stands in
    does cfg H inc line says timely picked
    (sym (none_matched cfg H h given chosen many picked) ∙ sym told_none ∙ some) stands

no_match : (cfg : Sections) (H : History) (h inc : ℕ) (line : Line) (given : Command)
    → matches_none cfg H h given ≡ true → verdict.Error why.NoMatch ≡ reading_verdict cfg H h inc line (Ok given)
no_match cfg H h inc line given none =
    let with_it = nodes cfg (LineEntered h inc line (Ok given) verdict.Done ∷ H) in
    let asked = length (shown cfg H h given) in
    sym (ap (λ b. if b then verdict.Error why.NoMatch
    else (if nat_lt max_nodes with_it then verdict.Error (why.Full with_it)
    else (if nat_lt max_shown asked then verdict.Error (why.Show asked)
    else (if overflows cfg H h inc given then verdict.Busy else verdict.Done)))) none)

pub none_answers : (h : ℕ) (given : Command) (chosen : List Bool) (none : Bool) (old new : Seen)
    → ((cfg : Sections) (H : History) → Stands cfg H old → Selects cfg H h given chosen)
    → length chosen ≡ max_peers → none ≡ (is_some (pick_of given) && not (list_any (λ so. so) chosen))
    → none ≡ true → Refuses h why.NoMatch old new → Answers h (Ok given) (verdict.Error why.NoMatch) old new
none_answers h given chosen none old new selected many told_none is refuses = λ cfg H inc line says timely stands.
    let picked = selected cfg H stands in
    refuses cfg H inc line (Ok given) says timely
    (is_on_reading cfg H h inc line (Ok given) (verdict.Error why.NoMatch) timely
    (no_match cfg H h inc line given (sym (none_matched cfg H h given chosen many picked) ∙ sym told_none ∙ is))) stands
