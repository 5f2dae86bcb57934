-- A line that asks for routes: which they are, its verdict, and what its helper is told.
use Rattle.std.proofs.Common.{◌≡◌, ℕ, ◌+◌, ◌<◌, ◌≤◌, zero, suc, Bool, true, false, not, List, [], ◌∷◌, ◌++◌, length}
use Rattle.std.proofs.Common.{Some, Ok, refl, sym, ap, ◌∙◌, subst, arith}
use Rattle.std.proofs.lemmas.Bool.{le-ltb, lt-ltb}
use Rattle.std.proofs.lemmas.Option.{same_Some, slice_get_read}
use Rattle.std.specs.List.{flat_map}
use Rattle.std.specs.Prelude.{nat_lt, if◌then◌else◌, Option, get_or, slice_get, slice_set}
use Rattle.ack_queue.specs.declared.reply.Shown.{Shown}
use Rattle.text_forms.specs.Lines.{Line}
use Rattle.route_values.specs.declared.pick.Pick.{Pick}
use Rattle.route_values.specs.Prefix.{Block}
use Rattle.command_grammar.specs.declared.command.Command.{Command}
use Rattle.command_grammar.specs.declared.command.Command.TheVariants as command
use Rattle.config_model.specs.Limits.{max_peers}
use Rattle.config_model.specs.Sections.{Sections}
use Rattle.helper_book.specs.Seen.{Seen as Helper}
use Rattle.helper_book.specs.Stands as of_helper
use Rattle.peer_book.specs.Stands as of_peer
use Rattle.peer_history.specs.Laws as law
use Rattle.peer_history.specs.Steps.{Step}
use Rattle.peer_history.specs.Table.{settings_in}
use Rattle.book_history.specs.declared.outcomes.Verdict.{Verdict}
use Rattle.book_history.specs.declared.outcomes.Verdict.TheVariants as verdict
use Rattle.book_history.specs.declared.outcomes.Why.{Why}
use Rattle.book_history.specs.declared.outcomes.Why.TheVariants as why
use Rattle.book_history.specs.Bounds.{max_nodes, max_queued, max_shown, numbers_from}
use Rattle.book_history.specs.Entries.{History}
use Rattle.book_history.specs.Entries.Entry.{LineEntered}
use Rattle.book_history.specs.Helpers.{child, is_running}
use Rattle.book_history.specs.Legal.{IsVerdict}
use Rattle.book_history.specs.Nodes.{nodes}
use Rattle.book_history.specs.PeerSteps.{commanded, steps_of}
use Rattle.book_history.specs.Replies.{queued}
use Rattle.book_history.specs.Selecting.{selects}
use Rattle.book_history.specs.Shows.{shown, shown_of}
use Rattle.book_history.specs.Verdicts.{matches_none, overflows, reading_verdict}
use Rattle.book_core.specs.declared.peering.Peering.{Peering}
use Rattle.book_core.specs.Carrying.{is_among}
use Rattle.book_core.specs.Choosing.{is_show}
use Rattle.book_core.specs.Lines.{Does, IsInTime, Refuses, Selects}
use Rattle.book_core.specs.Moves.{MovesAll}
use Rattle.book_core.specs.Seen.{Seen}
use Rattle.book_core.specs.Showing.{shown_below, shown_if, AllStand, AreCounted, AreListed, Tells}
use Rattle.book_core.specs.Stands.{Stands}
use Rattle.book_core.proofs.CountLemmas.{line_not_full}
use Rattle.book_core.proofs.LineLemmas.{line_busy, line_done, verdict_read}
use Rattle.book_core.proofs.TimeLemmas.{is_on_reading, runs_in_time, wants_memory}

-- ---- the routes of the history

abbrev steps_in : Sections → History → ℕ → List Step
steps_in cfg H n = steps_of cfg n H

peers_stand : (cfg : Sections) (H : History) (book : Seen) → Stands cfg H book → AllStand (steps_in cfg H) book.peers
peers_stand cfg H book stands = λ n peering at. (stands.peers n peering at).slot

alike_from : (f g : ℕ → List Shown) (first many : ℕ) → ((n : ℕ) → first ≤ n → n < first + many → f n ≡ g n)
    → flat_map f (numbers_from first many) ≡ flat_map g (numbers_from first many)
alike_from f g first zero alike = refl
alike_from f g first (suc many) alike =
    ap (λ (here : List Shown). here ++ flat_map f (numbers_from (suc first) many))
    (alike first (omega arith) (omega arith))
    ∙ ap (λ (rest : List Shown). g first ++ rest) (alike_from f g (suc first) many (λ n low high.
    alike n (omega (arith, low)) (omega (arith, high))))

-- what a command that shows asks for
pub shown_same : (cfg : Sections) (H : History) (h : ℕ) (pick : List Pick) (within : Option Block)
    (chosen : List Bool) (many : ℕ) → many ≡ max_peers → Selects cfg H h (command.Show pick within) chosen
    → shown_below many chosen within (steps_in cfg H) ≡ shown cfg H h (command.Show pick within)
shown_same cfg H h pick within chosen many all selected =
    let given : Command = command.Show pick within in
    let of_slot : ℕ → List Shown = λ n.
    if selects cfg H h given n then shown_of within (steps_of cfg n H) (settings_in (steps_of cfg n H)) else [] in
    alike_from (λ n. shown_if (is_among chosen n) within (steps_of cfg n H)) of_slot 0 many (λ n low high.
    ap (λ (b : Bool). shown_if b within (steps_of cfg n H))
    (selected n (subst (λ (k : ℕ). n < k) all (omega (arith, high)))))
    ∙ ap (λ (k : ℕ). flat_map of_slot (numbers_from 0 k)) all

-- ---- the verdict

-- without a cause before it, whether the replies fit decides
room_by : (none full long over : Bool) (a b c : Why) → none ≡ false → full ≡ false → long ≡ false
    → (if none then verdict.Error a else (if full then verdict.Error b else (if long then verdict.Error c
    else (if over then verdict.Busy else verdict.Done)))) ≡ (if over then verdict.Busy else verdict.Done)
room_by none full long over a b c n f l =
    ap (λ (t : Bool). if t then verdict.Error a else (if full then verdict.Error b else (if long then verdict.Error c
    else (if over then verdict.Busy else verdict.Done)))) n
    ∙ ap (λ (t : Bool). if t then verdict.Error b else (if long then verdict.Error c
    else (if over then verdict.Busy else verdict.Done))) f
    ∙ ap (λ (t : Bool). if t then verdict.Error c else (if over then verdict.Busy else verdict.Done)) l

long_by : (none full long over : Bool) (a b c : Why) → none ≡ false → full ≡ false → long ≡ true
    → (if none then verdict.Error a else (if full then verdict.Error b else (if long then verdict.Error c
    else (if over then verdict.Busy else verdict.Done)))) ≡ verdict.Error c
long_by none full long over a b c n f l =
    ap (λ (t : Bool). if t then verdict.Error a else (if full then verdict.Error b else (if long then verdict.Error c
    else (if over then verdict.Busy else verdict.Done)))) n
    ∙ ap (λ (t : Bool). if t then verdict.Error b else (if long then verdict.Error c
    else (if over then verdict.Busy else verdict.Done))) f
    ∙ ap (λ (t : Bool). if t then verdict.Error c else (if over then verdict.Busy else verdict.Done)) l

-- the nodes that there would be behind a show, and the routes that it asks for
abbrev pub with_it : Sections → History → ℕ → ℕ → Line → List Pick → Option Block → ℕ
with_it cfg H h inc line pick within =
    nodes cfg (LineEntered h inc line (Ok (command.Show pick within)) verdict.Done ∷ H)

abbrev pub asked : Sections → History → ℕ → List Pick → Option Block → ℕ
asked cfg H h pick within = length (shown cfg H h (command.Show pick within))

module _ (stay : law.SessionsAddNoNode) (cfg : Sections) (H : History) (h inc : ℕ) (line : Line) (pick : List Pick)
    (within : Option Block) (book : Seen) (some : matches_none cfg H h (command.Show pick within) ≡ false)
    (stands : Stands cfg H book) where
  not_full : nat_lt max_nodes (with_it cfg H h inc line pick within) ≡ false
  not_full =
      line_not_full stay cfg H h inc line (command.Show pick within) stands.held.legal stands.held.bounded refl

  pub room_decides : asked cfg H h pick within ≤ max_shown
      → reading_verdict cfg H h inc line (Ok (command.Show pick within))
      ≡ (if overflows cfg H h inc (command.Show pick within) then verdict.Busy else verdict.Done)
  room_decides few =
      room_by (matches_none cfg H h (command.Show pick within))
      (nat_lt max_nodes (with_it cfg H h inc line pick within)) (nat_lt max_shown (asked cfg H h pick within))
      (overflows cfg H h inc (command.Show pick within)) why.NoMatch
      (why.Full (with_it cfg H h inc line pick within)) (why.Show (asked cfg H h pick within)) some not_full
      (le-ltb max_shown (asked cfg H h pick within) few)

  pub too_many : (count : ℕ) → count ≡ asked cfg H h pick within → max_shown < count
      → verdict.Error (why.Show count) ≡ reading_verdict cfg H h inc line (Ok (command.Show pick within))
  too_many count counted many =
      ap (λ (n : ℕ). verdict.Error (why.Show n)) counted
      ∙ sym (long_by (matches_none cfg H h (command.Show pick within))
      (nat_lt max_nodes (with_it cfg H h inc line pick within)) (nat_lt max_shown (asked cfg H h pick within))
      (overflows cfg H h inc (command.Show pick within)) why.NoMatch (why.Full (with_it cfg H h inc line pick within))
      (why.Show (asked cfg H h pick within)) some not_full
      (lt-ltb max_shown (asked cfg H h pick within) (subst (λ (n : ℕ). max_shown < n) counted many)))

-- ---- answers

-- a line that is refused for a cause that is its verdict
pub refused_does : (h : ℕ) (given : Command) (chosen : List Bool) (because : Why) (answer : Verdict) (old new : Seen)
    → answer ≡ verdict.Error because → Refuses h because old new
    → ((cfg : Sections) (H : History) (inc : ℕ) (line : Line) → IsInTime cfg H h inc → Selects cfg H h given chosen
    → matches_none cfg H h given ≡ false → Stands cfg H old
    → IsVerdict cfg H h inc line (Ok given) (verdict.Error because))
    → Does h given chosen answer old new
refused_does h given chosen because answer old new is refuses because_so =
    subst (λ (a : Verdict). Does h given chosen a old new) (sym is) (λ cfg H inc line says timely selected some stands.
    refuses cfg H inc line (Ok given) says timely (because_so cfg H inc line timely selected some stands) stands)

pub lacks_memory : (h : ℕ) (given : Command) (chosen : List Bool) (answer : Verdict) (old new : Seen)
    → answer ≡ verdict.Error why.NoMemory → Refuses h why.NoMemory old new → Does h given chosen answer old new
lacks_memory h given chosen answer old new is refuses =
    refused_does h given chosen why.NoMemory answer old new is refuses (λ cfg H inc line timely selected some stands.
    wants_memory cfg H h inc line (Ok given) timely)

-- the routes that are counted are too many
pub shows_too_many : law.SessionsAddNoNode → (h : ℕ) (given : Command) (pick : List Pick) (within : Option Block)
    (chosen : List Bool) (count : ℕ) (answer : Verdict) (old new : Seen) → given ≡ command.Show pick within
    → length old.peers ≡ max_peers
    → AreCounted old.peers chosen within count → max_shown < count
    → answer ≡ verdict.Error (why.Show count) → Refuses h (why.Show count) old new
    → Does h given chosen answer old new
shows_too_many stay h given pick within chosen count answer old new is all counted many told refuses =
    subst (λ (g : Command). Does h g chosen answer old new) (sym is)
    (refused_does h (command.Show pick within) chosen (why.Show count) answer old new told refuses
    (λ cfg H inc line timely selected some stands.
    is_on_reading cfg H h inc line (Ok (command.Show pick within)) (verdict.Error (why.Show count)) timely
    (too_many stay cfg H h inc line pick within old some stands count
    (counted (steps_in cfg H) (peers_stand cfg H old stands)
    ∙ ap length (shown_same cfg H h pick within chosen (length old.peers) all selected)) many)))

-- the routes that are listed are told
pub shows_told : law.SessionsAddNoNode → (h : ℕ) (given : Command) (pick : List Pick) (within : Option Block)
    (chosen : List Bool) (count : ℕ) (routes : List Shown) (answer : Verdict) (old new : Seen)
    → given ≡ command.Show pick within → length old.peers ≡ max_peers
    → AreCounted old.peers chosen within count → count ≤ max_shown → AreListed old.peers chosen within routes
    → Tells h given routes answer old new → Does h given chosen answer old new
shows_told stay h given pick within chosen count routes answer old new is all counted few listed tells =
    subst (λ (g : Command). Tells h g routes answer old new → Does h g chosen answer old new) (sym is)
    (λ told cfg H inc line says timely selected some stands.
    let standing = peers_stand cfg H old stands in
    let same = shown_same cfg H h pick within chosen (length old.peers) all selected in
    let many : count ≡ length (shown cfg H h (command.Show pick within)) =
    counted (steps_in cfg H) standing ∙ ap length same in
    told cfg H inc line says timely (listed (steps_in cfg H) standing ∙ same)
    (room_decides stay cfg H h inc line pick within old some stands (subst (λ (n : ℕ). n ≤ max_shown) many few))
    stands) tells

-- ---- the helper's part

-- what stands at one place is one helper
pub same_helper : (helpers : List Helper) (h : ℕ) (one other : Helper) → h < length helpers
    → one ≡ get_or helpers h one → other ≡ get_or helpers h other → one ≡ other
same_helper helpers h one other within first second =
    same_Some one other (sym (slice_get_read helpers (length helpers) h one refl within first)
    ∙ slice_get_read helpers (length helpers) h other refl within second)

-- fewer replies wait than the queue holds
queue_short : (cfg : Sections) (H : History) (h inc : ℕ) (was : Helper) → of_helper.Stands cfg H h was
    → is_running (child cfg h H) inc ≡ true → length was.slot.replies < max_queued
    → length (queued cfg h inc H) < max_queued
queue_short cfg H h inc was stood runs short =
    let own = stood.replies.running inc runs in
    subst (λ (i : ℕ). length (queued cfg h i H) < max_queued) (sym own.last)
    (subst (λ (replies : List Rattle.ack_queue.specs.declared.reply.Reply.Reply). length replies < max_queued)
    stood.replies.waiting short)

fits_by : (room over : Bool) → room ≡ not over → room ≡ true → over ≡ false
fits_by room true is so = absurd (let never : false ≡ true = sym is ∙ so in cc)
fits_by room false is so = refl

passes_by : (room over : Bool) → room ≡ not over → room ≡ false → over ≡ true
passes_by room true is so = refl
passes_by room false is so = absurd (let never : true ≡ false = sym is ∙ so in cc)

-- whether a helper has room is known of each history
abbrev pub Knows : Helper → Command → List Shown → Bool → Type 0
Knows was given routes room =
    (cfg : Sections) (H : History) (k inc : ℕ) → of_helper.Stands cfg H k was → is_running (child cfg k H) inc ≡ true
    → length (queued cfg k inc H) < max_queued → routes ≡ shown cfg H k given → room ≡ not (overflows cfg H k inc given)

-- and so is what it stands for once it is told
abbrev pub Accepts : Helper → Helper → Command → List Shown → Type 0
Accepts was new given routes =
    (cfg : Sections) (H : History) (k inc : ℕ) (line : Line) → of_helper.Stands cfg H k was
    → is_running (child cfg k H) inc ≡ true → routes ≡ shown cfg H k given
    → of_helper.Stands cfg (LineEntered k inc line (Ok given) verdict.Done ∷ H) k new

pub told_busy : (h : ℕ) (given : Command) (routes : List Shown) (room : Bool) (book : Seen) (was : Helper)
    → slice_get book.helpers h ≡ Some was → length was.slot.replies < max_queued → Knows was given routes room
    → room ≡ false → Tells h given routes verdict.Busy book book
told_busy h given routes room book was found short knows full = λ cfg H inc line says timely is decides stands.
    let stood = stands.helpers h was found in
    let runs = runs_in_time cfg H h inc timely.in_time in
    let over : overflows cfg H h inc given ≡ true =
    passes_by room (overflows cfg H h inc given)
    (knows cfg H h inc stood runs (queue_short cfg H h inc was stood runs short) is) full in
    line_busy cfg H h inc line (Ok given) book says
    (sym (verdict_read cfg H h inc line (Ok given) timely.in_time timely.room ∙ decides
    ∙ ap (λ (b : Bool). if b then verdict.Busy else verdict.Done) over)) stands

-- no slot does anything
unmoved : (peers : List Peering) (steps : ℕ → List Step) → ((n : ℕ) → steps n ≡ []) → MovesAll steps peers peers
unmoved peers steps none = record {
  count = refl;
  below = λ n was is within there here.
      let same : was ≡ is = same_Some was is (sym there ∙ here) in
      record {
        slot = λ before stood.
            subst (λ (these : List Step). of_peer.Stands (these ++ before) is.slot) (sym (none n))
            (subst (λ (p : Peering). of_peer.Stands before p.slot) same stood);
        names = ap (λ (p : Peering). p.names) (sym same);
      };
  above = λ n past. refl;
}

-- what a command that shows says
pub show_says : (given : Command) → is_show given ≡ true
    → (pick : List Pick) × (within : Option Block) × (given ≡ command.Show pick within)
show_says (command.Show pick within) is = (pick, within, refl)
show_says given is = absurd (let never : false ≡ true = is in cc)

told_show : (h : ℕ) (pick : List Pick) (within : Option Block) (routes : List Shown) (room : Bool) (book : Seen)
    (was new : Helper) → slice_get book.helpers h ≡ Some was → length was.slot.replies < max_queued
    → Knows was (command.Show pick within) routes room → room ≡ true
    → Accepts was new (command.Show pick within) routes
    → Tells h (command.Show pick within) routes verdict.Done book (record book {
      helpers = slice_set book.helpers h new;
    })
told_show h pick within routes room book was new found short knows fit accepts =
    λ cfg H inc line says timely is decides stands.
    let given : Command = command.Show pick within in
    let stood = stands.helpers h was found in
    let runs = runs_in_time cfg H h inc timely.in_time in
    let over : overflows cfg H h inc given ≡ false =
    fits_by room (overflows cfg H h inc given)
    (knows cfg H h inc stood runs (queue_short cfg H h inc was stood runs short) is) fit in
    let read : verdict.Done ≡ reading_verdict cfg H h inc line (Ok given) =
    sym (decides ∙ ap (λ (b : Bool). if b then verdict.Busy else verdict.Done) over) in
    line_done cfg H h inc line given book new book.peers says
    (read ∙ sym (verdict_read cfg H h inc line (Ok given) timely.in_time timely.room)) read
    (accepts cfg H h inc line stood runs is)
    (unmoved book.peers (λ n. commanded given (selects cfg H h given n)) (λ n. refl)) stands

pub told_done : (h : ℕ) (given : Command) (routes : List Shown) (room : Bool) (book : Seen) (was new : Helper)
    → is_show given ≡ true → slice_get book.helpers h ≡ Some was → length was.slot.replies < max_queued
    → Knows was given routes room → room ≡ true → Accepts was new given routes
    → Tells h given routes verdict.Done book (record book { helpers = slice_set book.helpers h new })
told_done h given routes room book was new shows found short knows fit accepts =
    let said = show_says given shows in
    subst (λ (g : Command). Knows was g routes room → Accepts was new g routes
    → Tells h g routes verdict.Done book (record book { helpers = slice_set book.helpers h new })) (sym said.2)
    (λ known accepted. told_show h said.0 said.1 routes room book was new found short known fit accepted) knows accepts
