-- What is answered to an announcement, and which slots it can be for.
use Rattle.std.proofs.Common.{◌≡◌, ℕ, ◌<◌, ◌≤◌, Bool, true, false, List, [], ◌∷◌, ◌++◌, length, Some, None, Ok, Err}
use Rattle.std.proofs.Common.{refl, sym, ap, ◌∙◌, subst}
use Rattle.std.proofs.lemmas.Bool.{and_parts, le-ltb, lt-ltb}
use Rattle.std.proofs.lemmas.Option.{get_or_from_slice_get}
use Rattle.std.specs.List.{list_any}
use Rattle.std.specs.Option.{option_map}
use Rattle.std.specs.Prelude.{◌&&◌, nat_lt, if◌then◌else◌, Option, slice_get, slice_set}
use Rattle.std.specs.Prelude.{is_err, OnErr, OnOk, Result}
use Rattle.arrayvec.specs.ArrayVec.{ArrayVec}
use Rattle.text_forms.specs.Lines.{Line}
use Rattle.route_values.specs.declared.attrs.Attrs.{Attrs}
use Rattle.route_values.specs.declared.key.Key.{Key}
use Rattle.route_values.specs.declared.pick.Pick.{Pick}
use Rattle.route_values.specs.declared.settings.Settings.{Settings}
use Rattle.command_grammar.specs.declared.command.Command.{Command}
use Rattle.command_grammar.specs.declared.command.Command.TheVariants as command
use Rattle.config_model.specs.declared.sections.Process.{Process}
use Rattle.config_model.specs.Limits.{max_peers}
use Rattle.config_model.specs.Sections.{Sections, same_name}
use Rattle.helper_book.specs.Seen.{Seen as Helper}
use Rattle.helper_book.specs.Stands as of_helper
use Rattle.peer_history.specs.Ordered.{node_keys}
use Rattle.peer_history.specs.Steps.{Step}
use Rattle.peer_history.specs.Steps.Step.{Announced}
use Rattle.book_history.specs.declared.outcomes.Verdict.TheVariants as verdict
use Rattle.book_history.specs.declared.outcomes.Why.{Why}
use Rattle.book_history.specs.declared.outcomes.Why.TheVariants as why
use Rattle.book_history.specs.Bounds.{max_nodes, max_shown}
use Rattle.book_history.specs.Entries.{History}
use Rattle.book_history.specs.Entries.Entry.{LineEntered}
use Rattle.book_history.specs.Helpers.{child, is_running}
use Rattle.book_history.specs.Nodes.{nodes}
use Rattle.book_history.specs.PeerSteps.{step_if, steps_of}
use Rattle.book_history.specs.Selecting.{has_own_hop, is_picked, own_family, pick_of}
use Rattle.book_history.specs.Shows.{shown}
use Rattle.book_history.specs.Verdicts.{matches_none, overflows, reading_verdict}
use Rattle.book_history.proofs.StepLemmas.{steps_legal}
use Rattle.book_core.specs.declared.peering.Peering.{Peering}
use Rattle.book_core.specs.Announcing.{announces, nodes_below, AllLegal, AllServe, AllTake, Serves}
use Rattle.book_core.specs.Choosing.{AreChosen, is_chosen, is_meant, is_meant_by}
use Rattle.book_core.specs.Keeping.{Keeps}
use Rattle.book_core.specs.Lines.{Does, IsSaid, Refuses, Selects}
use Rattle.book_core.specs.Moves.{MovesAll}
use Rattle.book_core.specs.Seen.{Seen}
use Rattle.book_core.specs.Stands.{Stands}
use Rattle.book_core.proofs.CarryLemmas.{did_done, done_by}
use Rattle.book_core.proofs.KeepLemmas.{keeps_stand}
use Rattle.book_core.proofs.SaidLemmas.{hop_of_each, said_fit}
use Rattle.book_core.proofs.SumLemmas.{sums_alike}
use Rattle.book_core.proofs.TimeLemmas.{is_on_reading, wants_memory}

-- ---- slots that it can be for

-- a slot that is chosen has a neighbour, whose own address serves
served : (process : Option Process) (given : Command) (pick : Option (List Pick)) (is : Peering)
    → is_meant_by process (own_family given) pick is ≡ true → Serves given is.slot
served process given None is so = absurd (let never : false ≡ true = so in cc)
served process given (Some pick) is so = by_process process is.slot.settings refl so
  where
    by_process : (process : Option Process) (own : Option Settings) → is.slot.settings ≡ own
        → is_meant process pick (own_family given) own is.names ≡ true → Serves given is.slot
    by_process None own placed so = absurd (let never : false ≡ true = so in cc)
    by_process (Some process) None placed so = absurd (let never : false ≡ true = so in cc)
    by_process (Some process) (Some own) placed so = record {
      own = own;
      placed = placed;
      hop = (and_parts (list_any (λ (name : ArrayVec ℕ). same_name name.items process.name.items) is.names
          && is_picked pick own) (has_own_hop (own_family given) own) so).1;
    }

pub all_serve : (process : Option Process) (given : Command) (peers : List Peering) (chosen : List Bool)
    → AreChosen process given peers chosen → AllServe given chosen peers
all_serve process given peers chosen are = λ n is at so.
    let one : slice_get chosen n ≡ Some (is_chosen process given is) =
    are n ∙ ap (option_map (is_chosen process given)) at in
    served process given (pick_of given) is
    (sym (get_or_from_slice_get chosen n (is_chosen process given is) false one) ∙ so)

-- routes that a line says can be announced in such slots
pub all_take : (pick : List Pick) (keys : List Key) (attrs : Attrs) (chosen : List Bool) (peers : List Peering)
    → IsSaid (command.Announce pick keys attrs) → AllServe (command.Announce pick keys attrs) chosen peers
    → AllTake peers chosen keys attrs
all_take pick keys attrs chosen peers said serve = λ n is at so.
    let fit = said_fit pick keys attrs said in
    let serves = serve n is at so in
    record {
      own = serves.own;
      placed = serves.placed;
      limits = fit.limits;
      hop = hop_of_each keys attrs serves.own fit serves.hop;
    }

-- ---- how many nodes there would be

pub all_legal : (cfg : Sections) (H : History) (book : Seen) → Stands cfg H book
    → AllLegal (λ n. steps_of cfg n H) book.peers
all_legal cfg H book stands = λ n is at. (steps_legal cfg n H stands.held.legal, (stands.peers n is at).slot)

-- those that the book counts are those of the history with the line
nodes_told : (cfg : Sections) (H : History) (h inc : ℕ) (line : Line) (pick : List Pick) (keys : List Key)
    (attrs : Attrs) (chosen : List Bool) → Selects cfg H h (command.Announce pick keys attrs) chosen
    → nodes_below max_peers (announces chosen keys attrs) (λ n. steps_of cfg n H)
    ≡ nodes cfg (LineEntered h inc line (Ok (command.Announce pick keys attrs)) verdict.Done ∷ H)
nodes_told cfg H h inc line pick keys attrs chosen selected =
    let entry = LineEntered h inc line (Ok (command.Announce pick keys attrs)) verdict.Done in
    sums_alike (λ n. length (node_keys (announces chosen keys attrs n ++ steps_of cfg n H)))
    (λ n. length (node_keys (steps_of cfg n (entry ∷ H)))) 0 max_peers
    (λ n within. ap (λ b. length (node_keys (step_if b (Announced keys attrs ∷ []) ++ steps_of cfg n H)))
    (selected n within))

-- what is counted of a book
abbrev pub Counts : List Peering → List Bool → List Key → ℕ → Type 0
Counts peers chosen keys count = (steps : ℕ → List Step) (written : Attrs) → AllLegal steps peers
    → count ≡ nodes_below max_peers (announces chosen keys written) steps

pub counts_of : (chosen : List Bool) (count : ℕ) (ps peers : List Peering) (ks keys : List Key) → ps ≡ peers → ks ≡ keys
    → Counts ps chosen ks count → Counts peers chosen keys count
counts_of chosen count ps peers ks keys same alike counts =
    subst (λ these. Counts these chosen keys count) same (subst (λ these. Counts ps chosen these count) alike counts)

counted : (cfg : Sections) (H : History) (h inc : ℕ) (line : Line) (pick : List Pick) (keys : List Key)
    (attrs : Attrs) (chosen : List Bool) (count : ℕ) (book : Seen) → Counts book.peers chosen keys count
    → Selects cfg H h (command.Announce pick keys attrs) chosen → Stands cfg H book
    → count ≡ nodes cfg (LineEntered h inc line (Ok (command.Announce pick keys attrs)) verdict.Done ∷ H)
counted cfg H h inc line pick keys attrs chosen count book counts selected stands =
    counts (λ n. steps_of cfg n H) attrs (all_legal cfg H book stands)
    ∙ nodes_told cfg H h inc line pick keys attrs chosen selected

-- ---- refusals

-- so many nodes are too many
full_by : (none full long over : Bool) (a b c : Why) → none ≡ false → full ≡ true
    → verdict.Error b ≡ (if none then verdict.Error a
    else (if full then verdict.Error b else (if long then verdict.Error c
    else (if over then verdict.Busy else verdict.Done))))
full_by false true long over a b c some is = refl
full_by true full long over a b c some is = absurd (let never : true ≡ false = some in cc)
full_by false false long over a b c some is = absurd (let never : false ≡ true = is in cc)

pub too_many : (h : ℕ) (pick : List Pick) (keys : List Key) (attrs : Attrs) (chosen : List Bool) (count : ℕ)
    (old new : Seen) → Counts old.peers chosen keys count → max_nodes < count → Refuses h (why.Full count) old new
    → Does h (command.Announce pick keys attrs) chosen (verdict.Error (why.Full count)) old new
too_many h pick keys attrs chosen count old new counts over refuses = λ cfg H inc line says timely selected some stands.
    let given = command.Announce pick keys attrs in
    let with_it = nodes cfg (LineEntered h inc line (Ok given) verdict.Done ∷ H) in
    let told : count ≡ with_it = counted cfg H h inc line pick keys attrs chosen count old counts selected stands in
    let full : verdict.Error (why.Full with_it) ≡ reading_verdict cfg H h inc line (Ok given) =
    full_by (matches_none cfg H h given) (nat_lt max_nodes with_it) (nat_lt max_shown (length (shown cfg H h given)))
    (overflows cfg H h inc given) why.NoMatch (why.Full with_it) (why.Show (length (shown cfg H h given))) some
    (lt-ltb max_nodes with_it (subst (λ k. max_nodes < k) told over)) in
    refuses cfg H inc line (Ok given) says timely
    (is_on_reading cfg H h inc line (Ok given) (verdict.Error (why.Full count)) timely
    (ap (λ k. verdict.Error (why.Full k)) told ∙ full)) stands

-- a line that is refused for want of memory
pub no_memory : (h : ℕ) (given : Command) (chosen : List Bool) (old new : Seen) → Refuses h why.NoMemory old new
    → Does h given chosen (verdict.Error why.NoMemory) old new
no_memory h given chosen old new refuses = λ cfg H inc line says timely selected some stands.
    refuses cfg H inc line (Ok given) says timely (wants_memory cfg H h inc line (Ok given) timely) stands

-- so it is where something may have been stood ready before
pub then_no_memory : (h : ℕ) (given : Command) (chosen : List Bool) (old mid new : Seen) → Keeps old mid
    → Refuses h why.NoMemory mid new → Does h given chosen (verdict.Error why.NoMemory) old new
then_no_memory h given chosen old mid new keeps refuses = λ cfg H inc line says timely selected some stands.
    no_memory h given chosen mid new refuses cfg H inc line says timely selected some
    (keeps_stand cfg H old mid keeps stands)

-- what holds of a result by its test
pub on_err : {A E X : Type 0} (given : Result A E) → is_err given ≡ true → OnErr given X → X
on_err (Ok value) is given = absurd (let never : false ≡ true = is in cc)
on_err (Err fault) is given = given

pub on_ok : {A E X : Type 0} (given : Result A E) → is_err given ≡ false → OnOk given X → X
on_ok (Ok value) is given = given
on_ok (Err fault) is given = absurd (let never : true ≡ false = is in cc)

-- ---- an announcement that is made

-- a helper takes it that a command was done
abbrev pub Accepts : Helper → Helper → Command → Type 0
Accepts was new given = (cfg : Sections) (H : History) (k inc : ℕ) (line : Line) → of_helper.Stands cfg H k was
    → is_running (child cfg k H) inc ≡ true → [] ≡ shown cfg H k given
    → of_helper.Stands cfg (LineEntered k inc line (Ok given) verdict.Done ∷ H) k new

pub is_made : (h : ℕ) (pick : List Pick) (keys : List Key) (attrs : Attrs) (chosen : List Bool) (count : ℕ)
    (book : Seen) (new was : Helper) (peers : List Peering) → Counts book.peers chosen keys count → count ≤ max_nodes
    → slice_get book.helpers h ≡ Some was → length book.peers ≡ max_peers
    → MovesAll (announces chosen keys attrs) book.peers peers → Accepts was new (command.Announce pick keys attrs)
    → Does h (command.Announce pick keys attrs) chosen verdict.Done book
    (record book { helpers = slice_set book.helpers h new; peers = peers })
is_made h pick keys attrs chosen count book new was peers counts within found all moved accepts =
    did_done h (command.Announce pick keys attrs) chosen book new was peers book.stopping book.reload_due found refl all
    moved refl refl accepts
    (λ cfg H inc line selected some stands.
    let given = command.Announce pick keys attrs in
    let with_it = nodes cfg (LineEntered h inc line (Ok given) verdict.Done ∷ H) in
    let told : count ≡ with_it = counted cfg H h inc line pick keys attrs chosen count book counts selected stands in
    done_by (matches_none cfg H h given) (nat_lt max_nodes with_it) (nat_lt max_shown (length (shown cfg H h given)))
    (overflows cfg H h inc given) why.NoMatch (why.Full with_it) (why.Show (length (shown cfg H h given))) some
    (le-ltb max_nodes with_it (subst (λ k. k ≤ max_nodes) told within)) refl refl)
