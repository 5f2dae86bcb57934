-- What entries leave as it is.
use Rattle.std.proofs.Common.{◌≡◌, ℕ, true, false, List, ◌∷◌, length, Ok, refl, sym, ap, ◌∙◌, subst}
use Rattle.std.specs.Prelude.{◌||◌, Option, unwrap_or}
use Rattle.std.specs.List.{sum_by}
use Rattle.command_grammar.specs.declared.command.Command.TheVariants as command
use Rattle.config_model.specs.declared.sections.Neighbor.{Neighbor}
use Rattle.config_model.specs.Sections.{Sections}
use Rattle.peer_book.specs.Stands as of_peer
use Rattle.peer_history.specs.Ordered.{node_keys}
use Rattle.peer_history.specs.Steps.{Step}
use Rattle.book_history.specs.declared.outcomes.Reload.TheVariants as reload
use Rattle.book_history.specs.declared.outcomes.Up.TheVariants as up
use Rattle.book_history.specs.declared.outcomes.Verdict.TheVariants as verdict
use Rattle.book_history.specs.Bounds.{peer_numbers}
use Rattle.book_history.specs.Entries.{Entry, History}
use Rattle.book_history.specs.Entries.Entry.{LineEntered, CameUp, WentDown, RefreshAsked, MessageCut, Reloaded}
use Rattle.book_history.specs.Entries.Entry.{ReloadRefused, Stopped}
use Rattle.book_history.specs.Legal.{is_reload_due}
use Rattle.book_history.specs.Nodes.{nodes}
use Rattle.book_history.specs.PeerSteps.{steps_of}
use Rattle.book_history.specs.Slots.{helper_slots, neighbor_at, peer_slots, slot}
use Rattle.book_history.specs.Verdicts.{is_stopping}
use Rattle.book_core.specs.declared.peering.Peering.{Peering}
use Rattle.book_core.specs.Quiet.{is_quiet, moves_slots, ends_daemon, due_behind}
use Rattle.book_core.specs.Stands.{PeersStand, names_heard}

-- a quiet entry is no step of any slot
pub quiet_steps : (cfg : Sections) (n : ℕ) (entry : Entry) (H : History) → is_quiet entry ≡ true
    → steps_of cfg n (entry ∷ H) ≡ steps_of cfg n H
quiet_steps cfg n (LineEntered h inc line (Ok given) verdict.Done) H quiet =
    absurd (let never : false ≡ true = quiet in cc)
quiet_steps cfg n (CameUp m settings caps up.Ok) H quiet =
    absurd (let never : false ≡ true = quiet in cc)
quiet_steps cfg n (WentDown m) H quiet =
    absurd (let never : false ≡ true = quiet in cc)
quiet_steps cfg n (RefreshAsked m family) H quiet =
    absurd (let never : false ≡ true = quiet in cc)
quiet_steps cfg n (MessageCut m bytes given) H quiet =
    absurd (let never : false ≡ true = quiet in cc)
quiet_steps cfg n (Reloaded new reload.Ok) H quiet =
    absurd (let never : false ≡ true = quiet in cc)
quiet_steps cfg n Stopped H quiet =
    absurd (let never : false ≡ true = quiet in cc)
quiet_steps cfg n entry H quiet = refl

-- and leaves what stands in the slots
pub quiet_unmoved : (entry : Entry) → is_quiet entry ≡ true → moves_slots entry ≡ false
quiet_unmoved (Reloaded new reload.Ok) quiet =
    absurd (let never : false ≡ true = quiet in cc)
quiet_unmoved entry quiet = refl

pub peers_unmoved : (cfg : Sections) (entry : Entry) (H : History) → moves_slots entry ≡ false
    → peer_slots cfg (entry ∷ H) ≡ peer_slots cfg H
peers_unmoved cfg (Reloaded new reload.Ok) H unmoved = absurd (let never : true ≡ false = unmoved in cc)
peers_unmoved cfg entry H unmoved = refl

pub helpers_unmoved : (cfg : Sections) (entry : Entry) (H : History) → moves_slots entry ≡ false
    → helper_slots cfg (entry ∷ H) ≡ helper_slots cfg H
helpers_unmoved cfg (Reloaded new reload.Ok) H unmoved = absurd (let never : true ≡ false = unmoved in cc)
helpers_unmoved cfg entry H unmoved = refl

pub neighbor_unmoved : (cfg : Sections) (n : ℕ) (entry : Entry) (H : History) → moves_slots entry ≡ false
    → neighbor_at cfg (entry ∷ H) n ≡ neighbor_at cfg H n
neighbor_unmoved cfg n entry H unmoved =
    ap (λ (slots : List (Option Neighbor)). slot slots n) (peers_unmoved cfg entry H unmoved)

-- whether the daemon ends, and whether a reload is due, behind any entry
pub stopping_behind : (entry : Entry) (H : History) → is_stopping (entry ∷ H) ≡ (ends_daemon entry || is_stopping H)
stopping_behind (LineEntered h inc line (Ok command.Shutdown) verdict.Done) H = refl
stopping_behind Stopped H = refl
stopping_behind entry H = refl

pub due_after : (entry : Entry) (H : History)
    → is_reload_due (entry ∷ H) ≡ unwrap_or (due_behind entry) (is_reload_due H)
due_after (LineEntered h inc line (Ok command.Reload) verdict.Done) H = refl
due_after (Reloaded new given) H = refl
due_after (ReloadRefused because) H = refl
due_after entry H = refl

-- the neighbour slots stand behind a quiet entry
pub quiet_peers : (cfg : Sections) (H : History) (entry : Entry) (peers : List Peering) → is_quiet entry ≡ true
    → PeersStand cfg H peers → PeersStand cfg (entry ∷ H) peers
quiet_peers cfg H entry peers quiet stand = λ n peering at.
    let was = stand n peering at in
    record {
      slot = subst (λ steps. of_peer.Stands steps peering.slot) (sym (quiet_steps cfg n entry H quiet)) was.slot;
      names = was.names ∙ ap names_heard (sym (neighbor_unmoved cfg n entry H (quiet_unmoved entry quiet)));
    }

-- the route nodes are as many as the steps of the slots tell
pub nodes_by_steps : (f g : ℕ → List Step) → ((n : ℕ) → f n ≡ g n)
    → sum_by (λ n. length (node_keys (f n))) peer_numbers ≡ sum_by (λ n. length (node_keys (g n))) peer_numbers
nodes_by_steps f g each =
    let same : f ≡ g = λ i n. each n i in
    ap (λ (s : ℕ → List Step). sum_by (λ n. length (node_keys (s n))) peer_numbers) same

pub quiet_nodes : (cfg : Sections) (H : History) (entry : Entry) → is_quiet entry ≡ true
    → nodes cfg (entry ∷ H) ≡ nodes cfg H
quiet_nodes cfg H entry quiet =
    nodes_by_steps (λ n. steps_of cfg n (entry ∷ H)) (λ n. steps_of cfg n H)
    (λ n. quiet_steps cfg n entry H quiet)
