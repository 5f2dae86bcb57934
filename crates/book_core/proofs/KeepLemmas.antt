-- A book in which keys and values stand ready, or were taken out, stands for what it stood for.
use Rattle.std.proofs.Common.{◌≡◌, ℕ, ◌<◌, ◌≤◌, List, [], length, Some, sym, ◌∙◌, subst}
use Rattle.std.proofs.lemmas.Option.{slice_get_within, slice_get-get_or}
use Rattle.std.specs.Prelude.{get_or, slice_get}
use Rattle.config_model.specs.Sections.{Sections}
use Rattle.helper_book.specs.Seen.{Seen as Helper}
use Rattle.peer_history.specs.Steps.{Step}
use Rattle.book_history.specs.Entries.{History}
use Rattle.book_history.specs.PeerSteps.{steps_of}
use Rattle.book_core.specs.declared.peering.Peering.{Peering}
use Rattle.book_core.specs.Keeping.{Keeps}
use Rattle.book_core.specs.Moves.{Moves, MovesAll}
use Rattle.book_core.specs.Seen.{Seen}
use Rattle.book_core.specs.Stands.{HelpersStand, PeersStand, Stands}

pub peers_kept : (cfg : Sections) (H : History) (old new : List Peering) → MovesAll (λ n. []) old new
    → PeersStand cfg H old → PeersStand cfg H new
peers_kept cfg H old new moved stand = λ n peering at.
    let within : n < length old = subst (λ m. n < m) moved.count (slice_get_within new n peering at) in
    let was = get_or old n peering in
    let found : slice_get old n ≡ Some was = slice_get-get_or old n peering within in
    let move : Moves [] was peering = moved.below n was peering within found at in
    let before = stand n was found in
    record { slot = move.slot (steps_of cfg n H) before.slot; names = move.names ∙ before.names }

pub keeps_stand : (cfg : Sections) (H : History) (old new : Seen) → Keeps old new → Stands cfg H old
    → Stands cfg H new
keeps_stand cfg H old new kept stands = record {
  helpers = subst (λ (helpers : List Helper). HelpersStand cfg H helpers) (sym kept.helpers) stands.helpers;
  peers = peers_kept cfg H old.peers new.peers kept.peers stands.peers;
  daemon = record {
    stopping = kept.stopping ∙ stands.daemon.stopping;
    reload_due = kept.reload_due ∙ stands.daemon.reload_due;
  };
  held = stands.held;
}

-- what stands ready first, and what is taken out last, are no steps
module _ (a b c : List Peering) (steps : ℕ → List Step) where
  -- the slot that was there in between
  between : (first : length b ≡ length a) (n : ℕ) (other : Peering) → n < length a
      → slice_get b n ≡ Some (get_or b n other)
  between first n other within = slice_get-get_or b n other (subst (λ m. n < m) (sym first) within)

  pub kept_then : MovesAll (λ n. []) a b → MovesAll steps b c → MovesAll steps a c
  kept_then first second = record {
    count = second.count ∙ first.count;
    below = λ n was is within there here.
        let mid = get_or b n is in
        let found = between first.count n is within in
        let one : Moves [] was mid = first.below n was mid within there found in
        let two : Moves (steps n) mid is =
        second.below n mid is (subst (λ m. n < m) (sym first.count) within) found here in
        record { slot = λ before stood. two.slot before (one.slot before stood); names = two.names ∙ one.names };
    above = λ n past. second.above n (subst (λ m. m ≤ n) (sym first.count) past) ∙ first.above n past;
  }
