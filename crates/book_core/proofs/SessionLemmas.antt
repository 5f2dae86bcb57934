-- Events of one neighbour.
use Rattle.std.proofs.Common.{◌≡◌, ℕ, ◌<◌, ◌≤◌, Bool, true, false, List, [], ◌∷◌, length, Some, None}
use Rattle.std.proofs.Common.{refl, sym, ap, ◌∙◌, subst}
use Rattle.std.proofs.lemmas.Option.{same_Some, slice_get_read}
use Rattle.std.specs.Prelude.{if◌then◌else◌, Option, get_or, slice_get, slice_set}
use Rattle.route_values.specs.declared.addr.Family.{Family}
use Rattle.route_values.specs.declared.settings.Settings.{Settings}
use Rattle.route_values.specs.Caps.{Caps}
use Rattle.update_grammar.specs.Packed.{room}
use Rattle.config_model.specs.declared.sections.Neighbor.{Neighbor}
use Rattle.config_model.specs.Sections.{Sections}
use Rattle.peer_book.specs.declared.cut.Cut.{Cut as Made}
use Rattle.peer_book.specs.Cutting.{answered}
use Rattle.peer_book.specs.Slot.{Slot}
use Rattle.peer_book.specs.Stands as of_peer
use Rattle.peer_history.specs.Cuts.{MayAnswer}
use Rattle.peer_history.specs.Steps.{Step}
use Rattle.peer_history.specs.Steps.Step.{Up, Down, Refreshed, Cut}
use Rattle.book_history.specs.declared.outcomes.Cut.{Cut as Cutting}
use Rattle.book_history.specs.declared.outcomes.Peer.{Peer}
use Rattle.book_history.specs.declared.outcomes.Peer.TheVariants as peer
use Rattle.book_history.specs.declared.outcomes.Up.{Up as Raised}
use Rattle.book_history.specs.declared.outcomes.Up.TheVariants as up
use Rattle.book_history.specs.Entries.{History}
use Rattle.book_history.specs.Entries.Entry.{PeerAsked, CameUp, WentDown, RefreshAsked, MessageCut}
use Rattle.book_history.specs.Headline.{SessionsAddNoNode}
use Rattle.book_history.specs.Legal.{Allows, has_settings, neighbor_told, raised_up, told}
use Rattle.book_history.specs.PeerSteps.{answer_of, steps_of}
use Rattle.book_history.specs.Slots.{neighbor_at}
use Rattle.book_core.specs.declared.peering.Peering.{Peering}
use Rattle.book_core.specs.Moves.{Moves}
use Rattle.book_core.specs.Ready.{are_settings, peer_told, TakesCuts}
use Rattle.book_core.specs.Seen.{Seen}
use Rattle.book_core.specs.Stands.{Stands}
use Rattle.book_core.proofs.HelperLemmas.{quiet_did}
use Rattle.book_core.proofs.PeerLemmas.{peer_did, settings_of, settings_told}

-- the peering at a place of a book
module _ (old : Seen) (n : ℕ) (was : Peering) (within : n < length old.peers) (is : was ≡ get_or old.peers n was) where
  pub found : slice_get old.peers n ≡ Some was
  found = slice_get_read old.peers (length old.peers) n was refl within is

  -- its settings are those of the slot's section
  pub own_settings : (cfg : Sections) (H : History) → Stands cfg H old
      → was.slot.settings ≡ settings_of (neighbor_at cfg H n)
  own_settings cfg H stands = (stands.peers n was found).slot.settings ∙ settings_told cfg n H

  -- a buffer that takes the cuts of the book takes those of the slot
  pub takes_cut : (size : ℕ) → TakesCuts old n size → (caps : Caps) → was.slot.session ≡ Some caps → room caps ≤ size
  takes_cut size takes caps stands = takes was caps found stands

-- one place has one peering
pub one_place : (book : Seen) (n : ℕ) (a b : Peering) → n < length book.peers → a ≡ get_or book.peers n a
    → b ≡ get_or book.peers n b → a ≡ b
one_place book n a b within is_a is_b = same_Some a b (sym (found book n a within is_a) ∙ found book n b within is_b)

-- a slot in which something happened; whom it hears stays
abbrev pub with_slot : Peering → Slot → Peering
with_slot was slot = record { slot = slot; names = was.names }

told_by : (held : Option Neighbor) → peer_told (settings_of held) ≡ neighbor_told held
told_by None = refl
told_by (Some neighbor) = refl

has_by : (held : Option Neighbor) (settings : Settings)
    → are_settings (settings_of held) settings ≡ has_settings held settings
has_by None settings = refl
has_by (Some neighbor) settings = refl

-- the neighbour that is told
pub peer_stops : (cfg : Sections) (H : History) (n : ℕ) (book : Seen) → book.stopping ≡ true → Stands cfg H book
    → Allows cfg H (PeerAsked n peer.Stopping) × Stands cfg (PeerAsked n peer.Stopping ∷ H) book
peer_stops cfg H n book stops stands =
    let allowed : peer.Stopping ≡ told cfg H n =
    ap (λ b. if b then peer.Stopping else neighbor_told (neighbor_at cfg H n)) (sym stops ∙ stands.daemon.stopping) in
    (allowed, quiet_did cfg H (PeerAsked n peer.Stopping) book refl (λ h. refl) refl refl allowed stands)

pub peer_is : (cfg : Sections) (H : History) (n : ℕ) (book : Seen) (was : Peering) (given : Peer)
    → n < length book.peers → was ≡ get_or book.peers n was → given ≡ peer_told was.slot.settings
    → book.stopping ≡ false → Stands cfg H book
    → Allows cfg H (PeerAsked n given) × Stands cfg (PeerAsked n given ∷ H) book
peer_is cfg H n book was given within is gives on stands =
    let own = own_settings book n was within is cfg H stands in
    let slots : given ≡ neighbor_told (neighbor_at cfg H n) =
    gives ∙ ap peer_told own ∙ told_by (neighbor_at cfg H n) in
    let allowed : given ≡ told cfg H n =
    slots ∙ ap (λ b. if b then peer.Stopping else neighbor_told (neighbor_at cfg H n))
    (sym on ∙ stands.daemon.stopping) in
    (allowed, quiet_did cfg H (PeerAsked n given) book refl (λ h. refl) refl refl allowed stands)

-- whether a session may come up
abbrev up_by : (stopping has : Bool) → Raised
up_by stopping has = if stopping then up.Stopping else (if has then up.Ok else up.Stale)

pub up_stops : (cfg : Sections) (H : History) (n : ℕ) (settings : Settings) (caps : Caps) (book : Seen)
    → book.stopping ≡ true → Stands cfg H book
    → Allows cfg H (CameUp n settings caps up.Stopping) × Stands cfg (CameUp n settings caps up.Stopping ∷ H) book
up_stops cfg H n settings caps book stops stands =
    let allowed : up.Stopping ≡ raised_up cfg H n settings =
    ap (λ b. up_by b (has_settings (neighbor_at cfg H n) settings)) (sym stops ∙ stands.daemon.stopping) in
    (allowed, quiet_did cfg H (CameUp n settings caps up.Stopping) book refl (λ h. refl) refl refl allowed stands)

-- where the daemon goes on, by whether the slot has these settings
up_goes_on : (cfg : Sections) (H : History) (n : ℕ) (settings : Settings) (book : Seen) (was : Peering) (has : Bool)
    → n < length book.peers → was ≡ get_or book.peers n was → has ≡ are_settings was.slot.settings settings
    → book.stopping ≡ false → Stands cfg H book → up_by false has ≡ raised_up cfg H n settings
up_goes_on cfg H n settings book was has within is tells on stands =
    let own = own_settings book n was within is cfg H stands in
    let slots : has ≡ has_settings (neighbor_at cfg H n) settings =
    tells ∙ ap (λ o. are_settings o settings) own ∙ has_by (neighbor_at cfg H n) settings in
    ap (up_by false) slots
    ∙ ap (λ b. up_by b (has_settings (neighbor_at cfg H n) settings)) (sym on ∙ stands.daemon.stopping)

pub up_stale : (cfg : Sections) (H : History) (n : ℕ) (settings : Settings) (caps : Caps) (book : Seen)
    (was : Peering) → n < length book.peers → was ≡ get_or book.peers n was
    → are_settings was.slot.settings settings ≡ false → book.stopping ≡ false → Stands cfg H book
    → Allows cfg H (CameUp n settings caps up.Stale) × Stands cfg (CameUp n settings caps up.Stale ∷ H) book
up_stale cfg H n settings caps book was within is other on stands =
    let allowed = up_goes_on cfg H n settings book was false within is (sym other) on stands in
    (allowed, quiet_did cfg H (CameUp n settings caps up.Stale) book refl (λ h. refl) refl refl allowed stands)

pub up_ok : SessionsAddNoNode → (cfg : Sections) (H : History) (n : ℕ) (settings : Settings) (caps : Caps)
    (book : Seen) (was : Peering) (slot : Slot) → n < length book.peers → was ≡ get_or book.peers n was
    → are_settings was.slot.settings settings ≡ true → book.stopping ≡ false
    → ((steps : List Step) → of_peer.Stands steps was.slot → of_peer.Stands (Up caps ∷ steps) slot) → Stands cfg H book
    → Allows cfg H (CameUp n settings caps up.Ok)
    × Stands cfg (CameUp n settings caps up.Ok ∷ H)
    (record book { peers = slice_set book.peers n (with_slot was slot) })
up_ok stay cfg H n settings caps book was slot within is same on did stands =
    let allowed = up_goes_on cfg H n settings book was true within is (sym same) on stands in
    let move : Moves (Up caps ∷ []) was (with_slot was slot) = record { slot = did; names = refl } in (
      allowed,
      peer_did cfg H (CameUp n settings caps up.Ok) book n was (with_slot was slot) (Up caps ∷ [])
          (λ m. refl) refl (λ h. refl) refl refl within is allowed
          (stay.up cfg H n settings caps up.Ok (allowed, stands.held.legal)) move stands,
    )

-- a session goes down
pub went_down : SessionsAddNoNode → (cfg : Sections) (H : History) (n : ℕ) (book : Seen) (was : Peering) (slot : Slot)
    → n < length book.peers → was ≡ get_or book.peers n was
    → ((steps : List Step) → of_peer.Stands steps was.slot → of_peer.Stands (Down ∷ steps) slot) → Stands cfg H book
    → Stands cfg (WentDown n ∷ H) (record book { peers = slice_set book.peers n (with_slot was slot) })
went_down stay cfg H n book was slot within is did stands =
    let move : Moves (Down ∷ []) was (with_slot was slot) = record { slot = did; names = refl } in
    peer_did cfg H (WentDown n) book n was (with_slot was slot) (Down ∷ []) (λ m. refl) refl (λ h. refl) refl refl
    within is tt (stay.down cfg H n (tt, stands.held.legal)) move stands

-- a family is to be sent again
pub refreshed : SessionsAddNoNode → (cfg : Sections) (H : History) (n : ℕ) (family : Family) (book : Seen)
    (was : Peering) (slot : Slot) → n < length book.peers → was ≡ get_or book.peers n was
    → ((steps : List Step) → of_peer.Stands steps was.slot → of_peer.Stands (Refreshed family ∷ steps) slot)
    → Stands cfg H book
    → Stands cfg (RefreshAsked n family ∷ H) (record book { peers = slice_set book.peers n (with_slot was slot) })
refreshed stay cfg H n family book was slot within is did stands =
    let move : Moves (Refreshed family ∷ []) was (with_slot was slot) = record { slot = did; names = refl } in
    peer_did cfg H (RefreshAsked n family) book n was (with_slot was slot) (Refreshed family ∷ []) (λ m. refl) refl
    (λ h. refl) refl refl within is tt (stay.refreshed cfg H n family (tt, stands.held.legal)) move stands

-- the next message is asked for
pub was_cut : SessionsAddNoNode → (cfg : Sections) (H : History) (n : ℕ) (bytes : List ℕ) (given : Cutting)
    (made : Made) (book : Seen) (was : Peering) (slot : Slot) → n < length book.peers
    → was ≡ get_or book.peers n was → answer_of bytes given ≡ answered bytes made
    → ((steps : List Step) → of_peer.Stands steps was.slot
    → MayAnswer steps (answered bytes made) × of_peer.Stands (Cut (answered bytes made) ∷ steps) slot)
    → Stands cfg H book
    → Allows cfg H (MessageCut n bytes given)
    × Stands cfg (MessageCut n bytes given ∷ H) (record book { peers = slice_set book.peers n (with_slot was slot) })
was_cut stay cfg H n bytes given made book was slot within is told did stands =
    let entry = MessageCut n bytes given in
    let one = Cut (answer_of bytes given) ∷ [] in
    let allowed : Allows cfg H entry =
    subst (MayAnswer (steps_of cfg n H)) (sym told)
    (did (steps_of cfg n H)
    (stands.peers n was (found book n was within is)).slot).0 in
    let move : Moves one was (with_slot was slot) = record {
      slot = λ before stood.
          subst (λ answer. of_peer.Stands (Cut answer ∷ before) slot) (sym told) (did before stood).1;
      names = refl;
    } in (
      allowed,
      peer_did cfg H entry book n was (with_slot was slot) one (λ m. refl) refl (λ h. refl) refl refl within is
          allowed (stay.cut cfg H n bytes given (allowed, stands.held.legal)) move stands,
    )
