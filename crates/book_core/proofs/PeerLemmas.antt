-- An entry of neighbour slots.
use Rattle.std.proofs.Common.{◌≡◌, ℕ, ◌<◌, ◌≤◌, Bool, true, false, List, [], ◌∷◌, ◌++◌, length, Some, None}
use Rattle.std.proofs.Common.{Ok, refl, sym, ap, ◌∙◌, subst, eqb-true}
use Rattle.std.proofs.lemmas.List.{length-set}
use Rattle.std.proofs.lemmas.Option.{same_Some, slice_get_past, slice_get_read, slice_get_within, slice_get-get_or}
use Rattle.std.specs.Prelude.{◌==◌, ⊤, if◌then◌else◌, Option, get_or, slice_get, slice_set, IsTrue}
use Rattle.std.specs.Option.{option_map}
use Rattle.route_values.specs.declared.settings.Settings.{Settings}
use Rattle.command_grammar.specs.declared.command.Command.{Command}
use Rattle.command_grammar.specs.declared.command.Command.TheVariants as command
use Rattle.config_model.specs.declared.sections.Neighbor.{Neighbor}
use Rattle.config_model.specs.Sections.{Sections}
use Rattle.helper_book.specs.Apart.{is_apart}
use Rattle.peer_book.specs.Stands as of_peer
use Rattle.peer_history.specs.Steps.{Step}
use Rattle.peer_history.specs.Steps.Step.{Placed, Kept, Vacated, Up, Down, Ended}
use Rattle.peer_history.specs.Steps.Step.{Refreshed, Cut}
use Rattle.peer_history.specs.Table.{settings_in}
use Rattle.book_history.specs.declared.outcomes.Reload.TheVariants as reload
use Rattle.book_history.specs.declared.outcomes.Up.TheVariants as up
use Rattle.book_history.specs.declared.outcomes.Verdict.TheVariants as verdict
use Rattle.book_history.specs.Entries.{Entry, History}
use Rattle.book_history.specs.Entries.Entry.{LineEntered, CameUp, WentDown, RefreshAsked, MessageCut, Reloaded, Stopped}
use Rattle.book_history.specs.Legal.{Allows}
use Rattle.book_history.specs.Nodes.{nodes}
use Rattle.book_history.specs.PeerSteps.{answer_of, cease, commanded, deconfigured, exchanged}
use Rattle.book_history.specs.PeerSteps.{resettled, statics_of, step_if, steps_of}
use Rattle.book_history.specs.Selecting.{selects}
use Rattle.book_history.specs.Slots.{neighbor_at, same_peer}
use Rattle.book_core.specs.declared.peering.Peering.{Peering}
use Rattle.book_core.specs.Moves.{Moves, MovesAll, only_to}
use Rattle.book_core.specs.Quiet.{moves_slots, ends_daemon, due_behind}
use Rattle.book_core.specs.Seen.{Seen, IsWhole}
use Rattle.book_core.specs.Stands.{PeersStand, Stands, names_heard}
use Rattle.book_core.proofs.HeldLemmas.{daemon_on, held_on}
use Rattle.book_core.proofs.HelperLemmas.{get_set_other, get_set_same, helpers_apart}
use Rattle.book_core.proofs.QuietLemmas.{neighbor_unmoved}

-- steps that change no settings
abbrev pub AreSilent : List Step → Type 0
AreSilent [] = ⊤
AreSilent (Placed settings statics ∷ steps) = ⊥
AreSilent (Kept settings statics ∷ steps) = ⊥
AreSilent (Vacated ∷ steps) = ⊥
AreSilent (_ ∷ steps) = AreSilent steps

if_silent : (so : Bool) (steps : List Step) → AreSilent steps → AreSilent (step_if so steps)
if_silent true steps h = h
if_silent false steps h = tt

commanded_silent : (given : Command) (so : Bool) → AreSilent (commanded given so)
commanded_silent (command.Announce pick keys attrs) so = if_silent so _ tt
commanded_silent (command.Withdraw pick keys) so = if_silent so _ tt
commanded_silent (command.Clear pick) so = if_silent so _ tt
commanded_silent (command.Flush pick) so = if_silent so _ tt
commanded_silent (command.Teardown pick sub) so = if_silent so _ tt
commanded_silent command.Shutdown so = tt
commanded_silent _ so = tt

settings_silent : (these steps : List Step) → AreSilent these → settings_in (these ++ steps) ≡ settings_in steps
settings_silent [] steps h = refl
settings_silent (Placed settings statics ∷ these) steps h = absurd h
settings_silent (Kept settings statics ∷ these) steps h = absurd h
settings_silent (Vacated ∷ these) steps h = absurd h
settings_silent (one ∷ these) steps h = settings_silent these steps h

-- the settings of a slot's section
abbrev pub settings_of : Option Neighbor → Option Settings
settings_of held = option_map (λ (neighbor : Neighbor). neighbor.settings) held

opened_settings : (held : Option Neighbor) → settings_in (exchanged None held) ≡ settings_of held
opened_settings None = refl
opened_settings (Some neighbor) = refl

changed_settings : (so : Bool) (old new : Neighbor) (placed steps : List Step)
    → settings_in (placed ++ steps) ≡ Some new.settings
    → settings_in ((if so then resettled old new else placed) ++ steps) ≡ Some new.settings
changed_settings true old new placed steps is = refl
changed_settings false old new placed steps is = is

exchanged_settings : (old new : Option Neighbor) (steps : List Step) → settings_in steps ≡ settings_of old
    → settings_in (exchanged old new ++ steps) ≡ settings_of new
exchanged_settings None None steps is = is
exchanged_settings None (Some new) steps is = refl
exchanged_settings (Some old) None steps is = refl
exchanged_settings (Some old) (Some new) steps is =
    changed_settings (same_peer old new) old new
    (Placed new.settings (statics_of new) ∷ Ended (cease deconfigured) ∷ []) steps refl

module _ (cfg : Sections) (n : ℕ) where
  -- a slot that was told one step, or another slot was
  told_one : (so : Bool) (one : Step) (H : History) → AreSilent (one ∷ [])
      → settings_in (steps_of cfg n H) ≡ settings_of (neighbor_at cfg H n)
      → settings_in (step_if so (one ∷ []) ++ steps_of cfg n H) ≡ settings_of (neighbor_at cfg H n)
  told_one so one H silent is =
      settings_silent (step_if so (one ∷ [])) (steps_of cfg n H) (if_silent so (one ∷ []) silent) ∙ is

  -- the settings that its steps give a slot are those of its section
  pub settings_told : (H : History) → settings_in (steps_of cfg n H) ≡ settings_of (neighbor_at cfg H n)
  settings_told [] = opened_settings (neighbor_at cfg [] n)
  settings_told (LineEntered h inc line (Ok given) verdict.Done ∷ H) =
      settings_silent (commanded given (selects cfg H h given n)) (steps_of cfg n H) (commanded_silent given _)
      ∙ settings_told H
  settings_told (CameUp m settings caps up.Ok ∷ H) = told_one (m == n) (Up caps) H tt (settings_told H)
  settings_told (WentDown m ∷ H) = told_one (m == n) Down H tt (settings_told H)
  settings_told (RefreshAsked m family ∷ H) = told_one (m == n) (Refreshed family) H tt (settings_told H)
  settings_told (MessageCut m bytes given ∷ H) = told_one (m == n) (Cut (answer_of bytes given)) H tt (settings_told H)
  settings_told (Reloaded new reload.Ok ∷ H) =
      exchanged_settings (neighbor_at cfg H n) (neighbor_at cfg (Reloaded new reload.Ok ∷ H) n) (steps_of cfg n H)
      (settings_told H)
  settings_told (Stopped ∷ H) = settings_told H
  settings_told (entry ∷ H) = settings_told H

-- The neighbour slots behind an entry that is these steps to each of them, which they did.
pub peers_moved : (cfg : Sections) (H : History) (entry : Entry) (steps : ℕ → List Step) (old new : List Peering)
    → ((n : ℕ) → steps_of cfg n (entry ∷ H) ≡ steps n ++ steps_of cfg n H) → moves_slots entry ≡ false
    → MovesAll steps old new → PeersStand cfg H old → PeersStand cfg (entry ∷ H) new
peers_moved cfg H entry steps old new told unmoved moved stand = λ n peering at.
    let within : n < length old = subst (λ m. n < m) moved.count (slice_get_within new n peering at) in
    let was = get_or old n peering in
    let found : slice_get old n ≡ Some was = slice_get-get_or old n peering within in
    let move : Moves (steps n) was peering = moved.below n was peering within found at in
    let before = stand n was found in
    record {
      slot = subst (λ all. of_peer.Stands all peering.slot) (sym (told n)) (move.slot (steps_of cfg n H) before.slot);
      names = move.names ∙ before.names ∙ ap names_heard (sym (neighbor_unmoved cfg n entry H unmoved));
    }

-- a slot to which nothing came
still : (was is : Peering) → was ≡ is → Moves [] was is
still was is same = record {
  slot = λ before stands. subst (λ (p : Peering). of_peer.Stands before p.slot) same stands;
  names = ap (λ (p : Peering). p.names) (sym same);
}

-- steps that came to one slot
pub moved_one : (n : ℕ) (steps : List Step) (old : List Peering) (was new : Peering) → slice_get old n ≡ Some was
    → Moves steps was new → MovesAll (only_to n steps) old (slice_set old n new)
moved_one n steps old was new found move = record {
  count = length-set old n new;
  below = λ m before after within there here.
      elim (n == m) as (λ so. (n == m) ≡ so → Moves (step_if so steps) before after) [
        | true ↦ λ same.
            let one : n ≡ m = eqb-true n m same in
            let is_was : was ≡ before =
            same_Some _ _ (sym found ∙ ap (slice_get old) one ∙ there) in
            let is_new : new ≡ after =
            get_set_same old n new after (ap (slice_get (slice_set old n new)) one ∙ here) in
            subst (λ p. Moves steps p after) is_was (subst (λ p. Moves steps was p) is_new move)
        | false ↦ λ other.
            still before after (same_Some _ _ (sym there ∙ sym (get_set_other old n m new other) ∙ here))
      ] refl;
  above = λ m past.
      slice_get_past (slice_set old n new) m (subst (λ k. k ≤ m) (sym (length-set old n new)) past)
      ∙ sym (slice_get_past old m past);
}

-- the slots are all there behind a change of neighbour slots
pub whole_peers : (old : Seen) (peers : List Peering) → length peers ≡ length old.peers → IsWhole old
    → IsWhole (record old { peers = peers })
whole_peers old peers same whole = record {
  helpers = whole.helpers;
  peers = same ∙ whole.peers;
}

-- All neighbour slots did what an entry is to them: the book stands behind the entry.
pub peers_did : (cfg : Sections) (H : History) (entry : Entry) (old : Seen) (steps : ℕ → List Step)
    (peers : List Peering) → ((n : ℕ) → steps_of cfg n (entry ∷ H) ≡ steps n ++ steps_of cfg n H)
    → moves_slots entry ≡ false → ((h : ℕ) → IsTrue (is_apart h entry)) → ends_daemon entry ≡ false
    → due_behind entry ≡ None → Allows cfg H entry → nodes cfg (entry ∷ H) ≤ nodes cfg H
    → MovesAll steps old.peers peers → Stands cfg H old → Stands cfg (entry ∷ H) (record old { peers = peers })
peers_did cfg H entry old steps peers told unmoved apart on silent allowed few moved stands =
    let after : Seen = record old { peers = peers } in
    record {
      helpers = helpers_apart cfg H entry old.helpers apart stands.helpers;
      peers = peers_moved cfg H entry steps old.peers peers told unmoved moved stands.peers;
      daemon = daemon_on H entry old after on silent refl refl stands.daemon;
      held = held_on cfg H entry unmoved allowed few stands.held;
    }

-- One neighbour slot did what an entry of it is to it: the book stands behind the entry.
pub peer_did : (cfg : Sections) (H : History) (entry : Entry) (old : Seen) (n : ℕ) (was new : Peering)
    (steps : List Step) → ((m : ℕ) → steps_of cfg m (entry ∷ H) ≡ only_to n steps m ++ steps_of cfg m H)
    → moves_slots entry ≡ false → ((h : ℕ) → IsTrue (is_apart h entry)) → ends_daemon entry ≡ false
    → due_behind entry ≡ None → n < length old.peers → was ≡ get_or old.peers n was → Allows cfg H entry
    → nodes cfg (entry ∷ H) ≤ nodes cfg H → Moves steps was new → Stands cfg H old
    → Stands cfg (entry ∷ H) (record old { peers = slice_set old.peers n new })
peer_did cfg H entry old n was new steps told unmoved apart on silent within is allowed few move stands =
    let found : slice_get old.peers n ≡ Some was =
    slice_get_read old.peers (length old.peers) n was refl within is in
    peers_did cfg H entry old (only_to n steps) (slice_set old.peers n new) told unmoved apart on silent allowed few
    (moved_one n steps old.peers was new found move) stands
