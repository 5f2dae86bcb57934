-- Histories that a book may have go on being such.
use Rattle.std.proofs.Common.{◌≡◌, ℕ, ◌≤◌, Bool, true, false, List, ◌∷◌, length, None, sym, ap, ◌∙◌}
use Rattle.std.proofs.Common.{subst, arith}
use Rattle.std.specs.Prelude.{◌||◌, Option, map, unwrap_or}
use Rattle.std.specs.List.{IsDistinct}
use Rattle.route_values.specs.Key.{same_addr}
use Rattle.config_model.specs.declared.sections.Neighbor.{Neighbor}
use Rattle.config_model.specs.declared.sections.Process.{Process}
use Rattle.config_model.specs.Limits.{max_helpers, max_peers}
use Rattle.config_model.specs.Sections.{Sections, same_name}
use Rattle.book_history.specs.Bounds.{max_nodes}
use Rattle.book_history.specs.Entries.{Entry, History}
use Rattle.book_history.specs.Legal.{Allows, is_reload_due}
use Rattle.book_history.specs.Nodes.{nodes}
use Rattle.book_history.specs.Verdicts.{is_stopping}
use Rattle.book_core.specs.Quiet.{is_quiet, moves_slots, ends_daemon, due_behind}
use Rattle.book_core.specs.Seen.{Seen}
use Rattle.book_core.specs.Stands.{AreSlots, DaemonStands, IsHeld, filled}
use Rattle.book_core.proofs.QuietLemmas.{due_after, helpers_unmoved, peers_unmoved, quiet_nodes, quiet_unmoved}
use Rattle.book_core.proofs.QuietLemmas.{stopping_behind}

pub at_most : (a b c : ℕ) → a ≤ b → b ≤ c → a ≤ c
at_most a b c few within = omega (arith, few, within)

no_more : (a b : ℕ) → a ≡ b → a ≤ b
no_more a b same = omega (arith, same)

-- slots that an entry leaves
pub slots_unmoved : (cfg : Sections) (H : History) (entry : Entry) → moves_slots entry ≡ false → AreSlots cfg H
    → AreSlots cfg (entry ∷ H)
slots_unmoved cfg H entry unmoved are =
    let peers = sym (peers_unmoved cfg entry H unmoved) in
    let helpers = sym (helpers_unmoved cfg entry H unmoved) in
    record {
      few_helpers = subst (λ (slots : List (Option Process)). length slots ≤ max_helpers) helpers are.few_helpers;
      few_peers = subst (λ (slots : List (Option Neighbor)). length slots ≤ max_peers) peers are.few_peers;
      names = subst (λ (slots : List (Option Process)).
          IsDistinct same_name (map (λ process. process.name.items) (filled slots))) helpers are.names;
      addrs = subst (λ (slots : List (Option Neighbor)).
          IsDistinct same_addr (map (λ neighbor. neighbor.settings.peer) (filled slots))) peers are.addrs;
    }

-- an entry that is allowed, adds no node and moves no slot
pub held_on : (cfg : Sections) (H : History) (entry : Entry) → moves_slots entry ≡ false → Allows cfg H entry
    → nodes cfg (entry ∷ H) ≤ nodes cfg H → IsHeld cfg H → IsHeld cfg (entry ∷ H)
held_on cfg H entry unmoved allowed few held =
    record {
      legal = (allowed, held.legal);
      bounded = at_most (nodes cfg (entry ∷ H)) (nodes cfg H) max_nodes few held.bounded;
      slots = slots_unmoved cfg H entry unmoved held.slots;
    }

-- a quiet one that is allowed
pub held_quiet : (cfg : Sections) (H : History) (entry : Entry) → is_quiet entry ≡ true → Allows cfg H entry
    → IsHeld cfg H → IsHeld cfg (entry ∷ H)
held_quiet cfg H entry quiet allowed held =
    held_on cfg H entry (quiet_unmoved entry quiet) allowed
    (no_more (nodes cfg (entry ∷ H)) (nodes cfg H) (quiet_nodes cfg H entry quiet)) held

-- what is known of the daemon, behind an entry that says nothing of it
pub daemon_on : (H : History) (entry : Entry) (old new : Seen) → ends_daemon entry ≡ false → due_behind entry ≡ None
    → new.stopping ≡ old.stopping → new.reload_due ≡ old.reload_due → DaemonStands H old
    → DaemonStands (entry ∷ H) new
daemon_on H entry old new on silent stopping due stands = record {
  stopping = stopping ∙ stands.stopping ∙ ap (λ b. b || is_stopping H) (sym on) ∙ sym (stopping_behind entry H);
  reload_due = due ∙ stands.reload_due ∙ ap (λ (o : Option Bool). unwrap_or o (is_reload_due H)) (sym silent)
      ∙ sym (due_after entry H);
}
