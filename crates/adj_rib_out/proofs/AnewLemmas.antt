-- A session stands anew, or none: what the table is then, with its notes and counts.
use Rattle.std.proofs.Common.{◌≡◌, ℕ, ◌+◌, ◌≤◌, true, List, Option, Some, None, length}
use Rattle.std.proofs.Common.{refl, sym, subst}
use Rattle.std.specs.List.{sum_by}
use Rattle.linked_pending.specs.Links.{link}
use Rattle.linked_pending.specs.Listing.{has}
use Rattle.route_values.specs.declared.key.Key.{Key}
use Rattle.route_values.specs.Caps.{Caps}
use Rattle.slot_batches.specs.Slots.{Slots}
use Rattle.adj_rib_out.specs.declared.chosen.Chosen.{Chosen}
use Rattle.adj_rib_out.specs.State.{State}
use Rattle.adj_rib_out.specs.Calls.{Restarts}
use Rattle.adj_rib_out.specs.Counts.{IsWhole, for_wire}
use Rattle.adj_rib_out.specs.Kept.{Parts, Values, seen, chosen_at}
use Rattle.adj_rib_out.specs.Nodes.{nodes}
use Rattle.adj_rib_out.specs.Places.{key_at}
use Rattle.adj_rib_out.specs.Shown.{CanShow, HasShown}
use Rattle.adj_rib_out.proofs.RestartLemmas as restart
use Rattle.adj_rib_out.proofs.RestartLemmas.{IsFresh}
use Rattle.adj_rib_out.proofs.ShownLemmas as shown_of
use Rattle.adj_rib_out.proofs.TallyLemmas as tally
use Rattle.adj_rib_out.proofs.WholeLemmas as whole_of

module _ (p : Parts) (places routes uses : List ℕ) (whole : IsWhole p places routes uses) where
  pub sents_counted : (wire : ℕ) → sum_by (for_wire wire) p.slots.sents ≤ link uses wire
  sents_counted = tally.sents_counted p.values.written p.slots.sents uses whole.uses_counted

  -- ---- slots show what their keys were given

  module _ (values : Values) (same_values : values ≡ p.values) (down : Slots) (fresh_slots : IsFresh p None down) where
    pub can_show : CanShow p.keys values down
    can_show = subst (λ (v : Values). CanShow p.keys v down) (sym same_values)
        (shown_of.can_show p whole.table down fresh_slots p.keys refl)

    pub fresh_up : (caps : Caps) (up : Slots) (rs : List (Option Chosen)) → rs ≡ p.routes
        → HasShown p.keys rs values caps down up (length p.keys) → IsFresh p (Some caps) up
    fresh_up caps up rs routes_are shown = shown_of.fresh_up p whole.table down fresh_slots caps up p.keys rs refl
        routes_are (subst (λ (v : Values). HasShown p.keys rs v caps down up (length p.keys)) same_values shown)

  -- ---- the whole

  module _ (state : State) (view : seen p ≡ state) (caps : Option Caps) (slots : Slots)
      (fresh_slots : IsFresh p caps slots) (keys : List (Option Key)) (values : Values) (same_keys : keys ≡ p.keys)
      (same_values : values ≡ p.values) where
    abbrev made : Parts
    made = restart.restarted p whole.table state view caps slots fresh_slots

    abbrev pub after : Parts
    after = whole_of.moved made keys values same_keys same_values

    pub after_whole : (places_now routes_now less : List ℕ) → routes_now ≡ routes → (rs : List (Option Chosen)) → rs
        ≡ p.routes
        → ((place : ℕ) (key : Key) → key_at p.keys place ≡ Some key → chosen_at rs place ≡ None
        → has place places_now ≡ true)
        → ((wire : ℕ) → link less wire + sum_by (for_wire wire) p.slots.sents ≡ link uses wire)
        → IsWhole after places_now routes_now less
    after_whole places_now routes_now less counts_are rs routes_are lone lost = whole_of.whole_moved made keys values
        same_keys same_values
        places_now routes less places_now routes_now less refl counts_are refl
        (whole_of.restarted_whole p places routes uses whole state view caps slots fresh_slots places_now less
        (λ place key here none. lone place key here
        (subst (λ (l : List (Option Chosen)). chosen_at l place ≡ None) (sym routes_are) none)) lost)

    pub after_restarts : Restarts state (seen after) caps
    after_restarts = whole_of.move made keys values same_keys same_values (λ (q : Parts). Restarts state (seen q) caps)
        (restart.restarted_restarts p whole.table state view caps slots fresh_slots)

    pub after_fewer : nodes (seen after) ≤ nodes state
    after_fewer = whole_of.move made keys values same_keys same_values (λ (q : Parts). nodes (seen q) ≤ nodes state)
        (restart.restarted_fewer p whole.table state view caps slots fresh_slots)
