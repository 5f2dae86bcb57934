-- What holds of a table with its notes and counts, and what is seen of it, where keys come to stand ready or go.
use Rattle.std.proofs.Common.{◌≡◌, ℕ, ◌+◌, ◌*◌, ◌<◌, Bool, true, List, [], ◌∷◌, Option, None, cond}
use Rattle.std.proofs.Common.{length, max, refl, sym, ap, subst, ◌∙◌, arith}
use Rattle.std.specs.Prelude.{◌-◌, ◌/◌, is_some, ◌&&◌, ◌==◌, IsSome, Result, Ok, Err, OnOk, OnErr}
use Rattle.std.specs.List.{sum_by}
use Rattle.linked_pending.specs.Links.{link}
use Rattle.linked_pending.specs.Listing.{has}
use Rattle.route_values.specs.declared.key.Key.{Key}
use Rattle.slot_batches.specs.Slots.{Slots}
use Rattle.adj_rib_out.specs.declared.chosen.Chosen.{Chosen}
use Rattle.adj_rib_out.specs.State.{State, is_ready}
use Rattle.adj_rib_out.specs.Counts.{IsWhole, KeysNoted, RoutesCounted, UsesCounted, of_value, for_wire, with_wire}
use Rattle.adj_rib_out.specs.Places.{key_at, place_of}
use Rattle.adj_rib_out.specs.Kept.{Parts, seen}
use Rattle.adj_rib_out.specs.KeyPlaces.{KeyPlaces}
use Rattle.adj_rib_out.specs.Placing.{Widens, PutsKey}
use Rattle.adj_rib_out.specs.Readying.{ReadiesKeys, ReadiesSomeKeys}
use Rattle.adj_rib_out.specs.Trimming.{TrimsPlaces, TrimsKeys}
use Rattle.adj_rib_out.proofs.AlikeLemmas.{sum_alike}
use Rattle.adj_rib_out.proofs.LoneLemmas.{Stays, Same_place, Lone_place, ChangesLone, changed}
use Rattle.adj_rib_out.proofs.LoneLemmas.{changed_kept}
use Rattle.adj_rib_out.proofs.NumberLemmas.{not_above}
use Rattle.adj_rib_out.proofs.PartLemmas.{ready_seen}
use Rattle.adj_rib_out.proofs.PutLemmas as put
use Rattle.adj_rib_out.proofs.ReadyLemmas.{ready_already, ready_same, rest_same}
use Rattle.adj_rib_out.proofs.RowLemmas.{within}
use Rattle.adj_rib_out.proofs.NumberLemmas.{some_of}
use Rattle.adj_rib_out.proofs.TrimLemmas as trim

-- ---- counts stay

none_for : (wire number : ℕ) → number < 2 → for_wire wire number ≡ 0
none_for wire number small = ap (λ (t : Bool). cond (t && (number / 2 - 1 == wire)) 1 0) (not_above number small)

module _ (p : Parts) (places counts uses : List ℕ) (whole : IsWhole p places counts uses) where
  module _ (keys : List (Option Key)) (routes : List (Option Chosen)) (slots : Slots)
      (changes : ChangesLone p keys routes slots) where
    still_given : RoutesCounted routes counts
    still_given value = whole.routes_counted value
        ∙ sym (sum_alike (of_value value) None refl p.routes routes (λ i. ap (of_value value) (changes.given i)))

    same_use : (wire i : ℕ) → Stays p keys slots i
        → for_wire wire (link slots.sents i) ≡ for_wire wire (link p.slots.sents i)
    same_use wire i (Same_place key now sent) = ap (for_wire wire) sent
    same_use wire i (Lone_place lone bare) =
        none_for wire (link slots.sents i) (subst (λ n. n < 2) (sym bare.sent) bare.now)
        ∙ sym (none_for wire (link p.slots.sents i) lone.sent)

    still_used : UsesCounted p.values.written slots.sents uses
    still_used wire = whole.uses_counted wire ∙ ap (λ n. sum_by (with_wire wire) p.values.written + n)
        (sym (sum_alike (for_wire wire) 0 refl p.slots.sents slots.sents (λ i. same_use wire i (changes.stays i))))

    changed_whole : (noted : List ℕ) → KeysNoted (changed p whole.table keys routes slots changes) noted
        → IsWhole (changed p whole.table keys routes slots changes) noted counts uses
    changed_whole noted known = record {
      table = changed_kept p whole.table keys routes slots changes;
      keys = known;
      routes_counted = still_given;
      uses_counted = still_used;
    }

  module _ (state : State) (view : seen p ≡ state) where
    -- ---- a key that stands already

    pub stands_ready : (key : Key) → is_some (place_of p.keys key) ≡ true → ReadiesKeys state state (key ∷ [])
    stands_ready key stands = ready_already state key (sym (ap (λ (s : State). is_ready s key) view)
        ∙ ready_seen p key ∙ stands)

    pub nothing_ready : (wanted : List Key) → ReadiesSomeKeys state state wanted
    nothing_ready wanted = ready_same state state wanted (λ key. refl) (rest_same state)

    -- ---- slots that are as before

    module _ (slots : Slots) (same : slots ≡ p.slots) where
      abbrev pub as_before : Parts
      as_before = record p { slots = slots }

      before_is : p ≡ as_before
      before_is = ap (λ (s : Slots). record p { slots = s }) (sym same)

      pub before_whole : IsWhole as_before places counts uses
      before_whole = subst (λ (q : Parts). IsWhole q places counts uses) before_is whole

      pub before_ready : (wanted : List Key) → ReadiesSomeKeys state (seen as_before) wanted
      before_ready wanted = subst (λ (s : State). ReadiesSomeKeys state s wanted)
          (sym view ∙ ap seen before_is) (nothing_ready wanted)

    -- ---- a key is put, or memory was wanting

    module _ (slots : Slots) (room : ℕ) (enough : 2 * length p.values.wires + 1 < room)
        (reserved : slots ≡ record p.slots { room = max p.slots.room room }) (old new : KeyPlaces)
        (was : old.keys ≡ p.keys) (idle : old.idle ≡ places) (routes : List (Option Chosen)) (later : Slots) (key : Key)
        (none : place_of p.keys key ≡ None) where
      abbrev pub behind : Parts
      behind = record p { keys = new.keys; routes = routes; slots = later }

      known : KeysNoted p old.idle
      known = subst (λ (l : List ℕ). KeysNoted p l) (sym idle) whole.keys

      put_whole : PutsKey old new p.routes routes slots later key → IsWhole behind new.idle counts uses
      put_whole puts = changed_whole new.keys routes later
          (put.putting p whole.table slots room enough reserved old new was routes later key puts none) new.idle
          (put.put_noted p whole.table slots room enough reserved old new was routes later key puts none known)

      widened_whole : Widens old new p.routes routes slots later → IsWhole behind new.idle counts uses
      widened_whole widens = changed_whole new.keys routes later
          (put.widening p whole.table slots room enough reserved old new was routes later widens) new.idle
          (put.widened_noted p whole.table slots room enough reserved old new was routes later widens known)

      module _ {X E : Type 0} where
        pub then_whole : (result : Result X E) → OnOk result (PutsKey old new p.routes routes slots later key)
            → OnErr result (Widens old new p.routes routes slots later) → IsWhole behind new.idle counts uses
        then_whole (Ok x) puts widens = put_whole puts
        then_whole (Err e) puts widens = widened_whole widens

        pub then_ready : (result : Result X E) → OnOk result (PutsKey old new p.routes routes slots later key)
            → OnOk result (ReadiesKeys state (seen behind) (key ∷ []))
        then_ready (Ok x) puts = subst (λ (s : State). ReadiesKeys s (seen behind) (key ∷ [])) view
            (put.readies_key p whole.table slots room enough reserved old new was routes later key puts none)
        then_ready (Err e) puts = puts

        pub then_some : (result : Result X E) → OnErr result (Widens old new p.routes routes slots later)
            → OnErr result (ReadiesSomeKeys state (seen behind) (key ∷ []))
        then_some (Ok x) widens = widens
        then_some (Err e) widens = subst (λ (s : State). ReadiesSomeKeys s (seen behind) (key ∷ [])) view
            (put.widens_some p whole.table slots room enough reserved old new was routes later widens (key ∷ []))

    -- ---- keys go

    -- a noted place has a slot
    pub noted_within : ((place : ℕ) → has place places ≡ true → IsSome (key_at p.keys place)) → (place : ℕ)
        → has place places ≡ true → place < length p.slots.nows
    noted_within held place there =
        let stands = some_of (key_at p.keys place) (held place there) in
        let below = within p.keys stands.0 place stands.1 in
        let long = whole.table.nows_length in
        omega arith

    module _ (old new : KeyPlaces) (was : old.keys ≡ p.keys) (idle : old.idle ≡ places)
        (trims : TrimsPlaces p.routes p.slots old new) where
      abbrev pub trimmed : Parts
      trimmed = record p { keys = new.keys }

      noted_before : KeysNoted p old.idle
      noted_before = subst (λ (l : List ℕ). KeysNoted p l) (sym idle) whole.keys

      pub trimmed_whole : IsWhole trimmed new.idle counts uses
      trimmed_whole = changed_whole new.keys p.routes p.slots (trim.changes p whole.table old new was trims) new.idle
          (trim.none_noted p whole.table old new was trims noted_before)

      pub trimmed_trims : TrimsKeys state (seen trimmed)
      trimmed_trims = subst (λ (s : State). TrimsKeys s (seen trimmed)) view
          (trim.trims_keys p whole.table old new was trims noted_before)
