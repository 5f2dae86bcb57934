-- What a table has where a key is put at a vacant place, or a place is made for it.
use Rattle.std.proofs.Common.{◌≡◌, ◌≢◌, ◌==◌, ℕ, ◌+◌, ◌*◌, ◌<◌, Bool, true, false, List, [], ◌∷◌}
use Rattle.std.proofs.Common.{Option, Some, None, cond, length, max, refl, sym, ap, ap₂, subst, ◌∙◌}
use Rattle.std.proofs.Common.{inl, inr, arith}
use Rattle.std.specs.Prelude.{is_some, is_none, not, nat_lt, ◌&&◌, ◌||◌}
use Rattle.std.proofs.lemmas.Bool.{false≢true, cases_eq, eq-eqb, ne_eqb}
use Rattle.linked_pending.specs.Links.{link}
use Rattle.linked_pending.specs.Listing.{has, without}
use Rattle.linked_pending.proofs.ListingLemmas.{has-append, has-without}
use Rattle.route_values.specs.declared.key.Key.{Key}
use Rattle.route_values.specs.Key.{same_key}
use Rattle.route_values.proofs.KeyLemmas.{same_key_is, same_key-self}
use Rattle.slot_batches.specs.Left.{value_left}
use Rattle.slot_batches.specs.Slots.{Slots, is_idle}
use Rattle.slot_batches.specs.declared.slots.Item.{Item as SlotItem}
use Rattle.value_pool.specs.Pool.{noted}
use Rattle.adj_rib_out.specs.declared.chosen.Chosen.{Chosen}
use Rattle.adj_rib_out.specs.State.{is_ready}
use Rattle.adj_rib_out.specs.Counts.{KeysNoted}
use Rattle.adj_rib_out.specs.Places.{key_at, place_of, StandOnce}
use Rattle.adj_rib_out.specs.Kept.{Parts, IsTable, seen, parity}
use Rattle.adj_rib_out.specs.KeyPlaces.{KeyPlaces}
use Rattle.adj_rib_out.specs.Placing.{HaveOneLength, Widens, PutsKey}
use Rattle.adj_rib_out.specs.Readying.{ReadiesKeys, ReadiesSomeKeys}
use Rattle.adj_rib_out.specs.Trimming.{is_kept_by}
use Rattle.adj_rib_out.proofs.RowLemmas.{found, stands, none_some, some_is}
use Rattle.adj_rib_out.proofs.PartLemmas.{ready_seen}
use Rattle.adj_rib_out.proofs.NumberLemmas.{parity_small, not_above}
use Rattle.adj_rib_out.proofs.LoneLemmas.{IsBare, Stays, Same_place, Lone_place, ChangesLone, vacant_lone}
use Rattle.adj_rib_out.proofs.LoneLemmas.{changed, changed_kept, changed_rest}
use Rattle.adj_rib_out.proofs.ReadyLemmas.{ready_same}
use Rattle.adj_rib_out.proofs.PlacingLemmas.{nowhere_too}

module _ (p : Parts) (table : IsTable p) where
  pub one_length : HaveOneLength p.keys p.routes p.slots
  one_length = record { nows = table.nows_length; sents = table.sents_length; routes = table.routes_length }

  pub vacant_idle : (place : ℕ) → key_at p.keys place ≡ None → is_idle p.slots place ≡ true
  vacant_idle place none =
      let lone = vacant_lone p table place none in
      let bare = table.vacant place none in
      ap₂ (λ (a b : Bool). not a && not b && is_none (value_left p.slots.left place))
      (not_above (link p.slots.nows place) bare.now) (not_above (link p.slots.sents place) lone.sent)
      ∙ ap is_none lone.left

  -- room is made first
  module _ (slots : Slots) (room : ℕ) (enough : 2 * length p.values.wires + 1 < room)
      (reserved : slots ≡ record p.slots { room = max p.slots.room room }) where
    pub still_one_length : HaveOneLength p.keys p.routes slots
    still_one_length = record {
      nows = ap (λ (s : Slots). length s.nows) reserved ∙ table.nows_length;
      sents = ap (λ (s : Slots). length s.sents) reserved ∙ table.sents_length;
      routes = table.routes_length;
    }

    pub still_idle : (place : ℕ) → key_at p.keys place ≡ None → is_idle slots place ≡ true
    still_idle place none = ap (λ (s : Slots). is_idle s place) reserved ∙ vacant_idle place none

    roomy : 2 * length p.values.wires + 1 < slots.room
    roomy = subst (λ n. 2 * length p.values.wires + 1 < n) (sym (ap (λ (s : Slots). s.room) reserved)) (omega arith)

    module _ (old new : KeyPlaces) (was : old.keys ≡ p.keys) (routes : List (Option Chosen)) (later : Slots) where
      key_was : (place : ℕ) → key_at old.keys place ≡ key_at p.keys place
      key_was place = ap (λ (ks : List (Option Key)). key_at ks place) was

      -- there may be a vacant place more
      module _ (widens : Widens old new p.routes routes slots later) where
        key_same : (place : ℕ) → key_at new.keys place ≡ key_at p.keys place
        key_same place = widens.keys place ∙ key_was place

        pub widening : ChangesLone p new.keys routes later
        widening =
            let roomy_slots = roomy in
            let more = widens.slots.room in
            record {
              once = λ i j key at_i at_j. table.once i j key (sym (key_same i) ∙ at_i) (sym (key_same j) ∙ at_j);
              stays = λ place. Same_place (key_same place)
                  (widens.nows place ∙ ap (λ (s : Slots). link s.nows place) reserved)
                  (widens.sents place ∙ ap (λ (s : Slots). link s.sents place) reserved);
              given = widens.routes;
              left = widens.slots.left ∙ ap (λ (s : Slots). s.left) reserved;
              even = widens.slots.even ∙ ap (λ (s : Slots). s.even_again) reserved;
              odd = widens.slots.odd ∙ ap (λ (s : Slots). s.odd_again) reserved;
              room = λ place key here. omega arith;
              nows_length = widens.lengths.nows;
              sents_length = widens.lengths.sents;
              routes_length = widens.lengths.routes;
            }

        abbrev pub widened : Parts
        widened = changed p table new.keys routes later widening

        pub widened_kept : IsTable widened
        widened_kept = changed_kept p table new.keys routes later widening

        same_ready : (key : Key) → is_ready (seen widened) key ≡ is_ready (seen p) key
        same_ready key = ready_seen widened key ∙ by (place_of new.keys key) refl ∙ sym (ready_seen p key)
          where
            by : (o : Option ℕ) → place_of new.keys key ≡ o → is_some o ≡ is_some (place_of p.keys key)
            by None none = ap is_some (sym (nowhere_too new.keys p.keys key (λ place. sym (key_same place)) none))
            by (Some place) here = ap is_some (sym (stands p.keys key place table.once (sym (key_same place)
                ∙ found new.keys key place here)))

        pub widens_some : (wanted : List Key) → ReadiesSomeKeys (seen p) (seen widened) wanted
        widens_some wanted = ready_same (seen p) (seen widened) wanted same_ready
            (changed_rest p table new.keys routes later widening)

        kept_same : (place : ℕ) → is_kept_by routes later place ≡ is_kept_by p.routes p.slots place
        kept_same place = ap₂ (λ (a b : Bool). a || b) (ap is_some (widens.routes place))
            (ap₂ (λ (a b : Bool). a || b)
            (ap (nat_lt 1) (widens.sents place ∙ ap (λ (s : Slots). link s.sents place) reserved))
            (ap (λ (l : List SlotItem). is_some (value_left l place))
            (widens.slots.left ∙ ap (λ (s : Slots). s.left) reserved)))

        pub widened_noted : KeysNoted p old.idle → KeysNoted widened new.idle
        widened_noted noted place key here lone = ap (has place) widens.idle
            ∙ noted place key (sym (key_same place) ∙ here) (sym (kept_same place) ∙ lone)

      -- the key stands
      module _ (key : Key) (puts : PutsKey old new p.routes routes slots later key)
          (none : place_of p.keys key ≡ None) where
        abbrev spot : ℕ
        spot = puts.place

        key_is : (i : ℕ) → key_at new.keys i ≡ cond (i == spot) (Some key) (key_at p.keys i)
        key_is i = puts.keys i ∙ ap (cond (i == spot) (Some key)) (key_was i)

        now_is : (i : ℕ) → link later.nows i ≡ cond (i == spot) (parity key) (link p.slots.nows i)
        now_is i = puts.nows i ∙ ap (λ (s : Slots). cond (i == spot) (parity key) (link s.nows i)) reserved

        sent_is : (i : ℕ) → link later.sents i ≡ cond (i == spot) (parity key) (link p.slots.sents i)
        sent_is i = puts.sents i ∙ ap (λ (s : Slots). cond (i == spot) (parity key) (link s.sents i)) reserved

        here : key_at new.keys spot ≡ Some key
        here = key_is spot ∙ ap (λ (t : Bool). cond t (Some key) (key_at p.keys spot)) (eq-eqb spot spot refl)

        now_here : link later.nows spot ≡ parity key
        now_here = now_is spot ∙ ap (λ (t : Bool). cond t (parity key) (link p.slots.nows spot)) (eq-eqb spot spot refl)

        sent_here : link later.sents spot ≡ parity key
        sent_here = sent_is spot
            ∙ ap (λ (t : Bool). cond t (parity key) (link p.slots.sents spot)) (eq-eqb spot spot refl)

        key_other : (i : ℕ) → i ≢ spot → key_at new.keys i ≡ key_at p.keys i
        key_other i other = key_is i ∙ ap (λ (t : Bool). cond t (Some key) (key_at p.keys i)) (ne_eqb i spot other)

        now_other : (i : ℕ) → i ≢ spot → link later.nows i ≡ link p.slots.nows i
        now_other i other = now_is i
            ∙ ap (λ (t : Bool). cond t (parity key) (link p.slots.nows i)) (ne_eqb i spot other)

        sent_other : (i : ℕ) → i ≢ spot → link later.sents i ≡ link p.slots.sents i
        sent_other i other = sent_is i
            ∙ ap (λ (t : Bool). cond t (parity key) (link p.slots.sents i)) (ne_eqb i spot other)

        vacant_there : key_at p.keys spot ≡ None
        vacant_there = sym (key_was spot) ∙ puts.free

        bare_here : IsBare new.keys later spot
        bare_here = record {
          now = subst (λ n. n < 2) (sym now_here) (parity_small key);
          sent = sent_here ∙ sym now_here;
          parity_is = λ k there. now_here ∙ ap parity (some_is (sym here ∙ there));
        }

        at_each : (i : ℕ) → Stays p new.keys later i
        at_each i = elim (cases_eq i spot) [
          | inl same ↦ subst (λ (n : ℕ). Stays p new.keys later n) (sym same)
              (Lone_place (vacant_lone p table spot vacant_there) bare_here)
          | inr other ↦ Same_place (key_other i other) (now_other i other) (sent_other i other)
        ]

        not_there : (i : ℕ) → key_at p.keys i ≡ Some key → ⊥
        not_there i there = none_some (sym none ∙ stands p.keys key i table.once there)

        -- where a key stands now
        at_spot : (i : ℕ) (k : Key) → key_at new.keys i ≡ Some k → i ≡ spot → key ≡ k
        at_spot i k there same = some_is (sym here ∙ subst (λ (n : ℕ). key_at new.keys n ≡ Some k) same there)

        put_once : StandOnce new.keys
        put_once i j k at_i at_j = elim (cases_eq i spot) [
          | inl first ↦ elim (cases_eq j spot) [
            | inl second ↦ first ∙ sym second
            | inr second ↦ absurd (not_there j (sym (key_other j second) ∙ at_j
                ∙ ap (λ (n : Key). Some n) (sym (at_spot i k at_i first))))
          ]
          | inr first ↦ elim (cases_eq j spot) [
            | inl second ↦ absurd (not_there i (sym (key_other i first) ∙ at_i
                ∙ ap (λ (n : Key). Some n) (sym (at_spot j k at_j second))))
            | inr second ↦ table.once i j k (sym (key_other i first) ∙ at_i) (sym (key_other j second) ∙ at_j)
          ]
        ]

        pub putting : ChangesLone p new.keys routes later
        putting =
            let roomy_slots = roomy in
            let more = puts.slots.room in
            record {
              once = put_once;
              stays = at_each;
              given = puts.routes;
              left = puts.slots.left ∙ ap (λ (s : Slots). s.left) reserved;
              even = puts.slots.even ∙ ap (λ (s : Slots). s.even_again) reserved;
              odd = puts.slots.odd ∙ ap (λ (s : Slots). s.odd_again) reserved;
              room = λ place key here. omega arith;
              nows_length = puts.lengths.nows;
              sents_length = puts.lengths.sents;
              routes_length = puts.lengths.routes;
            }

        abbrev pub put : Parts
        put = changed p table new.keys routes later putting

        pub put_kept : IsTable put
        put_kept = changed_kept p table new.keys routes later putting

        -- another key stands where it stood
        other_by : (k : Key) → same_key key k ≡ false → (o : Option ℕ) → place_of new.keys k ≡ o
            → is_some o ≡ is_some (place_of p.keys k)
        other_by k differs None nowhere = from_old (place_of p.keys k) refl
          where
            from_old : (o : Option ℕ) → place_of p.keys k ≡ o → false ≡ is_some o
            from_old None is = refl
            from_old (Some place) is = absurd (none_some (sym nowhere ∙ stands new.keys k place put_once
                (key_other place (λ same. none_some (sym vacant_there
                ∙ subst (λ (n : ℕ). key_at p.keys n ≡ Some k) same (found p.keys k place is)))
                ∙ found p.keys k place is)))
        other_by k differs (Some place) is = ap is_some (sym (stands p.keys k place table.once
            (sym (key_other place not_spot) ∙ found new.keys k place is)))
          where
            not_spot : place ≢ spot
            not_spot same = false≢true (sym differs ∙ subst (λ (j : Key). same_key key j ≡ true)
                (at_spot place k (found new.keys k place is) same) (same_key-self key))

        named_by : (k : Key) (test : Bool) → same_key key k ≡ test
            → is_some (place_of new.keys k) ≡ ((test || false) || is_some (place_of p.keys k))
        named_by k true same = ap is_some (subst (λ (j : Key). place_of new.keys j ≡ Some spot) (same_key_is key k same)
            (stands new.keys key spot put_once here))
        named_by k false differs = other_by k differs (place_of new.keys k) refl

        pub readies_key : ReadiesKeys (seen p) (seen put) (key ∷ [])
        readies_key = record {
          keys = λ k. ready_seen put k ∙ named_by k (same_key key k) refl
              ∙ ap (λ (t : Bool). (same_key key k || false) || t) (sym (ready_seen p k));
          rest = changed_rest p table new.keys routes later putting;
        }

        -- ---- what is noted

        kept_other : (i : ℕ) → i ≢ spot → is_kept_by routes later i ≡ is_kept_by p.routes p.slots i
        kept_other i other = ap₂ (λ (a b : Bool). a || b) (ap is_some (puts.routes i))
            (ap₂ (λ (a b : Bool). a || b) (ap (nat_lt 1) (sent_other i other))
            (ap (λ (l : List SlotItem). is_some (value_left l i))
            (puts.slots.left ∙ ap (λ (s : Slots). s.left) reserved)))

        has_or : (i : ℕ) → has i (noted spot old.idle) ≡ (has i (without spot old.idle) || ((i == spot) || false))
        has_or i = has-append i (without spot old.idle) (spot ∷ [])

        or_true : (a b : Bool) → b ≡ true → (a || (b || false)) ≡ true
        or_true true b is = refl
        or_true false b is = ap (λ (t : Bool). t || false) is

        noted_here : has spot (noted spot old.idle) ≡ true
        noted_here = has_or spot ∙ or_true (has spot (without spot old.idle)) (spot == spot) (eq-eqb spot spot refl)

        noted_other : (i : ℕ) → i ≢ spot → has i old.idle ≡ true → has i (noted spot old.idle) ≡ true
        noted_other i other there = has_or i ∙ ap (λ (t : Bool). t || ((i == spot) || false))
            (has-without i spot old.idle ∙ ap (λ (t : Bool). cond t false (has i old.idle)) (ne_eqb i spot other)
            ∙ there)

        pub put_noted : KeysNoted p old.idle → KeysNoted put new.idle
        put_noted was_noted i k there lone = ap (has i) puts.idle ∙ (elim (cases_eq i spot) [
          | inl same ↦ subst (λ (n : ℕ). has n (noted spot old.idle) ≡ true) (sym same) noted_here
          | inr other ↦ noted_other i other (was_noted i k (sym (key_other i other) ∙ there)
              (sym (kept_other i other) ∙ lone))
        ])
