-- The noted keys that nothing keeps are taken out, one after another, and what that does to a table.
use Rattle.std.proofs.Common.{◌≡◌, ◌≢◌, ◌==◌, ℕ, ◌<◌, ◌≤◌, Bool, true, false, List, [], ◌∷◌}
use Rattle.std.proofs.Common.{Option, Some, None, cond, length, refl, sym, ap, ap₂, subst, ◌∙◌, inl, inr, arith}
use Rattle.std.specs.Prelude.{is_some, not, slice_get, slice_set, ◌&&◌}
use Rattle.std.proofs.lemmas.Bool.{false≢true, cases_eq, eq-eqb, ne_eqb}
use Rattle.std.proofs.lemmas.List.{length-set}
use Rattle.linked_pending.specs.Listing.{has, without}
use Rattle.linked_pending.proofs.ListingLemmas.{has_first, has-without}
use Rattle.route_values.specs.declared.key.Key.{Key}
use Rattle.slot_batches.specs.Slots.{Slots}
use Rattle.value_pool.proofs.ListLemmas.{at_set_none}
use Rattle.value_pool.proofs.PoolLemmas.{kept_without, gone_without}
use Rattle.adj_rib_out.specs.declared.chosen.Chosen.{Chosen}
use Rattle.adj_rib_out.specs.Calls.{IsNeeded}
use Rattle.adj_rib_out.specs.Counts.{KeysNoted}
use Rattle.adj_rib_out.specs.Places.{key_at, place_of}
use Rattle.adj_rib_out.specs.Kept.{Parts, IsTable, seen}
use Rattle.adj_rib_out.specs.KeyPlaces.{KeyPlaces}
use Rattle.adj_rib_out.specs.Trimming.{is_kept_by, TrimsPlaces, TrimsKeys}
use Rattle.adj_rib_out.proofs.RowLemmas.{found, stands, none_some}
use Rattle.adj_rib_out.proofs.PartLemmas.{ready_seen}
use Rattle.adj_rib_out.proofs.LoneLemmas.{Stays, Same_place, Lone_place, ChangesLone, lone_of, lone_bare}
use Rattle.adj_rib_out.proofs.LoneLemmas.{changed, changed_kept, changed_rest}
use Rattle.adj_rib_out.proofs.NeededLemmas.{needed, kept_place, not_needed}

-- ---- one noted place after another

pub first_noted : (idle : List ℕ) (place : ℕ) → slice_get idle 0 ≡ Some place → has place idle ≡ true
first_noted [] place is = absurd (none_some is)
first_noted (first ∷ rest) place is = subst (λ (n : ℕ). has n (first ∷ rest) ≡ true) (cc) (has_first first rest)

without_shorter : (item : ℕ) (items : List ℕ) → length (without item items) ≤ length items
without_shorter item [] = omega arith
without_shorter item (first ∷ rest) = by (item == first) (without_shorter item rest)
  where
    by : (test : Bool) → length (without item rest) ≤ length rest
        → length (cond test (without item rest) (first ∷ without item rest)) ≤ length (first ∷ rest)
    by true less = omega arith
    by false less = omega arith

-- a place that is taken off leaves fewer
pub fewer_noted : (idle : List ℕ) (place : ℕ) → slice_get idle 0 ≡ Some place
    → length (without place idle) < length idle
fewer_noted [] place is = absurd (none_some is)
fewer_noted (first ∷ rest) place is = subst (λ (n : ℕ). length (without n (first ∷ rest)) < length (first ∷ rest)) (cc)
    (subst (λ (test : Bool). length (cond test (without first rest) (first ∷ without first rest))
    < length (first ∷ rest)) (sym (eq-eqb first first refl))
    (let less = without_shorter first rest in omega arith))

-- the noted places that were looked at so far
pub record HasTrimmed (kept : ℕ → Bool) (old now : KeyPlaces) : Type 0 where
  pub keys : (place : ℕ) → key_at now.keys place
      ≡ cond (has place old.idle && (not (has place now.idle) && not (kept place))) None (key_at old.keys place)
  pub noted : (place : ℕ) → has place now.idle ≡ true → has place old.idle ≡ true
  pub same_length : length now.keys ≡ length old.keys
  pub used : now.used ≡ old.used

module _ (kept : ℕ → Bool) (old : KeyPlaces) where
  pub none_trimmed : HasTrimmed kept old old
  none_trimmed = record {
    keys = λ place. sym (none_of (has place old.idle) (kept place) (key_at old.keys place));
    noted = λ place there. there;
    same_length = refl;
    used = refl;
  }
    where
      none_of : (noted kept_there : Bool) (key : Option Key)
          → cond (noted && (not noted && not kept_there)) None key ≡ key
      none_of true kept_there key = refl
      none_of false kept_there key = refl

  module _ (now new : KeyPlaces) (trimmed : HasTrimmed kept old now) (place : ℕ) (noted : has place now.idle ≡ true)
      (keys : new.keys ≡ cond (kept place) now.keys (slice_set now.keys place None))
      (idle : new.idle ≡ without place now.idle) (used : new.used ≡ now.used) where
    abbrev Was : ℕ → Option Key → Type 0
    Was i key = key ≡ cond (has i old.idle && (not (has i now.idle) && not (kept i))) None (key_at old.keys i)

    length_if : (test : Bool) → length (cond test now.keys (slice_set now.keys place None)) ≡ length now.keys
    length_if true = refl
    length_if false = length-set now.keys place None

    same_at : (i : ℕ) → i ≢ place → (test : Bool)
        → key_at (cond test now.keys (slice_set now.keys place None)) i ≡ key_at now.keys i
    same_at i other true = refl
    same_at i other false = at_set_none now.keys place i
        ∙ ap (λ (t : Bool). cond t None (key_at now.keys i)) (ne_eqb i place other)

    noted_still : (i : ℕ) → i ≢ place → has i (without place now.idle) ≡ has i now.idle
    noted_still i other = has-without i place now.idle
        ∙ ap (λ (t : Bool). cond t false (has i now.idle)) (ne_eqb i place other)

    other_place : (i : ℕ) → i ≢ place → key_at new.keys i
        ≡ cond (has i old.idle && (not (has i new.idle) && not (kept i))) None (key_at old.keys i)
    other_place i other = ap (λ (ks : List (Option Key)). key_at ks i) keys ∙ same_at i other (kept place)
        ∙ trimmed.keys i ∙ ap (λ (t : Bool). cond (has i old.idle && (not t && not (kept i))) None (key_at old.keys i))
        (sym (ap (has i) idle ∙ noted_still i other))

    this_by : (test : Bool) → key_at now.keys place ≡ key_at old.keys place
        → key_at (cond test now.keys (slice_set now.keys place None)) place
        ≡ cond (true && (not false && not test)) None (key_at old.keys place)
    this_by true same = same
    this_by false same = at_set_none now.keys place place
        ∙ ap (λ (t : Bool). cond t None (key_at now.keys place)) (eq-eqb place place refl)

    not_yet : (test : Bool) (key : Option Key) → cond (test && (not true && not (kept place))) None key ≡ key
    not_yet true key = refl
    not_yet false key = refl

    this_place : key_at new.keys place
        ≡ cond (has place old.idle && (not (has place new.idle) && not (kept place))) None (key_at old.keys place)
    this_place = ap (λ (ks : List (Option Key)). key_at ks place) keys
        ∙ this_by (kept place) (trimmed.keys place
        ∙ ap (λ (t : Bool). cond (has place old.idle && (not t && not (kept place))) None (key_at old.keys place)) noted
        ∙ not_yet (has place old.idle) (key_at old.keys place))
        ∙ sym (ap₂ (λ (a b : Bool). cond (a && (not b && not (kept place))) None (key_at old.keys place))
        (trimmed.noted place noted) (ap (has place) idle ∙ gone_without place now.idle))

    pub next_trimmed : HasTrimmed kept old new
    next_trimmed = record {
      keys = λ i. elim (cases_eq i place) [
        | inl same ↦ subst (λ (n : ℕ). key_at new.keys n
            ≡ cond (has n old.idle && (not (has n new.idle) && not (kept n))) None (key_at old.keys n)) (sym same)
            this_place
        | inr other ↦ other_place i other
      ];
      noted = λ i there. trimmed.noted i (kept_without i place now.idle (sym (ap (has i) idle) ∙ there)).1;
      same_length = ap length keys ∙ length_if (kept place) ∙ trimmed.same_length;
      used = used ∙ trimmed.used;
    }

module _ (routes : List (Option Chosen)) (slots : Slots) (old now : KeyPlaces)
    (trimmed : HasTrimmed (is_kept_by routes slots) old now) (all : now.idle ≡ []) where
  pub all_trimmed : TrimsPlaces routes slots old now
  all_trimmed = record {
    keys = λ place. trimmed.keys place ∙ ap (λ (idle : List ℕ). cond (has place old.idle && (not (has place idle)
        && not (is_kept_by routes slots place))) None (key_at old.keys place)) all;
    same_length = trimmed.same_length;
    idle = all;
    used = trimmed.used;
  }

-- ---- what that does to a table

module _ (p : Parts) (table : IsTable p) (old new : KeyPlaces) (was : old.keys ≡ p.keys)
    (trims : TrimsPlaces p.routes p.slots old new) where
  gone_or_same : (place : ℕ) (noted kept : Bool) → is_kept_by p.routes p.slots place ≡ kept
      → key_at new.keys place ≡ cond (noted && not kept) None (key_at p.keys place) → Stays p new.keys p.slots place
  gone_or_same place false kept is here = Same_place here refl refl
  gone_or_same place true true is here = Same_place here refl refl
  gone_or_same place true false is here =
      let lone = lone_of p place is in
      let bare = lone_bare p table place lone in
      Lone_place lone (record {
        now = bare.now;
        sent = bare.sent;
        parity_is = λ key there. absurd (none_some (sym here ∙ there));
      })

  -- whether the key of a place goes
  abbrev goes : ℕ → Bool
  goes place = has place old.idle && not (is_kept_by p.routes p.slots place)

  key_is : (place : ℕ) → key_at new.keys place ≡ cond (goes place) None (key_at p.keys place)
  key_is place = trims.keys place ∙ ap (λ (ks : List (Option Key)). cond (goes place) None (key_at ks place)) was

  key_was : (place : ℕ) (key : Key) (gone : Bool) → key_at new.keys place ≡ cond gone None (key_at p.keys place)
      → key_at new.keys place ≡ Some key → key_at p.keys place ≡ Some key
  key_was place key true is here = absurd (none_some (sym is ∙ here))
  key_was place key false is here = sym is ∙ here

  stood : (place : ℕ) (key : Key) → key_at new.keys place ≡ Some key → key_at p.keys place ≡ Some key
  stood place key here = key_was place key (goes place) (key_is place) here

  pub changes : ChangesLone p new.keys p.routes p.slots
  changes =
      let same = trims.same_length ∙ ap length was in
      record {
        once = λ i j key at_i at_j. table.once i j key (stood i key at_i) (stood j key at_j);
        stays = λ place. gone_or_same place (has place old.idle) (is_kept_by p.routes p.slots place) refl
            (key_is place);
        given = λ place. refl;
        left = refl;
        even = refl;
        odd = refl;
        room = λ place key here. table.room place key (stood place key here);
        nows_length = table.nows_length ∙ sym same;
        sents_length = table.sents_length ∙ sym same;
        routes_length = table.routes_length ∙ sym same;
      }

  abbrev pub trimmed : Parts
  trimmed = changed p table new.keys p.routes p.slots changes

  pub trimmed_kept : IsTable trimmed
  trimmed_kept = changed_kept p table new.keys p.routes p.slots changes

  module _ (noted : KeysNoted p old.idle) where
    -- a key that still stands is kept
    kept_by : (place : ℕ) (key : Key) → key_at new.keys place ≡ Some key → (kept : Bool)
        → is_kept_by p.routes p.slots place ≡ kept → kept ≡ true
    kept_by place key here true is = refl
    kept_by place key here false is = absurd (none_some (sym (key_is place
        ∙ ap₂ (λ (a b : Bool). cond (a && not b) None (key_at p.keys place))
        (noted place key (stood place key here) is) is) ∙ here))

    pub none_noted : KeysNoted trimmed new.idle
    none_noted place key here is = absurd (false≢true (sym is
        ∙ kept_by place key here (is_kept_by p.routes p.slots place) refl))

    still : (place : ℕ) → is_kept_by p.routes p.slots place ≡ true → key_at new.keys place ≡ key_at p.keys place
    still place kept = key_is place
        ∙ by (has place old.idle) (is_kept_by p.routes p.slots place) kept
      where
        by : (a b : Bool) → b ≡ true → cond (a && not b) None (key_at p.keys place) ≡ key_at p.keys place
        by true true is = refl
        by false true is = refl
        by a false is = absurd (false≢true is)

    is_needed : (key : Key) (o : Option ℕ) → place_of new.keys key ≡ o → is_some o ≡ true → IsNeeded (seen p) key
    is_needed key None none some = absurd (false≢true some)
    is_needed key (Some place) here some =
        let at = found new.keys key place here in
        needed p table key place (stands p.keys key place table.once (stood place key at))
        (kept_by place key at (is_kept_by p.routes p.slots place) refl)

    stays_ready : (key : Key) (o : Option ℕ) → place_of p.keys key ≡ o → IsNeeded (seen p) key
        → is_some (place_of new.keys key) ≡ true
    stays_ready key None none need = absurd (not_needed p table key none need)
    stays_ready key (Some place) here need = ap is_some (stands new.keys key place changes.once
        (still place (kept_place p table key place here need) ∙ found p.keys key place here))

    pub trims_keys : TrimsKeys (seen p) (seen trimmed)
    trims_keys = record {
      keys = λ key. (
        λ ready. is_needed key (place_of new.keys key) refl (sym (ready_seen trimmed key) ∙ ready),
        λ need. ready_seen trimmed key ∙ stays_ready key (place_of p.keys key) refl need,
      );
      rest = changed_rest p table new.keys p.routes p.slots changes;
    }
