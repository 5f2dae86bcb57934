-- Slots show on a session what their keys were given, one place after another.
use Rattle.std.proofs.Common.{◌≡◌, ◌==◌, ℕ, ◌+◌, ◌*◌, ◌<◌, ◌≤◌, ◌%◌, true, false, List, cond}
use Rattle.std.proofs.Common.{Option, Some, None, length, refl, sym, ap, subst, ◌∙◌, arith}
use Rattle.std.specs.Prelude.{nat_lt, slice_set}
use Rattle.std.proofs.lemmas.Bool.{eqb-true, eqb-false, ne_eqb}
use Rattle.std.proofs.lemmas.Grind.{common_steps}
use Rattle.std.proofs.lemmas.List.{length-set}
use Rattle.linked_pending.specs.Links.{link}
use Rattle.route_values.specs.declared.key.Key.{Key}
use Rattle.route_values.specs.Caps.{Caps}
use Rattle.slot_batches.specs.Slots.{Slots}
use Rattle.adj_rib_out.specs.declared.chosen.Chosen.{Chosen}
use Rattle.adj_rib_out.specs.Places.{key_at}
use Rattle.adj_rib_out.specs.Kept.{Parts, Values, IsTable, parity, shown_number, chosen_at}
use Rattle.adj_rib_out.specs.Shown.{CanShow, HasShown, show_by, place_shown}
use Rattle.adj_rib_out.proofs.RowLemmas.{none_some, some_is, within}
use Rattle.adj_rib_out.proofs.NumberLemmas.{parity_small, shown_is, shown_below}
use Rattle.adj_rib_out.proofs.KeepLemmas.{set_at}
use Rattle.adj_rib_out.proofs.RestartLemmas.{IsFresh}

pub below_next : (i place : ℕ) → i < place + 1 → (i == place) ≡ false → i < place
below_next i place below differs = let other = eqb-false i place differs in
    elim (nat_lt i place) as (λ t. nat_lt i place ≡ t → i < place) [
      | true ↦ λ test. grind (arith, common_steps)
      | false ↦ λ test. let past : place ≤ i = grind (arith, common_steps) in
          absurd (other (omega arith))
    ] refl

module _ (keys : List (Option Key)) (routes : List (Option Chosen)) (values : Values) (caps : Caps) where
  -- ---- the slot of a place

  module _ (slots : Slots) (can : CanShow keys values slots) (place : ℕ) (key : Key)
      (stands : key_at keys place ≡ Some key) (number : ℕ)
      (is : number ≡ shown_number (Some caps) values key (chosen_at routes place)) where
    pub slot_within : place < length slots.nows
    slot_within = subst (λ n. place < n) (sym can.same_length) (within keys key place stands)

    pub number_below : number < slots.room
    number_below =
        let below = shown_below values can.kept (Some caps) key (chosen_at routes place) in
        let room = can.room place key stands in
        subst (λ n. n < slots.room) (sym is) (omega arith)

    pub number_parity : number % 2 ≡ link slots.nows place % 2
    number_parity = ap (λ n. n % 2) is ∙ (shown_is values can.kept (Some caps) key (chosen_at routes place)).parity_is
        ∙ sym (can.parity_is place key stands)

    pub place_is : record slots { nows = slice_set slots.nows place number }
        ≡ place_shown keys routes values caps slots place
    place_is = ap (λ (n : ℕ). record slots { nows = slice_set slots.nows place n }) is
        ∙ ap (λ (o : Option Key). show_by o routes values caps slots place) (sym stands)

  -- ---- one place after another

  pub none_shown : (slots : Slots) → CanShow keys values slots → HasShown keys routes values caps slots slots 0
  none_shown slots can = record {
    can = can;
    rest = refl;
    shown = λ i k below here. absurd (omega arith);
    free = λ i none. refl;
  }

  module _ (old slots : Slots) (place : ℕ) (below : place < length keys)
      (shown : HasShown keys routes values caps old slots place) where
    free_next : key_at keys place ≡ None → HasShown keys routes values caps old slots (place + 1)
    free_next none = record {
      can = shown.can;
      rest = shown.rest;
      shown = λ i k before here. shown.shown i k (below_next i place before (ne_eqb i place (λ same.
          none_some (sym none ∙ subst (λ (j : ℕ). key_at keys j ≡ Some k) same here)))) here;
      free = shown.free;
    }

    module _ (key : Key) (stands : key_at keys place ≡ Some key) where
      abbrev number : ℕ
      number = shown_number (Some caps) values key (chosen_at routes place)

      abbrev next : Slots
      next = record slots { nows = slice_set slots.nows place number }

      now_is : (i : ℕ) → link next.nows i ≡ cond (i == place) number (link slots.nows i)
      now_is i = set_at slots.nows place i number 0 (subst (λ n. place < n) (sym shown.can.same_length) below)

      same_key_at : (i : ℕ) (k : Key) → (i == place) ≡ true → key_at keys i ≡ Some k → key ≡ k
      same_key_at i k same here = some_is (sym stands
          ∙ subst (λ (j : ℕ). key_at keys j ≡ Some k) (eqb-true i place same) here)

      parity_next : (i : ℕ) (k : Key) → key_at keys i ≡ Some k
          → cond (i == place) number (link slots.nows i) % 2 ≡ parity k
      parity_next i k here = elim (i == place) as (λ t. (i == place) ≡ t
          → cond t number (link slots.nows i) % 2 ≡ parity k) [
            | true ↦ λ same. (shown_is values shown.can.kept (Some caps) key (chosen_at routes place)).parity_is
                ∙ ap parity (same_key_at i k same here)
            | false ↦ λ differs. shown.can.parity_is i k here
          ] refl

      shown_next : (i : ℕ) (k : Key) → i < place + 1 → key_at keys i ≡ Some k
          → cond (i == place) number (link slots.nows i) ≡ shown_number (Some caps) values k (chosen_at routes i)
      shown_next i k before here = elim (i == place) as (λ t. (i == place) ≡ t
          → cond t number (link slots.nows i) ≡ shown_number (Some caps) values k (chosen_at routes i)) [
            | true ↦ λ same. ap (λ (j : Key). shown_number (Some caps) values j (chosen_at routes place))
                (same_key_at i k same here)
                ∙ ap (λ (j : ℕ). shown_number (Some caps) values k (chosen_at routes j)) (sym (eqb-true i place same))
            | false ↦ λ differs. shown.shown i k (below_next i place before differs) here
          ] refl

      free_still : (i : ℕ) → key_at keys i ≡ None
          → cond (i == place) number (link slots.nows i) ≡ link old.nows i
      free_still i none = elim (i == place) as (λ t. (i == place) ≡ t
          → cond t number (link slots.nows i) ≡ link old.nows i) [
            | true ↦ λ same. absurd (none_some (sym none
                ∙ subst (λ (j : ℕ). key_at keys j ≡ Some key) (sym (eqb-true i place same)) stands))
            | false ↦ λ differs. shown.free i none
          ] refl

      key_next : HasShown keys routes values caps old next (place + 1)
      key_next = record {
        can = record {
          kept = shown.can.kept;
          room = shown.can.room;
          same_length = length-set _ _ _ ∙ shown.can.same_length;
          parity_is = λ i k here. ap (λ n. n % 2) (now_is i) ∙ parity_next i k here;
        };
        rest = ap (λ (s : Slots). record s { nows = slice_set slots.nows place number }) shown.rest;
        shown = λ i k before here. now_is i ∙ shown_next i k before here;
        free = λ i none. now_is i ∙ free_still i none;
      }

    next_of : (o : Option Key) → key_at keys place ≡ o
        → HasShown keys routes values caps old (show_by o routes values caps slots place) (place + 1)
    next_of None none = free_next none
    next_of (Some key) stands = key_next key stands

    pub next_shown : (new : Slots) → new ≡ place_shown keys routes values caps slots place
        → HasShown keys routes values caps old new (place + 1)
    next_shown new is = subst (λ (s : Slots). HasShown keys routes values caps old s (place + 1)) (sym is)
        (next_of (key_at keys place) refl)

  pub all_shown : (old new : Slots) (places : ℕ) → length keys ≤ places
      → HasShown keys routes values caps old new places → HasShown keys routes values caps old new (length keys)
  all_shown old new places through shown = record {
    can = shown.can;
    rest = shown.rest;
    shown = λ i k before here. shown.shown i k (omega arith) here;
    free = shown.free;
  }

-- ---- a session stands anew

module _ (p : Parts) (table : IsTable p) (down : Slots) (fresh_slots : IsFresh p None down) where
  pub can_show : (ks : List (Option Key)) → ks ≡ p.keys → CanShow ks p.values down
  can_show ks is = subst (λ (k : List (Option Key)). CanShow k p.values down) (sym is) (record {
    kept = table.kept;
    room = λ i key here. subst (λ n. 2 * length p.values.wires + 1 < n) (sym fresh_slots.room) (table.room i key here);
    same_length = fresh_slots.nows_length;
    parity_is = λ i key here. let small = parity_small key in
        let now : link down.nows i % 2 ≡ parity key % 2 = ap (λ n. n % 2) (fresh_slots.shown i key here) in
        now ∙ (omega arith);
  })

  module _ (caps : Caps) (up : Slots) where
    is_fresh : HasShown p.keys p.routes p.values caps down up (length p.keys) → IsFresh p (Some caps) up
    is_fresh shown = record {
      nows_length = shown.can.same_length;
      sents_length = ap (λ (s : Slots). length s.sents) shown.rest ∙ fresh_slots.sents_length;
      room = ap (λ (s : Slots). s.room) shown.rest ∙ fresh_slots.room;
      left = ap (λ (s : Slots). s.left) shown.rest ∙ fresh_slots.left;
      even = ap (λ (s : Slots). s.even_again) shown.rest ∙ fresh_slots.even;
      odd = ap (λ (s : Slots). s.odd_again) shown.rest ∙ fresh_slots.odd;
      sent = λ i. subst (λ (l : List ℕ). link l i < 2) (sym (ap (λ (s : Slots). s.sents) shown.rest))
          (fresh_slots.sent i);
      parity_is = λ i key here. ap (λ (s : Slots). link s.sents i % 2) shown.rest ∙ fresh_slots.parity_is i key here;
      free = λ i none. subst (λ n. n < 2) (sym (shown.free i none)) (fresh_slots.free i none);
      same = λ i none. ap (λ (s : Slots). link s.sents i) shown.rest ∙ fresh_slots.same i none
          ∙ sym (shown.free i none);
      shown = λ i key here. shown.shown i key (within p.keys key i here) here;
    }

    pub fresh_up : (ks : List (Option Key)) (rs : List (Option Chosen)) → ks ≡ p.keys → rs ≡ p.routes
        → HasShown ks rs p.values caps down up (length ks) → IsFresh p (Some caps) up
    fresh_up ks rs keys_are routes_are shown = is_fresh (subst (λ (k : List (Option Key)).
        HasShown k p.routes p.values caps down up (length k)) keys_are (subst (λ (r : List (Option Chosen)).
        HasShown ks r p.values caps down up (length ks)) routes_are shown))
