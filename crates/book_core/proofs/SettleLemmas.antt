-- What is planned for all slots, and done to all.
use Rattle.std.proofs.Common.{◌≡◌, ℕ, ◌<◌, ◌≤◌, ◌+◌, Bool, true, false, List, [], ◌∷◌, ◌++◌, length, Some, None, refl}
use Rattle.std.proofs.Common.{sym, ap, ◌∙◌, subst, arith, inl, inr, zero, suc}
use Rattle.std.proofs.lemmas.Bool.{ltb-false, ltb-true}
use Rattle.std.proofs.lemmas.List.{length-append, length-set}
use Rattle.std.proofs.lemmas.Option.{same_Some, slice_get_past, slice_get_within, slice_get-get_or}
use Rattle.std.specs.Prelude.{◌⊎◌, nat_lt, IfSome, Option, get_or, slice_get, slice_set}
use Rattle.std.specs.List.{AllByRecursion}
use Rattle.config_model.specs.declared.sections.Neighbor.{Neighbor}
use Rattle.peer_history.specs.Steps.{Step}
use Rattle.peer_book.specs.Stands as of_peer
use Rattle.book_history.specs.declared.outcomes.Reload.{Reload}
use Rattle.book_history.specs.declared.outcomes.Reload.TheVariants as reload
use Rattle.book_core.specs.declared.changing.Change.{Change}
use Rattle.book_core.specs.declared.peering.Peering.{Peering}
use Rattle.book_core.specs.Changing.{exchanged_by, IsPlanned, Settles}
use Rattle.book_core.specs.Exchanging.{section_at}
use Rattle.book_core.specs.Counting.{AreTold}
use Rattle.book_core.specs.Moves.{Moves, MovesAll, MovesBelow, nothing}
use Rattle.book_core.specs.Settling.{ArePlannedTo, Reloads, SettlesAll, SettlesTo}
use Rattle.book_core.proofs.BelowLemmas.{at_or_below, changed_below, not_above, not_below}
use Rattle.book_core.proofs.HelperLemmas.{get_set_other, get_set_same}
use Rattle.book_core.proofs.KeepLemmas.{kept_then}

-- ---- one more at the end of a list

module _ {A : Type 0} where
  pub get_last : (xs : List A) (x : A) → slice_get (xs ++ x ∷ []) (length xs) ≡ Some x
  get_last [] x = refl
  get_last (y ∷ xs) x = get_last xs x

  pub get_before : (xs : List A) (x : A) (n : ℕ) → n < length xs → slice_get (xs ++ x ∷ []) n ≡ slice_get xs n
  get_before [] x n within = absurd (omega (arith, within))
  get_before (y ∷ xs) x zero within = refl
  get_before (y ∷ xs) x (suc n) within = get_before xs x n (omega (arith, within))

-- ---- sections by their numbers

pub got_all : {A : Type 0} (holds : A → Type 0) (xs : List A) (place : Option ℕ) → AllByRecursion holds xs
    → IfSome (section_at xs place) holds
got_all holds xs None all = tt
got_all holds [] (Some n) all = tt
got_all holds (x ∷ xs) (Some zero) all = all.0
got_all holds (x ∷ xs) (Some (suc n)) all = got_all holds xs (Some n) all.1

-- ---- planning

pub none_planned : (after : ℕ → Option Neighbor) (peers : List Peering) → ArePlannedTo 0 after peers []
none_planned after peers = record {
  count = refl;
  each = λ n is change there at. absurd (let no_way : ◌≡◌ {A = Option Change} None (Some change) = at in cc);
}

pub planned_next : (after : ℕ → Option Neighbor) (old : List Peering) (n : ℕ) (new : Peering) (changes : List Change)
    (change : Change) → IsPlanned new (after n) change → ArePlannedTo n after old changes
    → ArePlannedTo (n + 1) after (slice_set old n new) (changes ++ change ∷ [])
planned_next after old n new changes change plan planned = record {
  count = length-append changes (change ∷ []) ∙ ap (λ k. k + 1) planned.count;
  each = λ m is one there at.
      let long = length-append changes (change ∷ []) in
      let count = planned.count in
      let inside = slice_get_within (changes ++ change ∷ []) m one at in
      elim (at_or_below m n (omega (arith, inside, long, count))) [
        | inl same ↦
            let is_new : new ≡ is =
            get_set_same old n new is (ap (slice_get (slice_set old n new)) (sym same) ∙ there) in
            let is_one : change ≡ one =
            same_Some _ _ (sym (get_last changes change) ∙ ap (slice_get (changes ++ change ∷ [])) (count ∙ sym same)
            ∙ at) in
            subst (λ k. IsPlanned is (after k) one) (sym same)
            (subst (λ p. IsPlanned p (after n) one) is_new (subst (λ c. IsPlanned new (after n) c) is_one plan))
        | inr under ↦
            planned.each m is one (sym (get_set_other old n m new (not_below m n under)) ∙ there)
            (sym (get_before changes change m (omega (arith, under, count))) ∙ at)
      ];
}

-- nothing came to slots that are as they were
pub all_still : (old : List Peering) → MovesAll nothing old old
all_still old = record {
  count = refl;
  below = λ n was is within there here.
      let same : was ≡ is = same_Some was is (sym there ∙ here) in
      subst (λ p. Moves [] was p) same (record { slot = λ steps stands. stands; names = refl });
  above = λ n past. refl;
}

-- and so where it came to the first ones alone
pub first_moved : (place : ℕ) (old new : List Peering) → MovesBelow place nothing old new → MovesAll nothing old new
first_moved place old new moved = record {
  count = moved.count;
  below = λ n was is within there here.
      elim (below_or_past n place) [
        | inl under ↦ moved.below n was is under there here
        | inr past ↦
            let same : was ≡ is = same_Some was is (sym there ∙ sym (moved.above n past) ∙ here) in
            subst (λ p. Moves [] was p) same (record { slot = λ steps stands. stands; names = refl })
      ];
  above = λ n past. elim (below_or_past n place) [
    | inl under ↦ past_end n past moved.count
    | inr beyond ↦ moved.above n beyond
  ];
}
  where
    below_or_past : (n k : ℕ) → (n < k) ⊎ (k ≤ n)
    below_or_past n k = by_test (nat_lt n k) refl
      where
        by_test : (so : Bool) → nat_lt n k ≡ so → (n < k) ⊎ (k ≤ n)
        by_test true less = inl (ltb-true n k less)
        by_test false past = inr (ltb-false n k past)

    past_end : (n : ℕ) → length old ≤ n → length new ≡ length old → slice_get new n ≡ slice_get old n
    past_end n past count =
        slice_get_past new n (subst (λ k. k ≤ n) (sym count) past) ∙ sym (slice_get_past old n past)

-- ---- doing what is planned

pub none_settled : (after : ℕ → Option Neighbor) (start : List Peering) (planned : List Change)
    → SettlesTo 0 after start planned start planned
none_settled after start planned = record {
  count = refl;
  changes_count = refl;
  below = λ n was is within there here. absurd (omega (arith, within));
  above = λ n past. refl;
  left = λ n past. refl;
}

pub settled_next : (after : ℕ → Option Neighbor) (start peers : List Peering) (planned changes : List Change) (n : ℕ)
    (was new : Peering) (left : Change) → slice_get peers n ≡ Some was → Settles (after n) was new
    → SettlesTo n after start planned peers changes
    → SettlesTo (n + 1) after start planned (slice_set peers n new) (slice_set changes n left)
settled_next after start peers planned changes n was new left found settles settled =
    let from_start : slice_get start n ≡ Some was = sym (settled.above n (omega arith)) ∙ found in
    record {
      count = length-set peers n new ∙ settled.count;
      changes_count = length-set changes n left ∙ settled.changes_count;
      below = changed_below (λ k. Settles (after k)) start peers n was new from_start settles settled.below;
      above = λ m past. get_set_other peers n m new (not_above m n past) ∙ settled.above m (omega (arith, past));
      left = λ m past. get_set_other changes n m left (not_above m n past) ∙ settled.left m (omega (arith, past));
    }

pub all_settled : (after : ℕ → Option Neighbor) (start peers : List Peering) (planned changes : List Change) (n : ℕ)
    → n ≡ length start → SettlesTo n after start planned peers changes → SettlesAll after start peers
all_settled after start peers planned changes n whole settled = record {
  count = settled.count;
  each = λ m was is there here.
      settled.below m was is (subst (λ k. m < k) (sym whole) (slice_get_within start m was there)) there here;
}

-- how many slots there are behind a reload
pub reloads_count : (after : ℕ → Option Neighbor) (old new : List Peering) (given : Reload)
    → Reloads after old new given → length new ≡ length old
reloads_count after old new reload.Ok done = done.0.count
reloads_count after old new (reload.Full nodes) full = full.0.count
reloads_count after old new reload.NoMemory none = none.count

-- ---- what stood ready before

settles_then : (after : Option Neighbor) (a b c : Peering) → Moves [] a b → Settles after b c → Settles after a c
settles_then after a b c move settles = record {
  slot = λ steps closed stands.
      let mid = move.slot steps stands in
      let same = mid.settings ∙ sym stands.settings in
      subst (λ own. of_peer.Stands (exchanged_by own after ++ steps) c.slot) same (settles.slot steps closed mid);
  names = λ steps stands empty.
      let mid = move.slot steps stands in
      settles.names steps mid (λ none. move.names ∙ empty (stands.settings ∙ sym mid.settings ∙ none));
}

module _ (after : ℕ → Option Neighbor) (a b : List Peering) (moved : MovesAll nothing a b) where
  -- the slot that was there in between
  between : (n : ℕ) (was : Peering) → slice_get a n ≡ Some was → slice_get b n ≡ Some (get_or b n was)
  between n was there =
      slice_get-get_or b n was (subst (λ m. n < m) (sym moved.count) (slice_get_within a n was there))

  moved_at : (n : ℕ) (was : Peering) (there : slice_get a n ≡ Some was) → Moves [] was (get_or b n was)
  moved_at n was there =
      moved.below n was (get_or b n was) (slice_get_within a n was there) there (between n was there)

  settled_then : (c : List Peering) → SettlesAll after b c → SettlesAll after a c
  settled_then c settled = record {
    count = settled.count ∙ moved.count;
    each = λ n was is there here.
        settles_then (after n) was (get_or b n was) is (moved_at n was there)
        (settled.each n (get_or b n was) is (between n was there) here);
  }

  told_then : (steps : ℕ → List Step) → AreTold steps a → AreTold steps b
  told_then steps told n is here =
      let within : n < length a = subst (λ m. n < m) moved.count (slice_get_within b n is here) in
      let was = get_or a n is in
      let found : slice_get a n ≡ Some was = slice_get-get_or a n is within in
      let before = told n was found in
      let move : Moves [] was is = moved.below n was is within found here in
      record { legal = before.legal; closed = before.closed; stands = move.slot (steps n) before.stands }

  pub reloads_then : (c : List Peering) (given : Reload) → Reloads after b c given → Reloads after a c given
  reloads_then c reload.Ok done = (
    settled_then c done.0,
    λ steps told. done.1 steps (told_then steps told),
  )
  reloads_then c (reload.Full nodes) full = (
    kept_then a b c nothing moved full.0,
    full.1,
    λ steps told. full.2 steps (told_then steps told),
  )
  reloads_then c reload.NoMemory none = kept_then a b c nothing moved none

-- ---- what is taken out behind it

module _ (after : ℕ → Option Neighbor) (a b c : List Peering) (settled : SettlesAll after a b)
    (moved : MovesAll nothing b c) where
  pub then_moved : SettlesAll after a c
  then_moved = record {
    count = moved.count ∙ settled.count;
    each = λ n was is there here.
        let within : n < length b =
        subst (λ m. n < m) (sym settled.count) (slice_get_within a n was there) in
        let mid = get_or b n is in
        let found : slice_get b n ≡ Some mid = slice_get-get_or b n is within in
        let one = settled.each n was mid there found in
        let move : Moves [] mid is = moved.below n mid is within found here in
        record {
          slot = λ steps closed stands.
              move.slot (exchanged_by was.slot.settings (after n) ++ steps) (one.slot steps closed stands);
          names = λ steps stands empty. move.names ∙ one.names steps stands empty;
        };
  }
