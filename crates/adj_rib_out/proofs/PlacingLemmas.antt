-- A place is made, and a key that stands nowhere is put at a vacant one.
use Rattle.std.proofs.Common.{◌≡◌, ◌==◌, ℕ, ◌+◌, ◌*◌, ◌<◌, ◌≤◌, Bool, true, List, [], ◌∷◌, ◌++◌}
use Rattle.std.proofs.Common.{Option, Some, None, zero, suc, cond, length, max, get_or, refl, sym, ap, ap₂, subst, ◌∙◌}
use Rattle.std.proofs.Common.{arith, length-append}
use Rattle.std.specs.Prelude.{is_some, is_none, not, nat_lt, slice_set, ◌&&◌, IsSome, Result, Ok, Err, OnErr}
use Rattle.std.proofs.lemmas.Bool.{eq-eqb}
use Rattle.std.proofs.lemmas.List.{length-set}
use Rattle.linked_pending.specs.Links.{link}
use Rattle.route_values.specs.declared.key.Key.{Key}
use Rattle.slot_batches.specs.Left.{value_left}
use Rattle.slot_batches.specs.Slots.{Slots, is_idle}
use Rattle.slot_batches.specs.declared.slots.Item.{Item as SlotItem}
use Rattle.value_pool.specs.Pool.{noted}
use Rattle.adj_rib_out.specs.declared.chosen.Chosen.{Chosen}
use Rattle.adj_rib_out.specs.Places.{key_at, place_of}
use Rattle.adj_rib_out.specs.Kept.{chosen_at, parity}
use Rattle.adj_rib_out.specs.KeyPlaces.{KeyPlaces, AddsKey}
use Rattle.adj_rib_out.specs.Placing.{HaveOneLength, Widens, PutsKey}
use Rattle.adj_rib_out.proofs.KeepLemmas.{set_at}
use Rattle.adj_rib_out.proofs.RowLemmas.{found, stands_from, none_some}

-- ---- a place is made

-- behind a list there stands the stand-in as well
default_push : {X : Type 0} (d : X) (xs : List X) (i : ℕ) → get_or (xs ++ d ∷ []) i d ≡ get_or xs i d
default_push d [] zero = refl
default_push d [] (suc i) = refl
default_push d (x ∷ xs) zero = refl
default_push d (x ∷ xs) (suc i) = default_push d xs i

module _ (old new : KeyPlaces) (old_routes new_routes : List (Option Chosen)) (old_slots new_slots : Slots)
    (lengths : HaveOneLength old.keys old_routes old_slots) where
  pub none_made : new ≡ old → new_routes ≡ old_routes → new_slots ≡ old_slots
      → Widens old new old_routes new_routes old_slots new_slots
  none_made keys routes slots = subst (λ (k : KeyPlaces). Widens old k old_routes new_routes old_slots new_slots)
      (sym keys) (subst (λ (r : List (Option Chosen)). Widens old old old_routes r old_slots new_slots) (sym routes)
      (subst (λ (s : Slots). Widens old old old_routes old_routes old_slots s) (sym slots) (record {
        keys = λ place. refl;
        idle = refl;
        routes = λ place. refl;
        nows = λ place. refl;
        sents = λ place. refl;
        slots = record { left = refl; even = refl; odd = refl; room = omega arith };
        lengths = lengths;
      })))

  pub one_made : new ≡ record old { keys = old.keys ++ None ∷ [] } → new_routes ≡ old_routes ++ None ∷ []
      → new_slots ≡ record old_slots {
        room = max old_slots.room (2 * length old_slots.nows + 4);
        nows = old_slots.nows ++ 0 ∷ [];
        sents = old_slots.sents ++ 0 ∷ [];
      } → Widens old new old_routes new_routes old_slots new_slots
  one_made keys routes slots =
      let nows_more = length-append old_slots.nows (0 ∷ []) in
      let sents_more = length-append old_slots.sents (0 ∷ []) in
      let keys_more = length-append old.keys (None ∷ []) in
      let routes_more = length-append old_routes (None ∷ []) in
      let nows_new = ap (λ (s : Slots). length s.nows) slots in
      let sents_new = ap (λ (s : Slots). length s.sents) slots in
      let keys_new = ap (λ (k : KeyPlaces). length k.keys) keys in
      let routes_new = ap length routes in
      let nows_old = lengths.nows in
      let sents_old = lengths.sents in
      let routes_old = lengths.routes in
      record {
        keys = λ place. ap (λ (k : KeyPlaces). key_at k.keys place) keys ∙ default_push None old.keys place;
        idle = ap (λ (k : KeyPlaces). k.idle) keys;
        routes = λ place. ap (λ (r : List (Option Chosen)). chosen_at r place) routes
            ∙ default_push None old_routes place;
        nows = λ place. ap (λ (s : Slots). link s.nows place) slots ∙ default_push 0 old_slots.nows place;
        sents = λ place. ap (λ (s : Slots). link s.sents place) slots ∙ default_push 0 old_slots.sents place;
        slots = record {
          left = ap (λ (s : Slots). s.left) slots;
          even = ap (λ (s : Slots). s.even_again) slots;
          odd = ap (λ (s : Slots). s.odd_again) slots;
          room = subst (λ n. old_slots.room ≤ n) (sym (ap (λ (s : Slots). s.room) slots)) (omega arith);
        };
        lengths = record { nows = omega arith; sents = omega arith; routes = omega arith };
      }

-- a key that stands nowhere stands nowhere in keys that have the same at each place
pub nowhere_too : (keys more : List (Option Key)) (key : Key) → ((place : ℕ) → key_at more place ≡ key_at keys place)
    → place_of keys key ≡ None → place_of more key ≡ None
nowhere_too keys more key same none = by (place_of more key) refl
  where
    by : (o : Option ℕ) → place_of more key ≡ o → o ≡ None
    by None is = refl
    by (Some place) is =
        let there = stands_from keys key 0 place (sym (same place) ∙ found more key place is) in
        absurd (none_some (sym none ∙ there.1))

-- ---- a key is put

module _ (old mid more new : KeyPlaces) (old_routes routes : List (Option Chosen)) (old_slots slots new_slots : Slots)
    (widens : Widens old mid old_routes routes old_slots slots) (key : Key) (place : ℕ)
    (adds : AddsKey mid more place key) where
  pub slot_within : place < length slots.nows
  slot_within = subst (λ n. place < n) (sym widens.lengths.nows) adds.within

  vacant_before : key_at old.keys place ≡ None
  vacant_before = sym (widens.keys place) ∙ adds.free

  pub slot_idle : ((i : ℕ) → key_at old.keys i ≡ None → is_idle old_slots i ≡ true) → is_idle slots place ≡ true
  slot_idle idle = ap₂ (λ (n m : ℕ). not (nat_lt 1 n) && not (nat_lt 1 m) && is_none (value_left slots.left place))
      (widens.nows place) (widens.sents place)
      ∙ ap (λ (l : List SlotItem). not (nat_lt 1 (link old_slots.nows place))
      && not (nat_lt 1 (link old_slots.sents place)) && is_none (value_left l place)) widens.slots.left
      ∙ idle place vacant_before

  key_more : (i : ℕ) → key_at more.keys i ≡ cond (i == place) (Some key) (key_at mid.keys i)
  key_more i = ap (λ (ks : List (Option Key)). key_at ks i) adds.keys
      ∙ set_at mid.keys place i (Some key) None adds.within

  pub key_stands : IsSome (key_at more.keys place)
  key_stands = ap is_some (key_more place ∙ ap (λ (t : Bool). cond t (Some key) (key_at mid.keys place))
      (eq-eqb place place refl))

  pub puts_key : (number : ℕ) → number ≡ parity key → new ≡ record more { idle = noted place more.idle }
      → new_slots ≡ record slots {
        nows = slice_set slots.nows place number;
        sents = slice_set slots.sents place number;
      } → PutsKey old new old_routes routes old_slots new_slots key
  puts_key number is keys claims =
      let nows_set = length-set slots.nows place number in
      let sents_set = length-set slots.sents place number in
      let keys_set = length-set mid.keys place (Some key) in
      let nows_new = ap (λ (s : Slots). length s.nows) claims in
      let sents_new = ap (λ (s : Slots). length s.sents) claims in
      let keys_new = ap (λ (k : KeyPlaces). length k.keys) keys in
      let keys_more = ap length adds.keys in
      let nows_old = widens.lengths.nows in
      let sents_old = widens.lengths.sents in
      let routes_old = widens.lengths.routes in
      let place_in = adds.within in
      record {
        place = place;
        free = vacant_before;
        keys = λ i. ap (λ (k : KeyPlaces). key_at k.keys i) keys ∙ key_more i
            ∙ ap (cond (i == place) (Some key)) (widens.keys i);
        idle = ap (λ (k : KeyPlaces). k.idle) keys ∙ ap (noted place) (adds.idle ∙ widens.idle);
        routes = widens.routes;
        nows = λ i. ap (λ (s : Slots). link s.nows i) claims ∙ set_at slots.nows place i number 0 slot_within
            ∙ ap₂ (λ (n m : ℕ). cond (i == place) n m) is (widens.nows i);
        sents = λ i. ap (λ (s : Slots). link s.sents i) claims
            ∙ set_at slots.sents place i number 0 (omega arith)
            ∙ ap₂ (λ (n m : ℕ). cond (i == place) n m) is (widens.sents i);
        slots = record {
          left = ap (λ (s : Slots). s.left) claims ∙ widens.slots.left;
          even = ap (λ (s : Slots). s.even_again) claims ∙ widens.slots.even;
          odd = ap (λ (s : Slots). s.odd_again) claims ∙ widens.slots.odd;
          room = subst (λ n. old_slots.room ≤ n) (sym (ap (λ (s : Slots). s.room) claims)) widens.slots.room;
        };
        lengths = record { nows = omega arith; sents = omega arith; routes = omega arith };
      }

pub on_err : {X E P : Type 0} (result : Result X E) → P → OnErr result P
on_err (Ok x) holds = tt
on_err (Err e) holds = holds

-- where the key found no place there may be one more
pub made_alone : (old mid new : KeyPlaces) (old_routes routes : List (Option Chosen)) (old_slots slots : Slots)
    → Widens old mid old_routes routes old_slots slots → new ≡ mid → Widens old new old_routes routes old_slots slots
made_alone old mid new old_routes routes old_slots slots widens same =
    subst (λ (k : KeyPlaces). Widens old k old_routes routes old_slots slots) (sym same) widens
