-- Each key that has no route is noted, one place after another.
use Rattle.std.proofs.Common.{◌≡◌, ◌==◌, ℕ, ◌+◌, ◌<◌, ◌≤◌, Bool, true, false, List, cond, Option, Some, None}
use Rattle.std.proofs.Common.{length, refl, sym, ap, ap₂, subst, ◌∙◌, arith}
use Rattle.std.specs.Prelude.{is_some, not, ◌&&◌}
use Rattle.std.proofs.lemmas.Bool.{eqb-true}
use Rattle.linked_pending.specs.Listing.{has}
use Rattle.value_pool.specs.Pool.{noted}
use Rattle.route_values.specs.declared.key.Key.{Key}
use Rattle.adj_rib_out.specs.declared.chosen.Chosen.{Chosen}
use Rattle.adj_rib_out.specs.KeyPlaces.{KeyPlaces}
use Rattle.adj_rib_out.specs.Kept.{chosen_at}
use Rattle.adj_rib_out.specs.Places.{key_at}
use Rattle.adj_rib_out.proofs.NotedLemmas.{has_noted, new_noted}
use Rattle.adj_rib_out.proofs.RowLemmas.{within}
use Rattle.adj_rib_out.proofs.ShownLemmas.{below_next}

-- the keys below a number are noted that have no route, and nothing else has changed
pub record HasNoted (routes : List (Option Chosen)) (old new : KeyPlaces) (places : ℕ) : Type 0 where
  pub lone : (place : ℕ) (key : Key) → place < places → key_at old.keys place ≡ Some key
      → chosen_at routes place ≡ None → has place new.idle ≡ true
  pub rest : new ≡ record old { idle = new.idle }

-- whether the key of a place is to be noted
abbrev pub is_lone : List (Option Chosen) → List (Option Key) → ℕ → Bool
is_lone routes keys place = is_some (key_at keys place) && not (is_some (chosen_at routes place))

module _ (routes : List (Option Chosen)) (old : KeyPlaces) where
  pub none_noted : HasNoted routes old old 0
  none_noted = record {
    lone = λ place key below here none. absurd (omega arith);
    rest = refl;
  }

  module _ (keys later : KeyPlaces) (place : ℕ) (so_far : HasNoted routes old keys place)
      (is : later ≡ record keys { idle = cond (is_lone routes keys.keys place) (noted place keys.idle) keys.idle })
    where
      keys_are : keys.keys ≡ old.keys
      keys_are = ap (λ (k : KeyPlaces). k.keys) so_far.rest

      idle_is : later.idle ≡ cond (is_lone routes keys.keys place) (noted place keys.idle) keys.idle
      idle_is = ap (λ (k : KeyPlaces). k.idle) is

      still : (i : ℕ) (lone : Bool) → has i keys.idle ≡ true
          → has i (cond lone (noted place keys.idle) keys.idle) ≡ true
      still i true there = has_noted i place keys.idle there
      still i false there = there

      here_noted : (i : ℕ) (key : Key) → (i == place) ≡ true → key_at old.keys i ≡ Some key → chosen_at routes i ≡ None
          → has i (cond (is_lone routes keys.keys place) (noted place keys.idle) keys.idle) ≡ true
      here_noted i key same here none =
          let at_place = eqb-true i place same in
          let lone : is_lone routes keys.keys place ≡ true = ap₂ (λ (o : Option Key) (r : Option Chosen).
          is_some o && not (is_some r))
          (ap (λ (ks : List (Option Key)). key_at ks place) keys_are
          ∙ subst (λ (j : ℕ). key_at old.keys j ≡ Some key) at_place here)
          (subst (λ (j : ℕ). chosen_at routes j ≡ None) at_place none) in
          subst (λ (j : ℕ). has j (cond (is_lone routes keys.keys place) (noted place keys.idle) keys.idle) ≡ true)
          (sym at_place) (ap (λ (t : Bool). has place (cond t (noted place keys.idle) keys.idle)) lone
          ∙ new_noted place keys.idle)

      pub next_noted : HasNoted routes old later (place + 1)
      next_noted = record {
        lone = λ i key below here none. ap (has i) idle_is ∙ (elim (i == place) as (λ t. (i == place) ≡ t
            → has i (cond (is_lone routes keys.keys place) (noted place keys.idle) keys.idle) ≡ true) [
              | true ↦ λ same. here_noted i key same here none
              | false ↦ λ differs. still i (is_lone routes keys.keys place)
                  (so_far.lone i key (below_next i place below differs) here none)
            ] refl);
        rest = is
            ∙ ap (λ (k : KeyPlaces). record k {
              idle = cond (is_lone routes keys.keys place) (noted place keys.idle) keys.idle;
            }) so_far.rest
            ∙ ap (λ (l : List ℕ). record old { idle = l }) (sym idle_is);
      }

  pub all_noted : (new : KeyPlaces) (places : ℕ) → length old.keys ≤ places → HasNoted routes old new places
      → (place : ℕ) (key : Key) → key_at old.keys place ≡ Some key → chosen_at routes place ≡ None
      → has place new.idle ≡ true
  all_noted new places through noted_all place key here none =
      let below = within old.keys key place here in
      noted_all.lone place key (omega arith) here none
