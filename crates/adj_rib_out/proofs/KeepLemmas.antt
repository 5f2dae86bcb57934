-- What stays of a table where some of its parts do.
use Rattle.std.proofs.Common.{◌≡◌, ◌==◌, ℕ, ◌<◌, true, false, List, cond}
use Rattle.std.proofs.Common.{Option, None, length, refl, sym, ap, subst, ◌∙◌}
use Rattle.std.specs.Prelude.{is_some, slice_set, slice_index_or}
use Rattle.std.specs.Option.{option_map, option_and_then}
use Rattle.std.proofs.lemmas.Bool.{eqb-true, eqb-false}
use Rattle.std.proofs.lemmas.List.{get_or-set_same, get_or-set_other}
use Rattle.linked_pending.specs.Links.{link}
use Rattle.route_values.specs.declared.key.Key.{Key}
use Rattle.adj_rib_out.specs.State.{told_at}
use Rattle.adj_rib_out.specs.declared.chosen.Chosen.{Chosen}
use Rattle.adj_rib_out.specs.Calls.{KeepsRoutes, KeepsReady}
use Rattle.adj_rib_out.specs.Places.{place_of}
use Rattle.adj_rib_out.specs.Kept.{Parts, Values, seen, route_by, told_by, route_in, chosen_at, attrs_under}
use Rattle.adj_rib_out.proofs.RowLemmas.{keys_of_rows}
use Rattle.adj_rib_out.proofs.PartLemmas.{route_seen, told_seen, ready_seen, value_seen}

-- an element of a list in which one was written
pub set_at : {X : Type 0} (xs : List X) (place i : ℕ) (y d : X) → place < length xs
    → slice_index_or (slice_set xs place y) i d ≡ cond (i == place) y (slice_index_or xs i d)
set_at xs place i y d within = elim (i == place) as (λ test. (i == place) ≡ test
    → slice_index_or (slice_set xs place y) i d ≡ cond test y (slice_index_or xs i d)) [
      | true ↦ λ same. subst (λ (j : ℕ). slice_index_or (slice_set xs place y) j d ≡ y) (sym (eqb-true i place same))
          (get_or-set_same xs place y d within)
      | false ↦ λ differs. get_or-set_other xs place i y d (eqb-false i place differs)
    ] refl

module _ (old new : Parts) (keys : new.keys ≡ old.keys) (values : new.values ≡ old.values) where
  pub ready_kept : KeepsReady (seen old) (seen new)
  ready_kept = record {
    places = keys_of_rows (route_by new) (told_by new) new.keys 0 ∙ keys
        ∙ sym (keys_of_rows (route_by old) (told_by old) old.keys 0);
    keys = λ key. ready_seen new key ∙ ap (λ (ks : List (Option Key)). is_some (place_of ks key)) keys
        ∙ sym (ready_seen old key);
    values = λ number. value_seen new number
        ∙ ap (λ (v : Values). option_map (λ x. x.0) (slice_index_or v.written number None)) values
        ∙ sym (value_seen old number);
  }

  pub routes_kept : new.routes ≡ old.routes → KeepsRoutes (seen old) (seen new)
  routes_kept routes = record {
    side = ap (λ (v : Values). v.side) values;
    routes = λ key. route_seen new key
        ∙ ap (λ (ks : List (Option Key)). option_and_then (route_by new) (place_of ks key)) keys
        ∙ ap (λ (v : Values). option_and_then (λ p. route_in v (chosen_at new.routes p)) (place_of old.keys key)) values
        ∙ ap (λ (rs : List (Option Chosen)). option_and_then (λ p. route_in old.values (chosen_at rs p))
        (place_of old.keys key)) routes
        ∙ sym (route_seen old key);
  }

  pub told_kept : new.slots.sents ≡ old.slots.sents → (key : Key) → told_at (seen new) key ≡ told_at (seen old) key
  told_kept sents key = told_seen new key
      ∙ ap (λ (ks : List (Option Key)). option_and_then (told_by new) (place_of ks key)) keys
      ∙ ap (λ (v : Values). option_and_then (λ p. attrs_under v (link new.slots.sents p)) (place_of old.keys key))
      values
      ∙ ap (λ (ns : List ℕ). option_and_then (λ p. attrs_under old.values (link ns p)) (place_of old.keys key)) sents
      ∙ sym (told_seen old key)
