-- The empty table.
use Rattle.std.proofs.Common.{◌≡◌, false, List, [], Option, None, refl, sym, subst, arith}
use Rattle.std.proofs.lemmas.Bool.{false≢true}
use Rattle.route_values.specs.declared.settings.Side.{Side}
use Rattle.slot_batches.specs.Slots.{Slots}
use Rattle.adj_rib_out.specs.declared.chosen.Chosen.{Chosen}
use Rattle.adj_rib_out.specs.Counts.{IsWhole}
use Rattle.adj_rib_out.specs.KeyPlaces.{KeyPlaces}
use Rattle.adj_rib_out.specs.Kept.{Parts, parts_of, values_of}
use Rattle.adj_rib_out.specs.Stock.{Stock, nothing}
use Rattle.adj_rib_out.proofs.RowLemmas.{none_some}

abbrev pub no_slots : Slots
no_slots = record { room = 0; nows = []; sents = []; left = []; even_again = false; odd_again = false }

abbrev pub empty_parts : Side → Parts
empty_parts side = parts_of [] [] (values_of side [] []) no_slots None false false false false false

pub empty_whole : (side : Side) → IsWhole (empty_parts side) [] [] []
empty_whole side = record {
  table = record {
    once = λ i j key at_i at_j. absurd (none_some at_i);
    kept = record {
      wired = λ n w written is. absurd (none_some is);
      written_once = λ m n v w written at_m at_n. absurd (none_some at_m);
      wires_once = λ v w attrs at_v at_w. absurd (none_some at_v);
    };
    room = λ place key here. absurd (none_some here);
    nows_length = refl;
    sents_length = refl;
    routes_length = refl;
    vacant = λ place none. record { now = omega arith; sent = refl; chosen = refl };
    taken = λ place key here. absurd (none_some here);
    chosen = λ place chosen is. absurd (none_some is);
    left = tt;
    left_once = tt;
    left_together = tt;
    down = λ none. (
      record { sent = λ place is. omega arith; none = refl },
      record { sent = λ place is. omega arith; none = refl },
      refl,
    );
    ipv4_stale = λ stale. absurd (false≢true stale);
    ipv6_stale = λ stale. absurd (false≢true stale);
  };
  keys = λ place key here lone. absurd (none_some here);
  routes_counted = λ value. refl;
  uses_counted = λ wire. refl;
}

module _ (side : Side) where
  abbrev whole_of : KeyPlaces → List (Option Chosen) → Stock → Slots → Type 0
  whole_of keys routes stock slots = IsWhole
      (parts_of keys.keys routes stock.seen slots None false false false false false) keys.idle stock.routes stock.uses

  pub made_whole : (keys : KeyPlaces) (routes : List (Option Chosen)) (stock : Stock) (slots : Slots)
      → keys ≡ record { keys = []; idle = []; used = 0 } → routes ≡ [] → stock ≡ nothing side → slots ≡ no_slots
      → whole_of keys routes stock slots
  made_whole keys routes stock slots no_keys no_routes no_stock no_slot =
      subst (λ (k : KeyPlaces). whole_of k routes stock slots) (sym no_keys)
      (subst (λ (r : List (Option Chosen)). whole_of (record { keys = []; idle = []; used = 0 }) r stock slots)
      (sym no_routes)
      (subst (λ (v : Stock). whole_of (record { keys = []; idle = []; used = 0 }) [] v slots) (sym no_stock)
      (subst (λ (s : Slots). whole_of (record { keys = []; idle = []; used = 0 }) [] (nothing side) s) (sym no_slot)
      (empty_whole side))))
