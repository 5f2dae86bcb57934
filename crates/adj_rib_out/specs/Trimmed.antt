-- What goes of written values and wire attributes where they are trimmed.
use Rattle.std.specs.Prelude.{ℕ, ◌≡◌, ◌⊎◌, ◌≤◌, ◌+◌, Some, None, length}
use Rattle.std.specs.List.{sum_by}
use Rattle.linked_pending.specs.Links.{link}
use Rattle.route_values.specs.declared.attrs.Attrs.{Attrs}
use Rattle.route_values.specs.declared.key.Key.{Key}
use Rattle.adj_rib_out.specs.Calls.{HasRoute, KeepsBatch, KeepsRoutes, KeepsSession}
use Rattle.adj_rib_out.specs.Counts.{with_wire}
use Rattle.adj_rib_out.specs.Kept.{wire_under, written_under}
use Rattle.adj_rib_out.specs.State.{State, is_ready, value_at}
use Rattle.adj_rib_out.specs.Stock.{Stock}

-- ---- of a stock

-- each written value counts as a use of its wire attributes
abbrev pub AreUsed : Stock → Type 0
AreUsed stock = (wire : ℕ) → sum_by (with_wire wire) stock.seen.written ≤ link stock.uses wire

-- written values have gone that no place was given, each as a use of its wire attributes
pub record LosesValues (old new : Stock) : Type 0 where
  pub values : (v : ℕ) → (written_under new.seen v ≡ written_under old.seen v)
      ⊎ ((written_under new.seen v ≡ None) × (link old.routes v ≡ 0))
  pub uses : (wire : ℕ) → link new.uses wire + sum_by (with_wire wire) old.seen.written
      ≡ link old.uses wire + sum_by (with_wire wire) new.seen.written
  pub rest : new ≡ record old {
    seen = record old.seen { written = new.seen.written };
    uses = new.uses;
    idle_values = new.idle_values;
    idle_wires = new.idle_wires;
  }

-- wire attributes have gone that aren't in use
pub record LosesWires (old new : Stock) : Type 0 where
  pub wires : (w : ℕ) → (wire_under new.seen w ≡ wire_under old.seen w)
      ⊎ ((wire_under new.seen w ≡ None) × (link old.uses w ≡ 0))
  pub same_length : length new.seen.wires ≡ length old.seen.wires
  pub rest : new ≡ record old {
    seen = record old.seen { wires = new.seen.wires };
    idle_wires = new.idle_wires;
  }

-- ---- of a table

-- just the values have gone that no route has, and nothing else has changed
pub record TrimsValues (old new : State) : Type 0 where
  pub keys : (key : Key) → is_ready new key ≡ is_ready old key
  pub values : (number : ℕ) → (value_at new number ≡ None) ⊎ (value_at new number ≡ value_at old number)
  pub stays : (number : ℕ) (written : Attrs) → value_at old number ≡ Some written → HasRoute old written
      → value_at new number ≡ Some written
  pub goes : (number : ℕ) (written : Attrs) → value_at old number ≡ Some written → ¬ HasRoute old written
      → value_at new number ≡ None
  pub routes : KeepsRoutes old new
  pub session : KeepsSession old new
  pub batch : KeepsBatch old new
