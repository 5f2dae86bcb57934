-- Written values and wire attributes as they stand in pools, how often each is used, and which of them are noted.
use Rattle.std.specs.Prelude.{ℕ, ◌≡◌, ◌≢◌, ◌⊎◌, ◌≤◌, ◌+◌, ◌-◌, ◌==◌, ◌++◌, true, List, [], ◌∷◌, map, slice_set, length}
use Rattle.std.specs.Prelude.{if◌then◌else◌, Option, Some, None, IsSome}
use Rattle.std.specs.Option.{option_map}
use Rattle.linked_pending.specs.Links.{link}
use Rattle.linked_pending.specs.Listing.{has, without}
use Rattle.pooled_attrs.specs.declared.wire.Wire.{Wire}
use Rattle.pooled_attrs.specs.declared.written.Written.{Written}
use Rattle.route_values.specs.declared.attrs.Attrs.{Attrs}
use Rattle.route_values.specs.declared.attrs.WireAttrs.{WireAttrs}
use Rattle.route_values.specs.declared.settings.Side.{Side}
use Rattle.route_values.specs.Sent.{sent}
use Rattle.value_pool.specs.Pool.{Pool, noted, with_item}
use Rattle.adj_rib_out.specs.Kept.{Values, AreKept, values_of, written_under, wire_under}

-- What is seen of them, two columns of counts and the numbers that are noted. By a written value's number: how many
-- places were given it. By the number of wire attributes: how many values have them, and of how many slots they were
-- sent.
pub record Stock : Type 0 where
  pub seen : Values
  pub routes : List ℕ
  pub uses : List ℕ
  pub idle_values : List ℕ
  pub idle_wires : List ℕ

-- the written values of a pool, whose tags are the numbers of their wire attributes
abbrev pub written_in : List (Option (Written × ℕ)) → List (Option (Attrs × ℕ))
written_in items = map (option_map {U = Attrs × ℕ} (λ (item : Written × ℕ). (item.0.attrs, item.1))) items

-- the wire attributes of a pool, whose tags say nothing
abbrev pub wires_in : List (Option (Wire × ℕ)) → List (Option WireAttrs)
wires_in items = map (option_map (λ (item : Wire × ℕ). item.0.attrs)) items

abbrev pub stock_of : Side → Pool Written → Pool Wire → List ℕ → List ℕ → Stock
stock_of side written wires routes uses = record {
  seen = values_of side (written_in written.items) (wires_in wires.items);
  routes = routes;
  uses = uses;
  idle_values = written.idle;
  idle_wires = wires.idle;
}

-- nothing of a side
abbrev pub nothing : Side → Stock
nothing side = record { seen = values_of side [] []; routes = []; uses = []; idle_values = []; idle_wires = [] }

-- the attributes of a written value
abbrev pub value_under : Values → ℕ → Option Attrs
value_under values number = option_map (λ (value : Attrs × ℕ). value.0) (written_under values number)

-- Each number has its counts. A written value that no place was given is noted.
pub record IsStock (stock : Stock) : Type 0 where
  pub kept : AreKept stock.seen
  pub routes_length : length stock.routes ≡ length stock.seen.written
  pub uses_length : length stock.uses ≡ length stock.seen.wires
  pub noted : (value : ℕ) → IsSome (written_under stock.seen value) → link stock.routes value ≡ 0
      → has value stock.idle_values ≡ true

-- ---- counts

abbrev pub more : List ℕ → ℕ → List ℕ
more counts number = slice_set counts number (link counts number + 1)

abbrev pub fewer : List ℕ → ℕ → List ℕ
fewer counts number = slice_set counts number (link counts number - 1)

-- with a count of a number that is the next
abbrev pub widened : List ℕ → ℕ → List ℕ
widened counts number = if number == length counts then counts ++ 0 ∷ [] else counts

-- the noted numbers behind a count that is one fewer: where none is left the number is noted
abbrev pub noted_last : List ℕ → ℕ → List ℕ → List ℕ
noted_last counts number idle = if link counts number == 1 then noted number idle else idle

-- ---- changes

-- wire attributes that stood nowhere stand under a number, unused and noted
pub record AddsWire (old new : Stock) (attrs : WireAttrs) (wire : ℕ) : Type 0 where
  pub absent : (v : ℕ) → wire_under old.seen v ≢ Some attrs
  pub free : wire_under old.seen wire ≡ None
  pub others : (v : ℕ) → wire_under new.seen v ≡ (if v == wire then Some attrs else wire_under old.seen v)
  pub most : length new.seen.wires ≤ length old.seen.wires + 1
  pub rest : new ≡ record old {
    seen = record old.seen { wires = new.seen.wires };
    uses = widened old.uses wire;
    idle_wires = noted wire old.idle_wires;
  }

-- wire attributes stand under a number, as they did before or since now
pub record StandsWire (old new : Stock) (attrs : WireAttrs) (wire : ℕ) : Type 0 where
  pub stands : wire_under new.seen wire ≡ Some attrs
  pub change : (new ≡ old) ⊎ AddsWire old new attrs wire

-- a written value stands under a number, as one use of wire attributes that stood before; no place was given it
pub record AddsWritten (old new : Stock) (written : Attrs) (wire number : ℕ) : Type 0 where
  pub kept : AreKept new.seen
  pub free : written_under old.seen number ≡ None
  pub next : number ≤ length old.seen.written
  pub list : new.seen.written ≡ with_item old.seen.written number (written, wire)
  pub others : (n : ℕ) → written_under new.seen n
      ≡ (if n == number then Some (written, wire) else written_under old.seen n)
  pub counts : (v : ℕ) → link new.uses v ≡ link old.uses v + (if wire == v then 1 else 0)
  pub rest : new ≡ record old {
    seen = record old.seen { written = new.seen.written };
    routes = widened old.routes number;
    uses = new.uses;
    idle_values = noted number old.idle_values;
    idle_wires = without wire old.idle_wires;
  }

-- A written value stands under a number, and so do its wire attributes. No place was given the value, and it counts as
-- one use of the attributes.
pub record AddsValue (old new : Stock) (written : Attrs) (number : ℕ) : Type 0 where
  pub wire : ℕ
  pub kept : AreKept new.seen
  pub side : new.seen.side ≡ old.seen.side
  pub free : written_under old.seen number ≡ None
  pub next : number ≤ length old.seen.written
  pub list : new.seen.written ≡ with_item old.seen.written number (written, wire)
  pub values : (n : ℕ) → written_under new.seen n
      ≡ (if n == number then Some (written, wire) else written_under old.seen n)
  pub fresh : (wire_under old.seen wire ≡ None) ⊎ (wire_under old.seen wire ≡ Some (sent written old.seen.side))
  pub wires : (v : ℕ) → wire_under new.seen v
      ≡ (if v == wire then Some (sent written old.seen.side) else wire_under old.seen v)
  pub most : length new.seen.wires ≤ length old.seen.wires + 1
  pub routes : (value : ℕ) → link new.routes value ≡ link old.routes value
  pub uses : (v : ℕ) → link new.uses v ≡ link old.uses v + (if wire == v then 1 else 0)
  pub idle_values : new.idle_values ≡ noted number old.idle_values
  pub idle_wires : new.idle_wires ≡ without wire old.idle_wires

-- memory was wanting: nothing has changed, or wire attributes stand besides
abbrev pub AddsWireAtMost : Stock → Stock → WireAttrs → Type 0
AddsWireAtMost old new attrs = (new ≡ old) ⊎ ((wire : ℕ) × AddsWire old new attrs wire)

-- the stock without a written value, which counts no more as a use of its wire attributes
abbrev pub without_value : Stock → ℕ → Attrs × ℕ → Stock
without_value stock number value = record stock {
  seen = record stock.seen { written = slice_set stock.seen.written number None };
  uses = fewer stock.uses value.1;
  idle_values = without number stock.idle_values;
  idle_wires = noted_last stock.uses value.1 stock.idle_wires;
}

-- the stock without wire attributes
abbrev pub without_wire : Stock → ℕ → Stock
without_wire stock wire = record stock {
  seen = record stock.seen { wires = slice_set stock.seen.wires wire None };
  idle_wires = without wire stock.idle_wires;
}
