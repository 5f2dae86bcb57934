-- How long the lists of a route's attributes may be, so that the route with one key fits a message of 4,096 bytes.
use Rattle.std.specs.Prelude.{ℕ, ◌≤◌, List, length, sum_by, Option, Some, None}
use Rattle.route_values.specs.declared.attrs.Attrs.{Attrs}
use Rattle.route_values.specs.declared.attrs.WireAttrs.{WireAttrs}
use Rattle.route_values.specs.declared.path.Segment.{Segment}

-- how many numbers a path has, and values each list
pub record Counts : Type 0 where
  pub numbers : ℕ
  pub communities : ℕ
  pub clusters : ℕ
  pub extended : ℕ
  pub large : ℕ

-- the AS numbers of a path, over all its segments
abbrev pub numbers_in : List Segment → ℕ
numbers_in path = sum_by (λ s. length s.numbers) path

-- the AS numbers of a written path; an unwritten one has none
abbrev pub numbers_written : Option (List Segment) → ℕ
numbers_written (Some path) = numbers_in path
numbers_written None = 0

-- the counts of attributes as they are written
abbrev pub counts_written : Attrs → Counts
counts_written a = record {
  numbers = numbers_written a.path;
  communities = length a.communities;
  clusters = length a.clusters;
  extended = length a.extended;
  large = length a.large;
}

-- the counts of attributes as they are sent
abbrev pub counts_sent : WireAttrs → Counts
counts_sent w = record {
  numbers = numbers_in w.path;
  communities = length w.communities;
  clusters = length w.clusters;
  extended = length w.extended;
  large = length w.large;
}

-- no list passes its limit
pub record IsWithinLimits (c : Counts) : Type 0 where
  pub numbers : c.numbers ≤ 255
  pub communities : c.communities ≤ 200
  pub clusters : c.clusters ≤ 32
  pub extended : c.extended ≤ 64
  pub large : c.large ≤ 64
