-- Keys that come to stand ready, one after another.
use Rattle.std.specs.Prelude.{ℕ, ◌≡◌, ◌||◌, true, List}
use Rattle.route_values.specs.declared.key.Key.{Key}
use Rattle.adj_rib_out.specs.State.{State, is_ready, value_at}
use Rattle.adj_rib_out.specs.Calls.{KeepsRoutes, KeepsSession, KeepsBatch, is_named}
use Rattle.adj_rib_out.specs.Nodes.{nodes}

-- all stays but which keys stand ready
pub record KeepsRest (old new : State) : Type 0 where
  pub values : (number : ℕ) → value_at new number ≡ value_at old number
  pub routes : KeepsRoutes old new
  pub session : KeepsSession old new
  pub batch : KeepsBatch old new
  pub nodes : nodes new ≡ nodes old

-- keys stand ready, and nothing else has changed
pub record ReadiesKeys (old new : State) (named : List Key) : Type 0 where
  pub keys : (key : Key) → is_ready new key ≡ (is_named named key || is_ready old key)
  pub rest : KeepsRest old new

-- memory was wanting: some of these keys stand ready besides, and nothing else has changed
pub record ReadiesSomeKeys (old new : State) (wanted : List Key) : Type 0 where
  pub kept : (key : Key) → is_ready old key ≡ true → is_ready new key ≡ true
  pub named : (key : Key) → is_ready new key ≡ true → (is_named wanted key || is_ready old key) ≡ true
  pub rest : KeepsRest old new
