-- The count of nodes, as calls change it.
use Rattle.std.proofs.Common.{◌≡◌, ℕ, ◌+◌, ◌<◌, ◌≤◌, Bool, true, false, cond, None}
use Rattle.std.proofs.Common.{length, refl, sym, ap, ap₂, subst, ◌∙◌, arith, take}
use Rattle.std.specs.Prelude.{count_by, not, slice_index_or}
use Rattle.std.proofs.lemmas.List.{take_all}
use Rattle.std.proofs.lemmas.List.Sums.{count_by-le-length, count_by_more_no, count_by_more_yes}
use Rattle.adj_rib_out.specs.State.{State}
use Rattle.adj_rib_out.specs.Nodes.{is_node_row, nodes}

-- ---- a node more, or one fewer

module _ (count : ℕ) (old new : State) (was node : Bool) (counted : count ≡ nodes old) (was_is : was ≡ node)
    (grows : nodes new ≡ nodes old + cond node 0 1) where
  pub grown : count + cond was 0 1 ≡ nodes new
  grown = ap₂ (λ (n : ℕ) (t : Bool). n + cond t 0 1) counted was_is ∙ sym grows

  pub has_room : (places : ℕ) → places ≡ length new.rows → count + cond was 0 1 ≤ places
  has_room places is =
      let all = count_by-le-length (is_node_row new) new.rows in
      subst (λ n. n ≤ places) (sym grown) (subst (λ n. nodes new ≤ n) (sym is) all)

module _ (count : ℕ) (old new : State) (gone lone : Bool) (counted : count ≡ nodes old) (gone_is : gone ≡ lone)
    (shrinks : nodes new + cond lone 1 0 ≡ nodes old) where
  shrunk : nodes new + cond gone 1 0 ≡ count
  shrunk = ap (λ (t : Bool). nodes new + cond t 1 0) gone_is ∙ shrinks ∙ sym counted

  pub can_shrink : cond gone 1 0 ≤ count
  can_shrink = let all = shrunk in omega arith

  pub shrunk_is : (result : ℕ) → result + cond gone 1 0 ≡ count → result ≡ nodes new
  shrunk_is result is = let all = shrunk in omega arith

-- ---- a look at each place

plus_zero : (n : ℕ) → n + 0 ≡ n
plus_zero n = omega arith

module _ (state : State) where
  more_by : (node : Bool) (place : ℕ) → place < length state.rows
      → is_node_row state (slice_index_or state.rows place None) ≡ node
      → count_by (is_node_row state) (take place state.rows) + cond (not node) 0 1
      ≡ count_by (is_node_row state) (take (place + 1) state.rows)
  more_by true place within is = sym (count_by_more_yes (is_node_row state) state.rows place None within is)
  more_by false place within is = plus_zero (count_by (is_node_row state) (take place state.rows))
      ∙ sym (count_by_more_no (is_node_row state) state.rows place None within is)

  module _ (count place : ℕ) (node was : Bool) (within : place < length state.rows)
      (counted : count ≡ count_by (is_node_row state) (take place state.rows))
      (is : node ≡ is_node_row state (slice_index_or state.rows place None)) (was_is : was ≡ not node) where
    pub next_counted : count + cond was 0 1 ≡ count_by (is_node_row state) (take (place + 1) state.rows)
    next_counted = ap₂ (λ (n : ℕ) (t : Bool). n + cond t 0 1) counted was_is ∙ more_by node place within (sym is)

    small : (t : Bool) → cond t 0 1 ≤ 1
    small true = omega arith
    small false = omega arith

    pub next_fits : (end : ℕ) → count ≤ place → place < end → count + cond was 0 1 ≤ end
    next_fits end fits below = let one = small was in omega arith

    pub next_small : count ≤ place → count + cond was 0 1 ≤ place + 1
    next_small fits = let one = small was in omega arith

  pub none_counted : 0 ≡ count_by (is_node_row state) (take 0 state.rows)
  none_counted = refl

  pub all_counted : (count place : ℕ) → length state.rows ≤ place
      → count ≡ count_by (is_node_row state) (take place state.rows) → count ≡ nodes state
  all_counted count place through counted = counted
      ∙ ap (count_by (is_node_row state)) (take_all place state.rows through)
