-- Lists of nodes by the lists of their places.
use Rattle.std.proofs.Common.{◌≡◌, ℕ, ◌+◌, ◌-◌, ◌<◌, ◌≤◌, true, false, None, cond, List, [], ◌∷◌, ◌++◌, eqb, refl, sym}
use Rattle.std.proofs.Common.{ap, ◌∙◌, arith}
use Rattle.std.proofs.lemmas.Grind.{common_steps}
use Rattle.std.proofs.lemmas.Bool.{eqb-true}
use Rattle.std.proofs.lemmas.Map.Views.{Contains-from_any, All-from_any}
use Rattle.std.specs.Cmp.{nat_eq_equiv}
use Rattle.std.specs.Prelude.{All, Contains, slice_get}
use Rattle.linked_pending.specs.Listing.{has, AreApart, without, put_before, first_or, behind_or, next_in}
use Rattle.linked_pending.specs.Order.{nodes_at, node_at}

place_eq : (node place : ℕ) → eqb 0 place ≡ false → eqb (node + 1) place ≡ eqb node (place - 1)
place_eq node place above = grind (arith, common_steps)

pub has-nodes_at : (node : ℕ) (places : List ℕ) → has 0 places ≡ false
    → has (node + 1) places ≡ has node (nodes_at places)
has-nodes_at node [] no_root = refl
has-nodes_at node (first ∷ rest) no_root = grind (arith, common_steps, has-nodes_at node rest, place_eq node first)

pub nodes_at-without : (node : ℕ) (places : List ℕ) → has 0 places ≡ false
    → nodes_at (without (node + 1) places) ≡ without node (nodes_at places)
nodes_at-without node [] no_root = refl
nodes_at-without node (first ∷ rest) no_root = grind (
  arith,
  common_steps,
  nodes_at-without node rest,
  place_eq node first,
)

pub nodes_at-put_before : (node : ℕ) (places : List ℕ) → has 0 places ≡ false
    → nodes_at (put_before 0 (node + 1) places) ≡ nodes_at places ++ node ∷ []
nodes_at-put_before node [] no_root = ap (λ number. number ∷ []) (omega arith)
nodes_at-put_before node (first ∷ rest) no_root = grind (arith, common_steps, nodes_at-put_before node rest)

pub node_at-first : (places : List ℕ) → has 0 places ≡ false → node_at (first_or 0 places)
    ≡ slice_get (nodes_at places) 0
node_at-first [] no_root = refl
node_at-first (first ∷ rest) no_root = grind (arith, common_steps)

pub node_at-behind : (node : ℕ) (places : List ℕ) → has 0 places ≡ false
    → node_at (behind_or 0 (node + 1) places) ≡ next_in node (nodes_at places)
node_at-behind node [] no_root = refl
node_at-behind node (first ∷ rest) no_root =
    let no_root_rest : has 0 rest ≡ false = grind (arith, common_steps) in
    let same : eqb (node + 1) first ≡ eqb node (first - 1) = place_eq node first (grind (arith, common_steps)) in
    rw same (elim (eqb node (first - 1)) as (λ test. node_at (cond test (first_or 0 rest) (behind_or 0 (node + 1) rest))
    ≡ cond test (slice_get (nodes_at rest) 0) (next_in node (nodes_at rest))) [
      | true ↦ node_at-first rest no_root_rest
      | false ↦ node_at-behind node rest no_root_rest
    ])

pub next_in-absent : (node : ℕ) (nodes : List ℕ) → has node nodes ≡ false → next_in node nodes ≡ None
next_in-absent node [] absent = refl
next_in-absent node (first ∷ rest) absent = grind (arith, common_steps, next_in-absent node rest)

pub apart-nodes_at : (places : List ℕ) → has 0 places ≡ false → AreApart places → AreApart (nodes_at places)
apart-nodes_at [] no_root apart = tt
apart-nodes_at (first ∷ rest) no_root apart =
    let no_root_rest : has 0 rest ≡ false = grind (arith, common_steps) in
    let above : first - 1 + 1 ≡ first = grind (arith, common_steps) in (
      sym (has-nodes_at (first - 1) rest no_root_rest) ∙ ap (λ place. has place rest) above ∙ apart.0,
      apart-nodes_at rest no_root_rest apart.1,
    )

pub absent_from_not : (item : ℕ) (items : List ℕ) → (Contains items item → ⊥) → has item items ≡ false
absent_from_not item items none =
    elim (has item items) as (λ test. has item items ≡ test → test ≡ false) [
      | true ↦ λ there. absurd (none (Contains-from_any eqb-true item items there))
      | false ↦ λ absent. refl
    ] refl

-- what a chain of places tells of its nodes
pub within-nodes_at : (places : List ℕ) (room : ℕ) → has 0 places ≡ false
    → ((place : ℕ) → has place places ≡ true → place < room) → All (λ node. node < room - 1) (nodes_at places)
within-nodes_at places room no_root within =
    All-from_any nat_eq_equiv (λ node. node < room - 1) (nodes_at places)
    (λ node there. let bound = within (node + 1) (has-nodes_at node places no_root ∙ there) in omega arith)

pub absent_above : (node : ℕ) (nodes : List ℕ) (room : ℕ) → room ≤ node → All (λ other. other < room) nodes
    → has node nodes ≡ false
absent_above node nodes room above within =
    elim (has node nodes) as (λ test. has node nodes ≡ test → test ≡ false) [
      | true ↦ λ there. let listed = Contains-from_any eqb-true node nodes there in let bound =
          within listed.0 node listed.1 in absurd (omega (arith, listed.2))
      | false ↦ λ absent. refl
    ] refl
