-- The nodes that slots have behind what is planned for them.
use Rattle.std.proofs.Common.{◌≡◌, ℕ, ◌+◌, zero, suc, List, [], ◌∷◌, ◌++◌, length, Some, None, refl}
use Rattle.std.proofs.Common.{sym, ap, ◌∙◌, arith}
use Rattle.std.proofs.lemmas.List.Sums.{sum_by-cons}
use Rattle.std.specs.Prelude.{Option, IfSome}
use Rattle.std.specs.List.{sum_by}
use Rattle.arrayvec.specs.ArrayVec.{ArrayVec}
use Rattle.route_values.specs.declared.key.Key.{Key}
use Rattle.route_values.specs.declared.settings.Settings.{Settings}
use Rattle.config_model.specs.declared.sections.Neighbor.{Neighbor}
use Rattle.config_model.specs.Limits.{max_peers}
use Rattle.peer_history.specs.Cuts.{IsLegal}
use Rattle.peer_history.specs.Ordered.{node_keys}
use Rattle.peer_history.specs.Sessions.{live}
use Rattle.peer_history.specs.Steps.{Step, Code}
use Rattle.peer_history.specs.Steps.Step.{Placed, Kept, Vacated, Ended, Announced, Withdrawn, Cleared}
use Rattle.peer_history.specs.Steps.Step.{Up, Down, Refreshed}
use Rattle.peer_history.specs.Steps.Step.{Cut}
use Rattle.peer_book.specs.Slot.{Slot, live_caps}
use Rattle.peer_book.specs.Statics.{StandsWithout, IsExchange}
use Rattle.book_history.specs.Bounds.{numbers_from}
use Rattle.book_history.specs.PeerSteps.{statics_of}
use Rattle.book_core.specs.Changing.{ends, exchanged_by, PlansExchange, PlansKept}
use Rattle.book_core.specs.Counting.{nodes_behind, nodes_below, IsTold, NodesKept}
use Rattle.book_core.proofs.ChangeLemmas.{closed_ends}

-- a slot that stays vacant
pub nodes_nothing : (steps : List Step) (after : Option Neighbor) (slot : Slot) (nodes : ℕ) → slot.settings ≡ None
    → after ≡ None → IsTold steps slot → nodes ≡ length (node_keys steps) → nodes ≡ nodes_behind steps after
nodes_nothing steps after slot nodes none gone told is =
    is ∙ ap (λ (own : Option Settings). length (node_keys (exchanged_by own None ++ steps)))
    (sym none ∙ told.stands.settings)
    ∙ ap (nodes_behind steps) (sym gone)

pub nodes_stay : (steps : List Step) (after : Option Neighbor) (slot : Slot) (numbers : List (Key × ℕ))
    (names : List (ArrayVec ℕ)) (nodes : ℕ) → PlansKept slot after numbers names → IsTold steps slot
    → NodesKept slot numbers nodes → nodes ≡ nodes_behind steps after
nodes_stay steps after slot numbers names nodes plan told kept =
    kept steps plan.new.settings (statics_of plan.new) told.legal told.stands plan.numbered
    ∙ ap (λ (these : List Step). length (node_keys (these ++ steps))) (sym plan.settled)
    ∙ ap (λ (own : Option Settings). length (node_keys (exchanged_by own after ++ steps))) told.stands.settings

legal_exchange : (step : Step) (steps : List Step) → IsExchange step → IsLegal steps → IsLegal (step ∷ steps)
legal_exchange (Placed settings statics) steps is legal = legal
legal_exchange (Kept settings statics) steps is legal = legal
legal_exchange Vacated steps is legal = legal
legal_exchange (Announced keys attrs) steps is legal = absurd is
legal_exchange (Withdrawn keys) steps is legal = absurd is
legal_exchange Cleared steps is legal = absurd is
legal_exchange (Up caps) steps is legal = absurd is
legal_exchange Down steps is legal = absurd is
legal_exchange (Ended code) steps is legal = absurd is
legal_exchange (Refreshed family) steps is legal = absurd is
legal_exchange (Cut answer) steps is legal = absurd is

live_exchange : (step : Step) (steps : List Step) → IsExchange step → live steps ≡ None → live (step ∷ steps) ≡ None
live_exchange (Placed settings statics) steps is none = none
live_exchange (Kept settings statics) steps is none = none
live_exchange Vacated steps is none = none
live_exchange (Announced keys attrs) steps is none = absurd is
live_exchange (Withdrawn keys) steps is none = absurd is
live_exchange Cleared steps is none = absurd is
live_exchange (Up caps) steps is none = absurd is
live_exchange Down steps is none = absurd is
live_exchange (Ended code) steps is none = absurd is
live_exchange (Refreshed family) steps is none = absurd is
live_exchange (Cut answer) steps is none = absurd is

legal_ends : (end : Option Code) (steps : List Step) → IsLegal steps → IsLegal (ends end ++ steps)
legal_ends None steps legal = legal
legal_ends (Some code) steps legal = legal

pub nodes_exchanged : (steps : List Step) (after : Option Neighbor) (slot : Slot) (end : Option Code) (with : Slot)
    (names : List (ArrayVec ℕ)) (nodes : ℕ) → PlansExchange slot after end with names → IsTold steps slot
    → ((all : List Step) → IsLegal all → StandsWithout all with → live all ≡ None → live_caps with ≡ None
    → nodes ≡ length (node_keys all)) → nodes ≡ nodes_behind steps after
nodes_exchanged steps after slot end with names nodes plan told counted =
    let behind = ends end ++ steps in
    let none : live behind ≡ None =
    closed_ends end steps (λ silent. told.closed (sym told.stands.settings ∙ plan.vacant silent)) in
    counted (plan.step ∷ behind) (legal_exchange plan.step behind plan.is (legal_ends end steps told.legal))
    (plan.stands steps told.stands) (live_exchange plan.step behind plan.is none) plan.closed
    ∙ ap (λ (these : List Step). length (node_keys (these ++ steps))) (sym plan.settled)
    ∙ ap (λ (own : Option Settings). length (node_keys (exchanged_by own after ++ steps))) told.stands.settings

-- one slot more
add_last : (a b c d : ℕ) → a ≡ b + c → d ≡ c → a ≡ b + d
add_last a b c d is same = omega (arith, is, same)

sum_last : (f : ℕ → ℕ) (first many : ℕ)
    → sum_by f (numbers_from first (suc many)) ≡ sum_by f (numbers_from first many) + f (first + many)
sum_last f first zero =
    let one = sum_by-cons f first [] in
    let same : f (first + 0) ≡ f first = ap f (let e : first + 0 ≡ first = omega arith in e) in
    let none : sum_by f [] ≡ 0 = refl in
    omega (arith, one, same, none)
sum_last f first (suc many) =
    let whole = sum_by-cons f first (numbers_from (suc first) (suc many)) in
    let less = sum_by-cons f first (numbers_from (suc first) many) in
    let later = sum_last f (suc first) many in
    let same : f (suc first + many) ≡ f (first + suc many) =
    ap f (let e : suc first + many ≡ first + suc many = omega arith in e) in
    omega (arith, whole, less, later, same)

pub nodes_more : (steps : ℕ → List Step) (after : ℕ → Option Neighbor) (n nodes own sum : ℕ)
    → nodes ≡ nodes_below n steps after → own ≡ nodes_behind (steps n) (after n) → sum ≡ nodes + own
    → sum ≡ nodes_below (n + 1) steps after
nodes_more steps after n nodes own sum below here is =
    let f : ℕ → ℕ = λ m. nodes_behind (steps m) (after m) in
    let last = sum_last f 0 n in
    let at : f (0 + n) ≡ f n = ap f (let e : 0 + n ≡ n = omega arith in e) in
    let next : nodes_below (n + 1) steps after ≡ nodes_below (suc n) steps after =
    ap (λ m. nodes_below m steps after) (let e : n + 1 ≡ suc n = omega arith in e) in
    omega (arith, last, at, next, below, here, is)

-- what is told of a number, if there is one
pub some_then : {A : Type 0} {P Q : A → Type 0} (given : Option A) → ((x : A) → P x → Q x) → IfSome given P
    → IfSome given Q
some_then None more is = tt
some_then (Some x) more is = more x is

pub nodes_all : (steps : ℕ → List Step) (after : ℕ → Option Neighbor) (n nodes : ℕ) → n ≡ max_peers
    → nodes ≡ nodes_below n steps after → nodes ≡ nodes_below max_peers steps after
nodes_all steps after n nodes whole is = is ∙ ap (λ k. nodes_below k steps after) whole
