-- Commands that add no route node: all but announcements.
use Rattle.std.proofs.Common.{◌≡◌, ℕ, ◌≤◌, Bool, true, false, List, ◌∷◌, ◌++◌, length, Some, None, Ok, refl}
use Rattle.std.proofs.Common.{subst, arith}
use Rattle.std.proofs.lemmas.Bool.{le-ltb}
use Rattle.std.specs.Prelude.{◌||◌, nat_lt, if◌then◌else◌, Option, is_some}
use Rattle.route_values.specs.declared.addr.Family.TheVariants.{Ipv4, Ipv6}
use Rattle.route_values.specs.declared.key.Key.{Key}
use Rattle.route_values.specs.Caps.{Caps}
use Rattle.text_forms.specs.Lines.{Line}
use Rattle.command_grammar.specs.declared.command.Command.{Command}
use Rattle.command_grammar.specs.declared.command.Command.TheVariants as command
use Rattle.config_model.specs.Sections.{Sections}
use Rattle.peer_history.specs.Cuts as of_slot
use Rattle.peer_history.specs.Keys.{is_named}
use Rattle.peer_history.specs.Laws as law
use Rattle.peer_history.specs.Nodes.{is_held, is_node}
use Rattle.peer_history.specs.Ordered.{node_keys}
use Rattle.peer_history.specs.Sessions.{live}
use Rattle.peer_history.specs.Steps.{Step}
use Rattle.peer_history.specs.Steps.Step.{Withdrawn, Cleared, Ended, Refreshed}
use Rattle.peer_history.specs.Table.{Route, want}
use Rattle.book_history.specs.declared.outcomes.Verdict.TheVariants as verdict
use Rattle.book_history.specs.Bounds.{max_nodes}
use Rattle.book_history.specs.Entries.{History}
use Rattle.book_history.specs.Entries.Entry.{LineEntered}
use Rattle.book_history.specs.Legal.{IsLegal}
use Rattle.book_history.specs.Nodes.{nodes}
use Rattle.book_history.specs.PeerSteps.{cease, commanded, shut_down, steps_of}
use Rattle.book_history.specs.Selecting.{selects}
use Rattle.book_history.proofs.StepLemmas.{steps_legal}
use Rattle.book_core.specs.Choosing.{is_announce}
use Rattle.book_core.proofs.HeldLemmas.{at_most}
use Rattle.book_core.proofs.NodeLemmas.{entry_few, steps_few}

-- what a session needs doesn't go by what is withdrawn or taken out
held_withdrawn : (keys : List Key) (steps : List Step) (key : Key) (caps : Option Caps)
    → is_held caps (Withdrawn keys ∷ steps) key ≡ is_held caps steps key
held_withdrawn keys steps key None = refl
held_withdrawn keys steps key (Some caps) = refl

held_cleared : (steps : List Step) (key : Key) (caps : Option Caps)
    → is_held caps (Cleared ∷ steps) key ≡ is_held caps steps key
held_cleared steps key None = refl
held_cleared steps key (Some caps) = refl

-- a key is wanted, or needed: it was so before a part of what is wanted was taken away
was_node : (so : Bool) (route : Option Route) (held : Bool) → (is_some (if so then None else route) || held) ≡ true
    → (is_some route || held) ≡ true
was_node true None held is = is
was_node true (Some route) held is = refl
was_node false route held is = is

pub withdrawn_node : (keys : List Key) (steps : List Step) (key : Key) → is_node (Withdrawn keys ∷ steps) key ≡ true
    → is_node steps key ≡ true
withdrawn_node keys steps key is =
    was_node (is_named keys key) (want steps key) (is_held (live steps) steps key)
    (subst (λ held. (is_some (if is_named keys key then None else want steps key) || held) ≡ true)
    (held_withdrawn keys steps key (live steps)) is)

pub cleared_node : (steps : List Step) (key : Key) → is_node (Cleared ∷ steps) key ≡ true → is_node steps key ≡ true
cleared_node steps key is =
    was_node true (want steps key) (is_held (live steps) steps key)
    (subst (λ held. held ≡ true) (held_cleared steps key (live steps)) is)

-- a slot to which such a command comes has no more nodes
pub commanded_few : law.SessionsAddNoNode → (given : Command) (so : Bool) (steps : List Step)
    → of_slot.IsLegal steps → is_announce given ≡ false
    → length (node_keys (commanded given so ++ steps)) ≤ length (node_keys steps)
commanded_few stay (command.Announce pick keys attrs) so steps legal other =
    absurd (let never : true ≡ false = other in cc)
commanded_few stay (command.Withdraw pick keys) true steps legal other =
    steps_few (Withdrawn keys ∷ steps) steps refl (withdrawn_node keys steps)
commanded_few stay (command.Withdraw pick keys) false steps legal other = omega arith
commanded_few stay (command.Clear pick) true steps legal other =
    steps_few (Cleared ∷ steps) steps refl (cleared_node steps)
commanded_few stay (command.Clear pick) false steps legal other = omega arith
commanded_few stay (command.Flush pick) true steps legal other =
    at_most (length (node_keys (Refreshed Ipv6 ∷ Refreshed Ipv4 ∷ steps))) (length (node_keys (Refreshed Ipv4 ∷ steps)))
    (length (node_keys steps))
    (steps_few (Refreshed Ipv6 ∷ Refreshed Ipv4 ∷ steps) (Refreshed Ipv4 ∷ steps) refl
    (stay.refreshed Ipv6 (Refreshed Ipv4 ∷ steps) legal))
    (steps_few (Refreshed Ipv4 ∷ steps) steps refl (stay.refreshed Ipv4 steps legal))
commanded_few stay (command.Flush pick) false steps legal other = omega arith
commanded_few stay (command.Teardown pick sub) true steps legal other =
    steps_few (Ended (cease sub) ∷ steps) steps refl (stay.ended (cease sub) steps legal)
commanded_few stay (command.Teardown pick sub) false steps legal other = omega arith
commanded_few stay command.Shutdown so steps legal other =
    steps_few (Ended (cease shut_down) ∷ steps) steps refl (stay.ended (cease shut_down) steps legal)
commanded_few stay given so steps legal other = omega arith

-- with such a line done there would be no more nodes than there are, so it isn't refused for their number
pub line_few : law.SessionsAddNoNode → (cfg : Sections) (H : History) (h inc : ℕ) (line : Line) (given : Command)
    → IsLegal cfg H → is_announce given ≡ false
    → nodes cfg (LineEntered h inc line (Ok given) verdict.Done ∷ H) ≤ nodes cfg H
line_few stay cfg H h inc line given legal other =
    entry_few cfg H (LineEntered h inc line (Ok given) verdict.Done)
    (λ n. commanded_few stay given (selects cfg H h given n) (steps_of cfg n H) (steps_legal cfg n H legal) other)

pub line_not_full : law.SessionsAddNoNode → (cfg : Sections) (H : History) (h inc : ℕ) (line : Line)
    (given : Command) → IsLegal cfg H → nodes cfg H ≤ max_nodes → is_announce given ≡ false
    → nat_lt max_nodes (nodes cfg (LineEntered h inc line (Ok given) verdict.Done ∷ H)) ≡ false
line_not_full stay cfg H h inc line given legal within other =
    le-ltb max_nodes (nodes cfg (LineEntered h inc line (Ok given) verdict.Done ∷ H))
    (at_most (nodes cfg (LineEntered h inc line (Ok given) verdict.Done ∷ H)) (nodes cfg H) max_nodes
    (line_few stay cfg H h inc line given legal other) within)
