-- Every batch is packed, message by message.
use Rattle.std.proofs.Common.{◌≡◌, true, false, List, [], ◌∷◌, Some}
use Rattle.route_values.specs.Caps.{Caps}
use Rattle.update_grammar.specs.Packed.{ArePacked}
use Rattle.peer_history.specs.Batches.{batch}
use Rattle.peer_history.specs.Cuts.{IsLegal}
use Rattle.peer_history.specs.Laws.{BatchesArePacked}
use Rattle.peer_history.specs.Messages.{said_each}
use Rattle.peer_history.specs.Sessions.{session}
use Rattle.peer_history.specs.Steps.{Step}
use Rattle.peer_history.specs.Steps.Step.{Up, Down, Cut}
use Rattle.peer_history.specs.Steps.Answer.{Message}
use Rattle.peer_history.proofs.SessionLemmas.{legal_tail, at_session}

packed_so_far : (steps : List Step) → IsLegal steps → (caps : Caps) → session steps ≡ Some caps
    → ArePacked caps (said_each caps (batch steps))
packed_so_far [] legal caps at = tt
packed_so_far (Up c ∷ steps) legal caps at = tt
packed_so_far (Down ∷ steps) legal caps at = tt
packed_so_far (Cut (Message bytes true) ∷ steps) legal caps at = tt
packed_so_far (Cut (Message bytes false) ∷ steps) legal caps at =
    ((at_session caps steps bytes false at legal).packed, packed_so_far steps legal.1 caps at)
packed_so_far (step ∷ steps) legal caps at = packed_so_far steps (legal_tail step steps legal) caps at

pub batches_are_packed : BatchesArePacked
batches_are_packed steps caps bytes last legal at =
    ((at_session caps steps bytes last at legal).packed, packed_so_far steps legal.1 caps at)
