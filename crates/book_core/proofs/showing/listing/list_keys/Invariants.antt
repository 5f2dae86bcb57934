use Rattle.std.proofs.Common.{◌≡◌, ◌++◌, List, take}
use Rattle.peer_book.specs.Stands.{Stands}
use Rattle.peer_history.specs.Steps.{Step}
use Rattle.book_core.specs.Showing.{shown_each}
use Rattle.book_core.proofs.showing.listing.list_keys.Given as goal

abbrev pub invariant-keys : goal.invariant-keys
invariant-keys l = (steps : List Step) → Stands steps l.slot
    → l.routes.items ≡ l.initial.routes.items ++ shown_each l.settings steps (take l.key-index l.keys)
