use Rattle.std.specs.Prelude.{◌≡◌, false, take}
use Rattle.std.specs.List.{list_any}
use Rattle.book_core.specs.declared.peering.Peering.{Peering}
use Rattle.book_core.specs.Settling.{is_of}
use Rattle.book_core.proofs.placing.is_there.Given as goal

abbrev pub invariant-peers : goal.invariant-peers
invariant-peers l =
    list_any (λ (peering : Peering). is_of l.new peering.slot.settings) (take l.peering-index l.peers) ≡ false
