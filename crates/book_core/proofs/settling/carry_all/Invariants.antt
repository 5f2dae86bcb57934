use Rattle.book_core.specs.Settling.{section_in, SettlesTo}
use Rattle.book_core.proofs.settling.carry_all.Given as goal

abbrev pub invariant-peers : goal.invariant-peers
invariant-peers l =
    SettlesTo l.n (section_in l.sections l.places) l.initial.peers.items l.initial.left.items l.peers.items l.left.items
