use Rattle.std.proofs.Common.{[]}
use Rattle.peer_worker.specs.Rounds.{Talks, told}
use Rattle.peer_worker.proofs.rounds.talk.Given as goal

-- rounds were made
abbrev pub invariant-loop : goal.invariant-loop
invariant-loop g l =
    let dialer = g.D.Dialer in
    Talks l.fn.n l.initial.pass
    (told (dialer.links l.initial.dialer) (dialer.asked l.initial.dialer) (dialer.failed l.initial.dialer)) [] l.pass
    (told (dialer.links l.dialer) (dialer.asked l.dialer) (dialer.failed l.dialer))
