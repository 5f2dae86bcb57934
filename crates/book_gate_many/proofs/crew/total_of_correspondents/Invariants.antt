use Rattle.book_gate_many.proofs.crew.total_of_correspondents.Given as goal

-- The gate at hand, and the pass that writes the letters
abbrev pub ghosts-correspond_beside-N-GateName : goal.ghosts-correspond_beside-N-GateName
ghosts-correspond_beside-N-GateName g a = record { gate = a.gate.now; writer = a.one.name }

abbrev pub ghosts-correspond_beside-M-GateName : goal.ghosts-correspond_beside-M-GateName
ghosts-correspond_beside-M-GateName g a = record { gate = a.gate.now; writer = a.two.name }
