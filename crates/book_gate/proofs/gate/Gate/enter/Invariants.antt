use Rattle.std.specs.Prelude.{Some}
use Rattle.book_gate.proofs.gate.Gate.enter.Given as goal

-- The entry of the call and its answer
abbrev pub ghosts-leave : goal.ghosts-leave
ghosts-leave g a = record { entry = Some (g.C.Call.entry a.call.value a.answer.now) }
