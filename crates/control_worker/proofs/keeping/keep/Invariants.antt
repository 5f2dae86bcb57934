use Rattle.control_worker.proofs.KeptLemmas.{Kept}
use Rattle.control_worker.proofs.keeping.keep.Given as goal

abbrev pub invariant-loop : goal.invariant-loop
invariant-loop g l =
    let files = g.F.Files in
    Kept (files.content l.initial.files) (files.content l.files) l.fn.path l.fn.slots l.initial.pass l.pass
    (files.faults l.initial.files) (files.faults l.files) (files.lent l.initial.files) (files.lent l.files)
