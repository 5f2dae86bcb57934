use denote.Param.Send.{sendable}
use Rattle.crew.proofs.working.fn.end_each.for_each_mut+Fn.call.Goals as goal

pub for_each_mut-requires : goal.for_each_mut-requires
for_each_mut-requires g c = let held = c.requires in search (sendable, held)
