use Rattle.exa_top.proofs.DecodedLemmas.{halted_answered, whole_answered}
use Rattle.exa_top.proofs.decoding.decode.Goals as goal

pub returns-in-Ok : goal.returns-in-Ok
returns-in-Ok g c content = whole_answered content c.args.caps.now _ _ _ _ c.in-Ok.ensures

pub returns-in-Err : goal.returns-in-Err
returns-in-Err g c content =
    halted_answered content c.args.caps.now _ _ _ _ c.in-Err.halt c.status_of.result c.status_of.ensures
    c.in-Err.ensures
