use Rattle.book_gate_many.proofs.CrewLemmas.{crew_gates}
use Rattle.book_gate_many.proofs.LetterLemmas.{first_writes, second_writes, met_crew, last_crew, last_total}
use Rattle.book_gate_many.proofs.crew.total_of_correspondents.Goals as goal

pub add_beside-requires-after_bounds : goal.add_beside-requires-after_bounds
add_beside-requires-after_bounds g c κs within =
    let crew = c.in_ok-crew.crew in
    crew_gates crew.gate 0 crew.pass crew.others.items c.in_ok-crew.ensures.crew

pub correspond_beside-left-requires-clause-one : goal.correspond_beside-left-requires-clause-one
correspond_beside-left-requires-clause-one g c κs within =
    let crew = c.in_ok-crew.crew in
    let called = c.add_beside in
    first_writes crew.gate crew.pass crew.others.items called.result.items c.apart-one.result.0 c.apart-one.result.1
    called.ensures.len called.ensures.each c.apart-one.ensures c.in_ok-crew.ensures.crew c.in_ok-crew.ensures.none

pub correspond_beside-left-requires-clause-two : goal.correspond_beside-left-requires-clause-two
correspond_beside-left-requires-clause-two g c κs within =
    let crew = c.in_ok-crew.crew in
    let called = c.add_beside in
    second_writes crew.gate crew.pass crew.others.items called.result.items c.apart-one.result.0 c.apart-one.result.1
    called.ensures.len called.ensures.each c.apart-one.ensures c.in_ok-crew.ensures.crew c.in_ok-crew.ensures.none

pub add_beside-others-requires-after_bounds : goal.add_beside-others-requires-after_bounds
add_beside-others-requires-after_bounds g c κs within =
    let crew = c.in_ok-crew.crew in
    let called = c.add_beside in
    let met = c.correspond_beside-left in
    crew_gates crew.gate 0 crew.pass c.in_ok-listed.field-0.items
    (met_crew crew.gate crew.pass crew.others.items called.result.items c.apart-one.result.0 c.apart-one.result.1
    called.ensures.len called.ensures.each c.apart-one.ensures c.in_ok-crew.ensures.crew c.in_ok-crew.ensures.none
    c.in_ok-listed.field-0.items met.result.0 met.result.1 c.in_ok-listed.ensures met.ensures.one.0 met.ensures.two.0)

pub close_crew-requires : goal.close_crew-requires
close_crew-requires g c =
    let crew = c.in_ok-crew.crew in
    let called = c.add_beside in
    let met = c.correspond_beside-left in
    let again = c.add_beside-others in
    last_crew crew.gate crew.pass crew.others.items called.result.items c.apart-one.result.0 c.apart-one.result.1
    called.ensures.len called.ensures.each c.apart-one.ensures c.in_ok-crew.ensures.crew c.in_ok-crew.ensures.none
    c.in_ok-listed.field-0.items met.result.0 met.result.1 c.in_ok-listed.ensures met.ensures.one.0 met.ensures.two.0
    again.result.items again.ensures.len again.ensures.each

pub returns : goal.returns
returns g c =
    let crew = c.in_ok-crew.crew in
    let called = c.add_beside in
    let met = c.correspond_beside-left in
    let again = c.add_beside-others in
    last_total crew.gate crew.pass crew.others.items called.result.items c.apart-one.result.0 c.apart-one.result.1
    called.ensures.len called.ensures.each c.apart-one.ensures c.in_ok-crew.ensures.crew c.in_ok-crew.ensures.none
    c.in_ok-listed.field-0.items met.result.0 met.result.1 c.in_ok-listed.ensures met.ensures.one.0 met.ensures.two.0
    again.result.items again.ensures.len again.ensures.each c.close_crew.result c.close_crew.ensures
