use Rattle.std.proofs.Common.{◌≡◌, ◌+◌, arith}
use Rattle.book_gate_many.proofs.CrewLemmas.{crew_gates, crew_goes_on, have_more}
use Rattle.book_gate_many.proofs.TotalLemmas.{count_and_times}
use Rattle.book_gate_many.proofs.crew.total_beside.Goals as goal

pub add_beside-others-requires-after_bounds : goal.add_beside-others-requires-after_bounds
add_beside-others-requires-after_bounds g c κs within =
    let crew = c.in_ok-crew.crew in
    crew_gates crew.gate 0 crew.pass crew.others.items c.in_ok-crew.ensures.crew

pub close_crew-requires : goal.close_crew-requires
close_crew-requires g c =
    let crew = c.in_ok-crew.crew in
    let added = c.add_beside-others in
    crew_goes_on crew.gate 0 crew.pass crew.others.items added.result.items c.args.times added.ensures.len
    added.ensures.each c.in_ok-crew.ensures.crew

pub returns : goal.returns
returns g c =
    let crew = c.in_ok-crew.crew in
    let added = c.add_beside-others in
    let times : 0 + c.args.times ≡ c.args.times = omega arith in
    let have = have_more crew.others.items added.result.items c.args.times added.ensures.len added.ensures.each 0
    c.in_ok-crew.ensures.none in
    count_and_times _ _ _ _ _ _ added.ensures.len c.in_ok-crew.ensures.count times
    (c.close_crew.ensures (0 + c.args.times) have)
