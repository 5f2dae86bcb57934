use Rattle.std.proofs.Common.{ap}
use Rattle.crew.specs.Views.{job_of}
use Rattle.daemon.proofs.BackLemmas.{popped}
use Rattle.daemon.proofs.PutLemmas.{keeper_out, pair_more, pair_out, talker_more, talker_out}
use Rattle.daemon.proofs.apart.put_next.Goals as goal

pub returns-in-Keeping-clause-back : goal.returns-in-Keeping-clause-back
returns-in-Keeping-clause-back g c =
    let more = rw c.in-Keeping.is at c.put_keeper.ensures.more in
    keeper_out _ _ _ _ c.requires.whole _ _ _ _
    (popped _ _ _ _ _ c.in-Some.ensures.items (ap job_of c.in-Keeping.is)) more

pub returns-in-Talking-clause-returns : goal.returns-in-Talking-clause-returns
returns-in-Talking-clause-returns g c =
    let parts = rw c.in-Talking.is at c.apart.ensures in
    talker_out _ _ _ _ c.requires.whole _ _ _ _
    (popped _ _ _ _ _ c.in-Some.ensures.items (ap job_of c.in-Talking.is)) c.requires.room
    (talker_more _ _ _ _ _ _ _ _ parts c.put_parts.ensures.more) c.put_parts.ensures.room

pub returns-in-Reading-clause-returns : goal.returns-in-Reading-clause-returns
returns-in-Reading-clause-returns g c =
    let spawner = rw c.in-Reading.is at c.take_apart.ensures.spawner in
    let passes = rw c.in-Reading.is at c.take_apart.ensures.passes in
    pair_out _ _ _ _ _ c.requires.whole _ _ _ _ _ _ _
    (popped _ _ _ _ _ c.in-Some.ensures.items (ap job_of c.in-Reading.is)) c.pop_replier-replier.ensures.first
    c.requires.room (pair_more _ _ _ _ _ _ _ _ spawner passes c.put_slot.ensures.more) c.put_slot.ensures.room
