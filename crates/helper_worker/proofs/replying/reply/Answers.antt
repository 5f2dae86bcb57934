use Rattle.helper_worker.proofs.ServingLemmas.{serves_both, serves_none}
use Rattle.helper_worker.proofs.replying.reply.Goals as goal

pub loop-init : goal.loop-init
loop-init g c = (serves_none _ _ _, c.requires.fresh)

pub loop-preserved-in-Errand : goal.loop-preserved-in-Errand
loop-preserved-in-Errand g c =
    (serves_both _ _ _ _ _ _ _ c.loop.invariant.0 c.reply_to.ensures.serves, c.reply_to.ensures.fresh)
