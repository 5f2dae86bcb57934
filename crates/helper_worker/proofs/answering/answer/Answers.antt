use Rattle.std.proofs.Common.{ap, refl, ◌∙◌}
use Rattle.std.specs.List.{flat_map}
use Rattle.ack_queue.specs.Texts.{reply_text}
use Rattle.helper_worker.proofs.HeardLemmas.{grows_none}
use Rattle.helper_worker.proofs.ReplyLemmas.{answered_deaf, answered_last, answered_more, answered_none, some_counted}
use Rattle.helper_worker.proofs.answering.answer.Goals as goal

pub loop-init : goal.loop-init
loop-init g c = answered_none _ _ _ _

pub loop-preserved-in-Ok : goal.loop-preserved-in-Ok
loop-preserved-in-Ok g c =
    answered_more _ _ _ _ _ _ _ _ _ _ _ c.loop.invariant c.in-Replies.ensures.entered refl
    (c.bytes.ensures ∙ (c.put_all.ensures ∙ ap (flat_map reply_text) c.deref.ensures.0)) c.in-Ok.ensures.ok

pub returns-in-Err : goal.returns-in-Err
returns-in-Err g c =
    answered_deaf _ _ _ _ _ _ _ _ _ _ _ _ _ c.loop.invariant c.in-Replies.ensures.entered refl
    (c.bytes.ensures ∙ (c.put_all.ensures ∙ ap (flat_map reply_text) c.deref.ensures.0)) c.enter-in-Err.ensures.entered
    c.in-Err.ensures.err (some_counted _ _ c.in-Err.ensures.cause)

pub loop-preserved : goal.loop-preserved
loop-preserved g c =
    answered_more _ _ _ _ _ _ _ _ _ _ _ c.loop.invariant c.in-Nothing.ensures.entered refl refl (grows_none _)

pub returns-in-Ended : goal.returns-in-Ended
returns-in-Ended g c = answered_last _ _ _ _ _ _ _ _ _ c.loop.invariant c.in-Ended.ensures.entered
