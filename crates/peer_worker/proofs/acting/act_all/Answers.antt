use Rattle.std.proofs.Common.{◌∙◌, sym, take, slice_index_or, ◌∷◌, []}
use Rattle.std.proofs.lemmas.List.{take_more}
use Rattle.peer_worker.proofs.StepLemmas.{does_none, does_more, for_action, gate_kept}
use Rattle.peer_worker.proofs.acting.act_all.Goals as goal

pub loop-action-init : goal.loop-action-init
loop-action-init g c = does_none _ _ _ _

pub act-requires-clause-gate : goal.act-requires-clause-gate
act-requires-clause-gate g c = gate_kept _ _ _ _ _ _ _ c.loop-action.invariant ∙ c.requires.gate

pub loop-action-preserved : goal.loop-action-preserved
loop-action-preserved g c =
    let todo = c.args.todo.now in
    let index = c.loop-action.action-index in
    let item = c.action-item.result in
    rw (take_more todo index item c.loop-action-test.true)
    (does_more _ _ _ _ _ _ _ _ (take index todo) (slice_index_or todo index item ∷ []) c.loop-action.invariant
    (for_action _ _ _ _ _ _ (slice_index_or todo index item) item (sym c.action-item.is) c.act.ensures))
