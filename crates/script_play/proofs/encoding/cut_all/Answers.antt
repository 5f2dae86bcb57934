use Rattle.std.proofs.Common.{◌++◌, arith, refl}
use Rattle.std.proofs.lemmas.Result.{err_from_is_err_and}
use Rattle.script_play.proofs.RaisedLemmas.{slots_all, slots_more, slots_none, slots_stopped}
use Rattle.script_play.proofs.encoding.cut_all.Goals as goal

pub slots-init : goal.slots-init
slots-init g c = λ cfg H neighbors stands count. slots_none cfg H neighbors _ _ stands

pub slots-preserved : goal.slots-preserved
slots-preserved g c = λ cfg H neighbors stands count.
    let was = c.slots.invariant cfg H neighbors stands count in
    let below = c.slots-test.true in
    slots_more cfg H neighbors c.slots.n _ _ _ _ _ _ (omega (arith, below, count)) refl was
    (c.in_ok-cut_slot.ensures cfg (was.cuts.added ++ H) was.cuts.stands)

pub returns-in_err-cut_slot : goal.returns-in_err-cut_slot
returns-in_err-cut_slot g c =
    let e = err_from_is_err_and c.from_residual.result c.from_residual.ensures.1 in
    λ cfg H neighbors stands count.
    let was = c.slots.invariant cfg H neighbors stands count in
    let below = c.slots-test.true in
    rw (e.1, e.2)
    (slots_stopped cfg H neighbors c.slots.n _ c.cut_slot.new.player c.cut_slot.new.player _ _ _ _
    (omega (arith, below, count)) was (c.in_err-cut_slot.ensures cfg (was.cuts.added ++ H) was.cuts.stands))

pub returns : goal.returns
returns g c = λ cfg H neighbors stands count.
    let past = c.slots-test.false in
    let within = c.slots.auto.n-end in
    slots_all cfg H neighbors c.slots.n _ _ _ (omega (arith, past, within, count))
    (c.slots.invariant cfg H neighbors stands count)
