use Rattle.std.proofs.Common.{arith, refl}
use Rattle.std.proofs.lemmas.Option.{slice_get-get_or}
use Rattle.script_play.proofs.RaisedLemmas.{raised_all, raised_more, raised_none}
use Rattle.script_play.proofs.encoding.start.Goals as goal

pub slots-init : goal.slots-init
slots-init c = λ cfg neighbors stands are.
    let spawned = c.spawn.ensures cfg stands in
    raised_none cfg neighbors _ spawned.0 spawned.1

pub slots-preserved : goal.slots-preserved
slots-preserved c = λ cfg neighbors stands are.
    let was = c.slots.invariant cfg neighbors stands are in
    let up = c.raise.ensures cfg was.raised was.stands in
    raised_more cfg neighbors c.args.settings.now c.slots.n _ _ _ _ up.0 are c.slots-test.true
    (slice_get-get_or c.args.settings.now c.slots.n _ c.slots-test.true) refl was up.1

pub returns : goal.returns
returns c = λ cfg neighbors stands are.
    let past = c.slots-test.false in
    let within = c.slots.auto.n-end in
    raised_all cfg neighbors c.args.settings.now c.slots.n _ are (omega (arith, past, within))
    (c.slots.invariant cfg neighbors stands are)
