use Rattle.std.proofs.Common.{◌<◌, ◌≤◌, ap, length, refl, arith}
use Rattle.std.proofs.lemmas.Grind.{common_steps}
use Rattle.std.proofs.lemmas.Result.{err_from_is_err_and}
use Rattle.update_grammar.specs.Update.{here_all}
use Rattle.update_codec.specs.Effects.{announced_effects}
use Rattle.message_decoder.proofs.EffectLemmas.{items_all, items_broke, items_more, named_broke, named_wrote}
use Rattle.message_decoder.proofs.WritingLemmas.{wrote_none}
use Rattle.message_decoder.proofs.effects.write_here.Goals as goal

pub announced-init : goal.announced-init
announced-init g c = wrote_none _ _ refl

pub announced-preserved : goal.announced-preserved
announced-preserved g c =
    let below : c.announced.announced-index < length c.args.here.now = grind (arith, common_steps) in
    items_more announced_effects c.args.here.now c.announced.announced-index c.announced-item.result _ _ _ below
    c.announced-item.is c.announced.invariant
    (named_wrote _ _ _ _ (ap (here_all c.announced-item.result.attrs) c.as_slice.ensures) c.in_ok-write_keys.ensures)

pub returns-in_err-write_keys : goal.returns-in_err-write_keys
returns-in_err-write_keys g c =
    let below : c.announced.announced-index < length c.args.here.now = grind (arith, common_steps) in
    let e = err_from_is_err_and c.from_residual.result c.from_residual.ensures.1 in
    rw (e.1, e.2)
    (items_broke announced_effects c.args.here.now c.announced.announced-index c.announced-item.result _ _ _ _ below
    c.announced-item.is c.announced.invariant
    (named_broke _ _ _ _ _ (ap (here_all c.announced-item.result.attrs) c.as_slice.ensures)
    c.in_err-write_keys.ensures))

pub returns : goal.returns
returns g c =
    let through : length c.args.here.now ≤ c.announced.announced-index = grind (arith, common_steps) in
    items_all announced_effects c.args.here.now c.announced.announced-index _ _ through c.announced.invariant
