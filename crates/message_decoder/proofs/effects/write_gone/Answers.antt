use Rattle.std.proofs.Common.{◌<◌, ◌≤◌, List, [], ◌∷◌, length, refl, sym, arith}
use Rattle.std.proofs.lemmas.Grind.{common_steps}
use Rattle.std.proofs.lemmas.Result.{err_from_is_err_and}
use Rattle.route_values.specs.declared.key.Key.{Key}
use Rattle.update_grammar.specs.declared.effect.Effect.{Effect}
use Rattle.update_grammar.specs.declared.effect.Effect.TheVariants.{Gone}
use Rattle.message_decoder.proofs.EffectLemmas.{as_flat, items_all, items_broke, items_more, named_broke, named_wrote}
use Rattle.message_decoder.proofs.WritingLemmas.{wrote_none}
use Rattle.message_decoder.proofs.effects.write_gone.Goals as goal

abbrev gone_one : Key → List Effect
gone_one key = Gone key ∷ []

pub keys-init : goal.keys-init
keys-init g c = wrote_none _ _ refl

pub keys-preserved : goal.keys-preserved
keys-preserved g c =
    let below : c.keys.key-index < length c.args.keys.now = grind (arith, common_steps) in
    items_more gone_one c.args.keys.now c.keys.key-index c.key-item.result _ _ _ below c.key-item.is
    c.keys.invariant c.in_ok-write_gone_line.ensures

pub returns-in_err-write_gone_line : goal.returns-in_err-write_gone_line
returns-in_err-write_gone_line g c =
    let below : c.keys.key-index < length c.args.keys.now = grind (arith, common_steps) in
    let e = err_from_is_err_and c.from_residual.result c.from_residual.ensures.1 in
    rw (e.1, e.2) (named_broke _ _ _ _ _ (sym (as_flat (λ key. Gone key) c.args.keys.now))
    (items_broke gone_one c.args.keys.now c.keys.key-index c.key-item.result _ _ _ _ below c.key-item.is
    c.keys.invariant c.in_err-write_gone_line.ensures))

pub returns : goal.returns
returns g c =
    let through : length c.args.keys.now ≤ c.keys.key-index = grind (arith, common_steps) in
    named_wrote _ _ _ _ (sym (as_flat (λ key. Gone key) c.args.keys.now))
    (items_all gone_one c.args.keys.now c.keys.key-index _ _ through c.keys.invariant)
