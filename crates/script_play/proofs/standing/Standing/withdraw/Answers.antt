use Rattle.std.proofs.Common.{◌<◌, ◌≤◌, false, length, refl, arith}
use Rattle.std.proofs.lemmas.Grind.{common_steps}
use Rattle.update_grammar.specs.declared.effect.Effect.TheVariants.{Gone}
use Rattle.script_play.proofs.StandingLemmas.{follow_all, follow_more, follow_none}
use Rattle.script_play.proofs.standing.Standing.withdraw.Goals as goal

pub keys-init : goal.keys-init
keys-init c = follow_none (λ key. Gone key) (λ key. refl) false (λ key. refl) c.args.keys.now c.args.self.now

pub keys-preserved : goal.keys-preserved
keys-preserved c =
    let below : c.keys.key-index < length c.args.keys.now = grind (arith, common_steps) in
    follow_more (λ key. Gone key) (λ key. refl) false (λ key. refl) c.args.keys.now c.keys.key-index
    c.key-item.result c.args.self.now c.keys.self c.take.new.self below c.key-item.is c.keys.invariant c.take.ensures

pub returns : goal.returns
returns c =
    let through : length c.args.keys.now ≤ c.keys.key-index = grind (arith, common_steps) in
    follow_all (λ key. Gone key) (λ key. refl) false (λ key. refl) c.args.keys.now c.keys.key-index
    c.args.self.now c.keys.self through c.keys.invariant
