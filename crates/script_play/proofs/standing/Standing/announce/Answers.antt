use Rattle.std.proofs.Common.{◌<◌, ◌≤◌, ◌++◌, true, List, length, refl, subst, arith}
use Rattle.std.proofs.lemmas.Grind.{common_steps}
use Rattle.route_values.specs.declared.key.Key.{Key}
use Rattle.update_grammar.specs.declared.effect.Effect.TheVariants.{Here}
use Rattle.update_grammar.specs.Update.{here_all}
use Rattle.script_play.specs.Standing.{AreLeftAt}
use Rattle.script_play.proofs.StandingLemmas.{follow_all, follow_more, follow_none}
use Rattle.script_play.proofs.standing.Standing.announce.Goals as goal

pub keys-init : goal.keys-init
keys-init c =
    follow_none (λ key. Here key c.args.announced.now.attrs) (λ key. refl) true (λ key. refl) c.as_slice-keys.result.now
    c.args.self.now

pub keys-preserved : goal.keys-preserved
keys-preserved c =
    let below : c.keys.key-index < length c.as_slice-keys.result.now = grind (arith, common_steps) in
    follow_more (λ key. Here key c.args.announced.now.attrs) (λ key. refl) true (λ key. refl)
    c.as_slice-keys.result.now c.keys.key-index c.key-item.result c.args.self.now c.keys.self c.put.new.self below
    c.key-item.is c.keys.invariant c.in_ok-put.ensures

pub returns : goal.returns
returns c =
    let through : length c.as_slice-keys.result.now ≤ c.keys.key-index = grind (arith, common_steps) in
    λ before left. subst (λ (keys : List Key).
    AreLeftAt (before ++ here_all c.args.announced.now.attrs keys) c.keys.self) c.as_slice-keys.ensures
    (follow_all (λ key. Here key c.args.announced.now.attrs) (λ key. refl) true (λ key. refl)
    c.as_slice-keys.result.now c.keys.key-index c.args.self.now c.keys.self through c.keys.invariant before left)
