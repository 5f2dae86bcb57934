use Rattle.std.proofs.Common.{List, sym, subst}
use Rattle.std.specs.Prelude.{Option}
use Rattle.update_grammar.specs.declared.effect.Effect.{Effect}
use Rattle.script_play.specs.Counting.{TookEffects, effects_of}
use Rattle.script_play.proofs.CountingLemmas.{took_none}
use Rattle.script_play.proofs.counting.Tally.count_said.Goals as goal

pub returns-in-None : goal.returns-in-None
returns-in-None c =
    subst (λ (said : Option (List Effect)). TookEffects (effects_of said) c.args.self.now c.args.self.now)
    (sym c.in-None.is) (took_none c.args.self.now)
