use Rattle.std.specs.List.{flat_map}
use Rattle.update_grammar.specs.Update.{gone_all}
use Rattle.update_codec.specs.Effects.{announced_effects}
use Rattle.script_play.proofs.CountingLemmas.{takes_both}
use Rattle.script_play.proofs.counting.Tally.effects.Goals as goal

pub returns : goal.returns
returns c =
    takes_both (gone_all c.parts-parts.result.gone.now) (flat_map announced_effects c.parts-parts.result.here.now)
    c.args.effects.now c.args.self.now c.gone.new.self c.here.new.self c.here.result c.parts-parts.ensures
    c.in_ok-gone.ensures c.here.ensures
