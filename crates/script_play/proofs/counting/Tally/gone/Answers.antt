use Rattle.std.proofs.Common.{refl}
use Rattle.script_play.proofs.CountingLemmas.{took_gone}
use Rattle.script_play.proofs.counting.Tally.gone.Goals as goal

pub returns : goal.returns
returns c =
    took_gone c.args.keys.now c.args.self.now _ refl refl refl refl refl refl c.in_ok-self.ensures c.withdraw.ensures
