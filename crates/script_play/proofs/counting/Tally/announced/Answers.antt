use Rattle.std.proofs.Common.{◌+◌, ap, refl, ◌∙◌}
use Rattle.script_play.proofs.CountingLemmas.{took_here}
use Rattle.script_play.proofs.counting.Tally.announced.Goals as goal

pub returns : goal.returns
returns c =
    took_here c.args.announced.now c.args.self.now _ c.announce.result refl refl refl refl refl
    (c.in_ok-self.ensures ∙ ap (λ count. c.args.self.now.announced + count) c.len.ensures) refl c.announce.ensures
