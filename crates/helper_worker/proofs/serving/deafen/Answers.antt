use Rattle.std.proofs.Common.{◌∙◌}
use Rattle.helper_worker.proofs.HandingLemmas.{deafens_one, is_deafened}
use Rattle.helper_worker.proofs.serving.deafen.Goals as goal

pub invariant_of-result : goal.invariant_of-result
invariant_of-result g c =
    record {
      of = c.glimpse-glimpse.ensures.glimpse.0 ∙ c.requires.named;
      answered =
          is_deafened _ _ _ _ _ _ _ _ _ _ _ _ c.learn.ensures.learned c.enter.ensures.entered c.requires.name
          c.requires.fresh c.args.errand.new c.requires.its c.args.errand.goes c.requires.stops
          c.glimpse-glimpse.ensures.glimpse.1;
    }

pub returns-clause-makes : goal.returns-clause-makes
returns-clause-makes g c =
    deafens_one _ _ _ _ _ _ _ _ c.learn.ensures.learned c.enter.ensures.entered c.glimpse-glimpse.ensures.same
