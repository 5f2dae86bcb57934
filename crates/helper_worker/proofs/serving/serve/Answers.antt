use Rattle.std.proofs.Common.{◌∙◌}
use Rattle.helper_worker.proofs.HandingLemmas.{is_answered, serves_one}
use Rattle.helper_worker.proofs.serving.serve.Goals as goal

pub invariant_of-result : goal.invariant_of-result
invariant_of-result g c =
    record {
      of = c.glimpse-glimpse.ensures.glimpse.0 ∙ c.requires.named;
      answered =
          is_answered _ _ _ _ _ _ _ _ _ _ _ _ _ c.learn.ensures.learned c.answer.ensures c.requires.name
          c.requires.fresh c.args.errand.new c.requires.its c.args.errand.goes c.glimpse-glimpse.ensures.glimpse.1;
    }

pub returns-clause-serves : goal.returns-clause-serves
returns-clause-serves g c =
    serves_one _ _ _ _ _ _ _ _ _ _ _ c.learn.ensures.learned c.answer.ensures c.glimpse-glimpse.ensures.same
