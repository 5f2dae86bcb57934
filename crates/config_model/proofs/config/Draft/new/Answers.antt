use Rattle.config_model.proofs.DraftLemmas.{empty_is_draft}
use Rattle.config_model.proofs.config.Draft.new.Goals as goal

pub invariant_of-result : goal.invariant_of-result
invariant_of-result c = empty_is_draft c.new.result c.new-2.result c.new.ensures c.new-2.ensures
