use Rattle.config_model.specs.Sections.{sections}
use Rattle.config_model.proofs.DraftLemmas.{process_put}
use Rattle.config_model.proofs.config.Draft.add_process.Goals as goal

pub invariant_of-self-2 : goal.invariant_of-self-2
invariant_of-self-2 c =
    process_put (sections c.self.inside.processes c.self.inside.neighbors) c.args.self.now c.push.new.self
    c.args.process c.self.view_is c.self.invariant c.requires.name c.requires.room c.in_ok-push.ensures.ok
