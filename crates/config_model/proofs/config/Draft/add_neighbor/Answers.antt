use Rattle.config_model.specs.Sections.{sections}
use Rattle.config_model.proofs.DraftLemmas.{neighbor_put}
use Rattle.config_model.proofs.config.Draft.add_neighbor.Goals as goal

pub invariant_of-self-2 : goal.invariant_of-self-2
invariant_of-self-2 c =
    neighbor_put (sections c.self.inside.processes c.self.inside.neighbors) c.args.self.now c.push.new.self
    c.args.neighbor c.self.view_is c.self.invariant c.requires.peer c.requires.section c.requires.room
    c.requires.routes c.in_ok-push.ensures.ok
