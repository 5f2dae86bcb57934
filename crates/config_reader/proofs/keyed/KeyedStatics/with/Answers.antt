use Rattle.config_reader.proofs.KeyedLemmas.{keys_put}
use Rattle.config_reader.proofs.keyed.KeyedStatics.with.Goals as goal

pub invariant_of-result : goal.invariant_of-result
invariant_of-result c =
    keys_put c.self.inside.keys.keys c.insert.new.self.keys c.self.inside.routes c.push.new.self c.args.route
    c.in_ok-insert.ensures.updates.0 c.self.invariant c.in_ok-push.ensures.ok
