use Rattle.std.proofs.Common.{List, ◌∙◌, ap}
use Rattle.config_model.specs.declared.sections.StaticRoute.{StaticRoute}
use Rattle.config_reader.specs.Statics.{stood}
use Rattle.config_reader.proofs.KeyedLemmas.{key_stood}
use Rattle.config_reader.proofs.keyed.KeyedStatics.stood.Goals as goal

pub returns : goal.returns
returns c =
    c.contains.ensures ∙ key_stood c.self.inside.keys.keys c.self.inside.routes c.args.key.now c.self.invariant
    ∙ ap (λ (routes : List StaticRoute). stood routes c.args.key.now) c.self.view_is
