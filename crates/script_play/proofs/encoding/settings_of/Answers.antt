use Rattle.std.proofs.Common.{ap, length, arith}
use Rattle.std.proofs.lemmas.List.{length-map}
use Rattle.config_model.specs.declared.sections.Neighbor.{Neighbor}
use Rattle.route_values.specs.declared.settings.Settings.{Settings}
use Rattle.script_play.proofs.RaisedLemmas.{settings_all, settings_more}
use Rattle.script_play.proofs.encoding.settings_of.Goals as goal

pub neighbors-init : goal.neighbors-init
neighbors-init c = c.new-all.ensures.items

pub neighbors-preserved : goal.neighbors-preserved
neighbors-preserved c =
    settings_more c.neighbors-neighbor-items.result.now c.args.config.now.neighbors c.neighbors.neighbor-index
    c.neighbor-item.result _ _ c.neighbors-neighbor-items.ensures.value c.neighbors-test.true c.neighbor-item.is
    c.neighbors.invariant c.in_ok-push.ensures.items

pub returns-clause-settings : goal.returns-clause-settings
returns-clause-settings c =
    settings_all c.neighbors-neighbor-items.result.now c.args.config.now.neighbors c.neighbors.neighbor-index _
    c.neighbors-neighbor-items.ensures.value c.neighbors-test.false c.neighbors.invariant

pub returns-clause-few : goal.returns-clause-few
returns-clause-few c =
    let few = c.neighbors-neighbor-items.ensures.kept.draft.few_neighbors in
    let settings : Neighbor → Settings = λ one. one.settings in
    omega (
      arith,
      few,
      ap (length {A = Settings}) (returns-clause-settings c),
      length-map c.args.config.now.neighbors settings,
    )
