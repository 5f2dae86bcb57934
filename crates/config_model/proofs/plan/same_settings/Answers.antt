use Rattle.std.proofs.Common.{◌∙◌}
use Rattle.config_model.proofs.SettingsLemmas.{settings_tested}
use Rattle.config_model.proofs.plan.same_settings.Goals as goal

pub returns : goal.returns
returns c = c.eq.ensures ∙ settings_tested c.args.a.now c.args.b.now
