use Rattle.std.proofs.Common.{◌∙◌}
use Rattle.config_model.proofs.SettingsLemmas.{settings_tested}
use Rattle.book_core.proofs.planning.is_same.Goals as goal

pub returns : goal.returns
returns c = c.eq.ensures ∙ settings_tested c.args.own.now c.args.new.now
