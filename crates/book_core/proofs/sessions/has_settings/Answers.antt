use Rattle.std.proofs.Common.{sym, ap, ◌∙◌}
use Rattle.config_model.proofs.SettingsLemmas.{settings_tested}
use Rattle.book_core.specs.Ready.{are_settings}
use Rattle.book_core.proofs.sessions.has_settings.Goals as goal

pub returns-in-Some : goal.returns-in-Some
returns-in-Some c =
    c.eq.ensures ∙ settings_tested c.in-Some.own c.args.settings.now
    ∙ ap (λ o. are_settings o c.args.settings.now) (sym c.in-Some.is ∙ c.settings.ensures.value)
