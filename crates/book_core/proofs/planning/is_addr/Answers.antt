use Rattle.std.proofs.Common.{ap, ◌∙◌}
use Rattle.config_model.proofs.SettingsLemmas.{addr_tests}
use Rattle.book_core.proofs.planning.is_addr.Goals as goal

pub returns : goal.returns
returns c = c.eq.ensures ∙ ap (λ same. same c.args.a c.args.b) addr_tests
