use Rattle.std.proofs.Common.{sym}
use Rattle.health_core.proofs.CommandLemmas.{announced_says, withdrawn_says}
use Rattle.health_core.proofs.commands.command.Goals as goal

pub returns-in-Some-clause-says : goal.returns-in-Some-clause-says
returns-in-Some-clause-says c =
    announced_says c.args.health.now c.args.up c.in-Some.med c.announcement.result (sym c.in-Some.ensures)
    c.announcement.ensures.hop c.announcement.ensures.med c.announcement.ensures.text c.announcement.ensures.short

pub returns-in-None-clause-says : goal.returns-in-None-clause-says
returns-in-None-clause-says c =
    withdrawn_says c.args.health.now c.args.up c.withdrawal.result (sym c.in-None.ensures) c.withdrawal.ensures.text
    c.withdrawal.ensures.short
