use Rattle.std.proofs.Common.{sym, ap, ◌∙◌}
use Rattle.std.specs.Option.{option_copied}
use Rattle.book_core.proofs.ChoosingLemmas.{meant_chosen}
use Rattle.book_core.proofs.choosing.is_chosen.Goals as goal

pub returns : goal.returns
returns c =
    meant_chosen (option_copied c.args.process) c.args.command.now c.args.peering.now c.in-Some-process.process.now
    c.in-Some.pick.now c.in-Some-settings.settings c.own_family.result c.is_meant.result
    (ap option_copied c.in-Some-process.is) (sym c.pick_of.ensures ∙ ap option_copied c.in-Some.is)
    (sym c.settings.ensures.value ∙ c.in-Some-settings.is) c.own_family.ensures c.is_meant.ensures
