use Rattle.std.proofs.Common.{subst}
use Rattle.std.specs.Option.{option_copied}
use Rattle.book_core.specs.Changing.{IsPlanned}
use Rattle.book_core.proofs.ChangeLemmas.{vacant_settles}
use Rattle.book_core.proofs.changing.carry.Goals as goal

pub returns-in-Keep : goal.returns-in-Keep
returns-in-Keep c = c.keep.ensures

pub returns-in-Nothing : goal.returns-in-Nothing
returns-in-Nothing c =
    let planned = subst (IsPlanned c.args.peering.now (option_copied c.args.section)) c.in-Nothing.is
    c.requires.planned in
    vacant_settles c.args.peering.now (option_copied c.args.section) planned.0 planned.1

pub returns-in-Exchange : goal.returns-in-Exchange
returns-in-Exchange c = c.exchange.ensures

pub keep-requires-clause-planned : goal.keep-requires-clause-planned
keep-requires-clause-planned c =
    subst (IsPlanned c.args.peering.now (option_copied c.args.section)) c.in-Keep.is c.requires.planned

pub keep-requires-clause-section : goal.keep-requires-clause-section
keep-requires-clause-section c = c.requires.section

pub exchange-requires : goal.exchange-requires
exchange-requires c =
    subst (IsPlanned c.args.peering.now (option_copied c.args.section)) c.in-Exchange.is c.requires.planned
