use Rattle.std.specs.Option.{option_copied}
use Rattle.book_core.proofs.ChangeLemmas.{exchange_settles}
use Rattle.book_core.proofs.changing.exchange.Goals as goal

pub exchange-requires : goal.exchange-requires
exchange-requires c = c.requires.closed

pub returns : goal.returns
returns c =
    exchange_settles c.args.peering.now (option_copied c.args.section) c.args.end c.args.with c.end_by.new.slot
    c.exchange.new.self c.args.names c.requires c.end_by.ensures c.exchange.ensures
