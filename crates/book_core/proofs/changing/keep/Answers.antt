use Rattle.std.proofs.Common.{ap}
use Rattle.std.specs.Option.{option_copied}
use Rattle.book_core.proofs.ChangeLemmas.{can_keep, kept_settles}
use Rattle.book_core.proofs.changing.keep.Goals as goal

pub keep-requires : goal.keep-requires
keep-requires c =
    can_keep c.args.peering.now (option_copied c.args.section) c.args.numbers.now c.args.names c.in-Some.new.now
    c.requires.planned (ap option_copied c.in-Some.is) c.requires.section c.as_slice-statics.result.now
    c.as_slice-statics.ensures

pub returns : goal.returns
returns c =
    kept_settles c.args.peering.now (option_copied c.args.section) c.args.numbers.now c.args.names c.in-Some.new.now
    c.requires.planned (ap option_copied c.in-Some.is) c.as_slice-statics.result.now c.keep.new.self
    c.as_slice-statics.ensures c.keep.ensures
