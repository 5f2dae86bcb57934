use Rattle.std.proofs.Common.{◌∙◌, ap}
use Rattle.helper_book.specs.Told.{settled}
use Rattle.helper_book.proofs.ReloadLemmas.{opened_stands}
use Rattle.helper_book.proofs.helper.Helper.new.Goals as goal

pub returns : goal.returns
returns c = λ cfg h section.
    opened_stands cfg h c.args.process c.settle.new.slot
    (c.settle.ensures.slot ∙ ap (settled c.args.process) c.in_ok-slot.ensures.slot) c.settle.ensures.window section
