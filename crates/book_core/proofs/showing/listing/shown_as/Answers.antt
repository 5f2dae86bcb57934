use Rattle.adj_rib_out.specs.Told.{route_told}
use Rattle.book_core.proofs.ShownSlotLemmas.{shown_is}
use Rattle.book_core.proofs.showing.listing.shown_as.Goals as goal

pub returns : goal.returns
returns c =
    shown_is c.args.settings.now c.args.key.now (route_told c.args.entry) c.hop_of.result c.is_fixed.result
    c.hop_of.ensures c.is_fixed.ensures
