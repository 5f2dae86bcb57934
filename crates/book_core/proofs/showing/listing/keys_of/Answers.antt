use Rattle.std.proofs.Common.{arith}
use Rattle.book_core.proofs.ShownKeyLemmas.{keys_listed, listed_next}
use Rattle.book_core.proofs.showing.listing.keys_of.Goals as goal

pub places-preserved : goal.places-preserved
places-preserved c =
    listed_next c.args.within.now c.args.slot.now.table c.places.place c.key_at.result c.places.keys.items
    c.put_key.new.keys.items (omega (arith, c.places-test.true, c.places-places.ensures.places)) c.key_at.ensures
    c.places.invariant c.in_ok-put_key.ensures

pub returns : goal.returns
returns c = λ steps stands.
    keys_listed c.args.within.now steps c.args.slot.now c.places.keys.items c.sort_unstable.new.self.items
    c.places.place c.places-places.ensures.apart
    (omega (arith, c.places-test.false, c.places-places.ensures.places)) c.places.invariant
    c.sort_unstable.ensures.permutation c.sort_unstable.ensures.sorted stands
