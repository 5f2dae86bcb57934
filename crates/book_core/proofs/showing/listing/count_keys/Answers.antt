use Rattle.std.proofs.Common.{◌<◌, ◌∙◌, length, sym, arith}
use Rattle.book_core.proofs.ShownKeyLemmas.{counted_none, counted_one, keys_counted}
use Rattle.book_core.proofs.showing.listing.count_keys.Goals.{then-is_some, else-is_some}
use Rattle.book_core.proofs.showing.listing.count_keys.Goals as goal

pub places-preserved : goal.places-preserved
places-preserved c =
    let within = c.args.within.now in
    let table = c.args.slot.now.table in
    let before = c.places.invariant.few in
    let below : c.places.place < length table.rows =
    omega (arith, c.places-test.true, c.places-places.ensures.places) in
    elim c.if-is_some.branch [
      | then-is_some w ↦ record {
        counted = w.count-is ∙ counted_one within table c.places.place c.places.count c.key_at.result below
            c.key_at.ensures c.places.invariant.counted (sym c.is_some.ensures ∙ w.if-is_some.true);
        few = let is = w.count-is in omega (arith, is, before);
      }
      | else-is_some w ↦ record {
        counted = w.count-is ∙ counted_none within table c.places.place c.places.count c.key_at.result below
            c.key_at.ensures c.places.invariant.counted (sym c.is_some.ensures ∙ w.if-is_some.false);
        few = let is = w.count-is in omega (arith, is, before);
      }
    ]

pub returns : goal.returns
returns c = λ steps stands.
    keys_counted c.args.within.now steps c.args.slot.now c.places.count c.places.place c.places-places.ensures.apart
    (omega (arith, c.places-test.false, c.places-places.ensures.places)) c.places.invariant.counted stands
