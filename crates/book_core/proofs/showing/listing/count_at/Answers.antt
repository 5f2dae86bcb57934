use Rattle.book_core.proofs.ShownKeyLemmas.{counted_all}
use Rattle.book_core.proofs.showing.listing.count_at.Goals as goal

pub returns-in-Some : goal.returns-in-Some
returns-in-Some c = λ steps stands.
    counted_all c.args.within.now steps c.in-Some.field-0 c.args.so c.settings.result c.count_keys.result
    c.if-not-so.false c.in-Some.is (c.settings.ensures.told steps stands) (c.count_keys.ensures steps stands)
