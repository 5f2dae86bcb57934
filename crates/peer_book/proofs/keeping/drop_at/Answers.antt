use Rattle.peer_book.proofs.DroppingLemmas.{drop_none, drop_some}
use Rattle.peer_book.proofs.keeping.drop_at.Goals as goal

pub returns-in_default : goal.returns-in_default
returns-in_default c = λ start before.
    drop_none c.args.numbers.now start c.args.table.now c.args.place before c.in_default.ensures

pub returns : goal.returns
returns c = λ start before.
    drop_some c.args.numbers.now start c.args.table.now c.unset.new.self c.args.place c.in-Some.key
    c.places-places.ensures.apart before c.in-Some.ensures c.unset.ensures.set
