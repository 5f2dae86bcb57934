use Rattle.std.proofs.Common.{sym}
use Rattle.peer_book.proofs.ClearLemmas.{unset_none, unset_some, pair_none}
use Rattle.peer_book.proofs.clearing.unset_at.Goals as goal

pub returns-in_default : goal.returns-in_default
returns-in_default c = λ start before.
    unset_none start c.args.table.now c.args.place before (pair_none _ _ c.in_default.ensures)

pub returns : goal.returns
returns c = λ start before.
    unset_some start c.args.table.now c.unset.new.self c.args.place c.in-Some.key c.places-places.ensures.apart before
    (sym c.in-Some.ensures) c.unset.ensures.set
