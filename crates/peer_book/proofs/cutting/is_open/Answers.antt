use Rattle.peer_book.proofs.OpenLemmas.{open_next}
use Rattle.peer_book.proofs.cutting.is_open.Goals as goal

pub returns-in-Empty : goal.returns-in-Empty
returns-in-Empty c = open_next c.args.table.now _ c.in-Empty.ensures

pub returns-in-Gone : goal.returns-in-Gone
returns-in-Gone c = open_next c.args.table.now _ c.in-Gone.ensures

pub returns-in-Here : goal.returns-in-Here
returns-in-Here c = open_next c.args.table.now _ c.in-Here.ensures

pub returns-in-End : goal.returns-in-End
returns-in-End c = open_next c.args.table.now _ c.in-End.ensures
