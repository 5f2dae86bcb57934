use Rattle.std.proofs.Common.{sym}
use Rattle.adj_rib_out.specs.Told.{route_told}
use Rattle.peer_book.proofs.CopyingLemmas.{copies_next, copies_skip, pair_route, pair_sent}
use Rattle.peer_book.proofs.copying.copy_at.Goals as goal

pub returns-in_default-clause-ok : goal.returns-in_default-clause-ok
returns-in_default-clause-ok c = λ start before.
    copies_skip c.args.given.now start c.args.table.now c.args.place c.places-places.ensures.apart before
    (sym c.in_default.ensures)

pub returns-in_default-clause-side : goal.returns-in_default-clause-side
returns-in_default-clause-side c = c.requires.side

pub returns-in_default-clause-sound : goal.returns-in_default-clause-sound
returns-in_default-clause-sound c = c.requires.sound

pub copy_entry-requires-clause-sound : goal.copy_entry-requires-clause-sound
copy_entry-requires-clause-sound c = c.requires.sound

pub copy_entry-requires-clause-side : goal.copy_entry-requires-clause-side
copy_entry-requires-clause-side c = c.requires.side

pub copy_entry-requires-clause-route : goal.copy_entry-requires-clause-route
copy_entry-requires-clause-route c =
    let route = route_told c.in-Some.entry in
    let key = c.in-Some.key.now in
    let at = pair_route c.args.given.now c.args.place key route c.places-places.ensures.apart
    (sym c.in-Some.ensures) in
    (c.args.given.now.side, c.requires.alike key route at, pair_sent c.args.given.now key route c.requires.given at)

pub returns-in_err-copy_entry-clause-side : goal.returns-in_err-copy_entry-clause-side
returns-in_err-copy_entry-clause-side c = c.copy_entry.ensures.side

pub returns-in_err-copy_entry-clause-sound : goal.returns-in_err-copy_entry-clause-sound
returns-in_err-copy_entry-clause-sound c = c.copy_entry.ensures.sound

pub returns-clause-ok : goal.returns-clause-ok
returns-clause-ok c = λ start before.
    copies_next c.args.given.now start c.args.table.now c.copy_entry.new.table c.args.place c.in-Some.key.now
    (route_told c.in-Some.entry) c.places-places.ensures.apart before (sym c.in-Some.ensures)
    c.in_ok-copy_entry.ensures.ok

pub returns-clause-side : goal.returns-clause-side
returns-clause-side c = c.copy_entry.ensures.side

pub returns-clause-sound : goal.returns-clause-sound
returns-clause-sound c = c.copy_entry.ensures.sound
