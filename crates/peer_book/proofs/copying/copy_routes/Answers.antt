use Rattle.std.proofs.Common.{ap, arith}
use Rattle.adj_rib_out.specs.State.{State, route_at}
use Rattle.peer_book.proofs.CopyingLemmas.{copies_none, copies_whole}
use Rattle.peer_book.proofs.ExchangeLemmas.{sound_empty}
use Rattle.peer_book.proofs.copying.copy_routes.Goals as goal

pub places-init : goal.places-init
places-init c = record {
  copies = copies_none c.args.given.now c.args.table.now (λ key. ap (λ (t : State). route_at t key) c.requires.empty);
  side = ap (λ (t : State). t.side) c.requires.empty;
  sound = sound_empty c.args.table.now c.args.side.now c.requires.empty;
}

pub places-preserved : goal.places-preserved
places-preserved c = record {
  copies = c.in_ok-copy_at.ensures.ok c.args.table.now c.places.invariant.copies;
  side = c.copy_at.ensures.side;
  sound = c.copy_at.ensures.sound;
}

pub copy_at-requires-clause-given : goal.copy_at-requires-clause-given
copy_at-requires-clause-given c = c.requires.given

pub copy_at-requires-clause-sound : goal.copy_at-requires-clause-sound
copy_at-requires-clause-sound c = c.places.invariant.sound

pub copy_at-requires-clause-side : goal.copy_at-requires-clause-side
copy_at-requires-clause-side c = c.places.invariant.side

pub copy_at-requires-clause-alike : goal.copy_at-requires-clause-alike
copy_at-requires-clause-alike c = c.requires.alike

pub returns-in_err-copy_at-clause-sound : goal.returns-in_err-copy_at-clause-sound
returns-in_err-copy_at-clause-sound c = c.copy_at.ensures.sound

pub returns-clause-ok : goal.returns-clause-ok
returns-clause-ok c =
    copies_whole c.args.given.now c.args.table.now c.places.table c.places.place
    (omega (arith, c.places-count.ensures.places)) c.places.invariant.copies

pub returns-clause-sound : goal.returns-clause-sound
returns-clause-sound c = c.places.invariant.sound
