use Rattle.std.proofs.Common.{◌∙◌}
use Rattle.book_core.specs.Announcing.{announces}
use Rattle.book_core.specs.Moves.{nothing}
use Rattle.book_core.proofs.KeepLemmas.{kept_then}
use Rattle.book_core.proofs.announcing.announce_slots.Goals as goal

pub announce_all-requires-clause-slots : goal.announce_all-requires-clause-slots
announce_all-requires-clause-slots c = c.prepare_all.ensures.moved.count ∙ c.requires.slots

pub announce_all-requires-clause-readied : goal.announce_all-requires-clause-readied
announce_all-requires-clause-readied c = (c.args.written.now, c.in-Ok.ensures.readied)

pub returns : goal.returns
returns c = record {
  ok = kept_then c.args.peers.now.items c.prepare_all.new.peers.items c.announce_all.new.peers.items
      (announces c.args.chosen.now c.args.keys.now c.args.written.now) c.prepare_all.ensures.moved
      (c.announce_all.ensures c.args.written.now c.in-Ok.ensures.readied);
  err = tt;
}

pub returns-in_default-clause-err : goal.returns-in_default-clause-err
returns-in_default-clause-err c =
    kept_then c.args.peers.now.items c.prepare_all.new.peers.items c.trim_all.new.peers.items nothing
    c.prepare_all.ensures.moved c.trim_all.ensures
