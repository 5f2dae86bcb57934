use Rattle.std.proofs.Common.{◌∙◌, ap}
use Rattle.adj_rib_out.specs.Kept.{parity_of}
use Rattle.adj_rib_out.proofs.PlacingLemmas.{nowhere_too, slot_within, slot_idle, key_stands, puts_key, made_alone}
use Rattle.adj_rib_out.proofs.PlacingLemmas.{on_err}
use Rattle.adj_rib_out.proofs.ready_key.put_key.Goals as goal

pub add-requires-clause-absent : goal.add-requires-clause-absent
add-requires-clause-absent c = nowhere_too c.args.keys.now.keys c.make_place.new.keys.keys c.args.key
    c.make_place.ensures.widens.keys c.requires.absent

pub claim-requires-clause-slot : goal.claim-requires-clause-slot
claim-requires-clause-slot c = slot_within c.args.keys.now c.make_place.new.keys c.add.new.self c.add.new.self
    c.args.routes.now.items c.make_place.new.routes.items c.args.slots.now c.make_place.new.slots c.make_place.new.slots
    c.make_place.ensures.widens c.args.key c.in_ok-place.place c.in_ok-place.ensures.ok

pub claim-requires-clause-idle : goal.claim-requires-clause-idle
claim-requires-clause-idle c = slot_idle c.args.keys.now c.make_place.new.keys c.add.new.self c.add.new.self
    c.args.routes.now.items c.make_place.new.routes.items c.args.slots.now c.make_place.new.slots c.make_place.new.slots
    c.make_place.ensures.widens c.args.key c.in_ok-place.place c.in_ok-place.ensures.ok c.requires.vacant

pub note-requires : goal.note-requires
note-requires c = key_stands c.args.keys.now c.make_place.new.keys c.add.new.self c.add.new.self
    c.args.routes.now.items c.make_place.new.routes.items c.args.slots.now c.make_place.new.slots c.make_place.new.slots
    c.make_place.ensures.widens c.args.key c.in_ok-place.place c.in_ok-place.ensures.ok

pub returns-in_err-place-clause-err : goal.returns-in_err-place-clause-err
returns-in_err-place-clause-err c = on_err c.from_residual-in_err-place.result (made_alone c.args.keys.now
    c.make_place.new.keys c.add.new.self c.args.routes.now.items c.make_place.new.routes.items c.args.slots.now
    c.make_place.new.slots c.make_place.ensures.widens c.in_err-place.ensures.err)

pub returns-clause-ok : goal.returns-clause-ok
returns-clause-ok c = puts_key c.args.keys.now c.make_place.new.keys c.add.new.self c.note.new.self
    c.args.routes.now.items c.make_place.new.routes.items c.args.slots.now c.make_place.new.slots c.claim.new.self
    c.make_place.ensures.widens c.args.key c.in_ok-place.place c.in_ok-place.ensures.ok c.parity_of.result
    (c.parity_of.ensures.parity ∙ ap parity_of c.family.ensures) c.note.ensures c.claim.ensures
