use Rattle.std.proofs.Common.{◌∙◌, ◌∷◌, [], ap, refl, sym, arith}
use Rattle.std.specs.Prelude.{is_some}
use Rattle.adj_rib_out.proofs.InsideLemmas.{parts}
use Rattle.adj_rib_out.proofs.PlacingLemmas.{on_err}
use Rattle.adj_rib_out.proofs.PutLemmas as put
use Rattle.adj_rib_out.proofs.ReadyKeyLemmas as ready
use Rattle.adj_rib_out.proofs.RowLemmas.{none_of}
use Rattle.adj_rib_out.proofs.table.Table.ready_key.Goals as goal

pub returns-then-is_some-clause-ok : goal.returns-then-is_some-clause-ok
returns-then-is_some-clause-ok c = ready.stands_ready (parts c.self.inside) c.self.inside.keys.idle
    c.self.inside.values.routes c.self.inside.values.uses c.self.invariant c.args.self.now c.self.view_is
    c.args.key.now (ap is_some (sym c.place_of.ensures) ∙ sym c.is_some.ensures ∙ c.if-is_some.true)

pub returns-in_err-room-clause-err : goal.returns-in_err-room-clause-err
returns-in_err-room-clause-err c = on_err c.from_residual.result (ready.nothing_ready (parts c.self.inside)
    c.self.inside.keys.idle c.self.inside.values.routes c.self.inside.values.uses c.self.invariant c.args.self.now
    c.self.view_is (c.args.key.now ∷ []))

pub invariant_of-self : goal.invariant_of-self
invariant_of-self c = ready.before_whole (parts c.self.inside) c.self.inside.keys.idle c.self.inside.values.routes
    c.self.inside.values.uses c.self.invariant c.args.self.now c.self.view_is
    c.reserve.new.self c.in_err-reserve.ensures.err

pub returns-in_err-reserve-clause-err : goal.returns-in_err-reserve-clause-err
returns-in_err-reserve-clause-err c = on_err c.from_residual-in_err-reserve.result (ready.before_ready
    (parts c.self.inside) c.self.inside.keys.idle c.self.inside.values.routes c.self.inside.values.uses c.self.invariant
    c.args.self.now c.self.view_is c.reserve.new.self c.in_err-reserve.ensures.err (c.args.key.now ∷ []))

pub put_key-requires-clause-lengths : goal.put_key-requires-clause-lengths
put_key-requires-clause-lengths c = put.still_one_length (parts c.self.inside) c.self.invariant.table
    c.reserve.new.self c.in_ok-room.room
    (let room = c.in_ok-room.ensures in let wires = c.wires.ensures.wires in omega arith) c.in_ok-reserve.ensures.ok

pub put_key-requires-clause-absent : goal.put_key-requires-clause-absent
put_key-requires-clause-absent c =
    sym c.place_of.ensures ∙ none_of c.place_of.result (sym c.is_some.ensures ∙ c.if-is_some.false)

pub put_key-requires-clause-vacant : goal.put_key-requires-clause-vacant
put_key-requires-clause-vacant c = put.still_idle (parts c.self.inside) c.self.invariant.table
    c.reserve.new.self c.in_ok-room.room
    (let room = c.in_ok-room.ensures in let wires = c.wires.ensures.wires in omega arith) c.in_ok-reserve.ensures.ok

pub invariant_of-self-2 : goal.invariant_of-self-2
invariant_of-self-2 c = ready.then_whole (parts c.self.inside) c.self.inside.keys.idle c.self.inside.values.routes
    c.self.inside.values.uses c.self.invariant c.args.self.now c.self.view_is
    c.reserve.new.self c.in_ok-room.room
    (let room = c.in_ok-room.ensures in let wires = c.wires.ensures.wires in omega arith) c.in_ok-reserve.ensures.ok
    c.self.inside.keys c.put_key.new.keys refl refl c.put_key.new.routes.items c.put_key.new.slots c.args.key.now
    (sym c.place_of.ensures ∙ none_of c.place_of.result (sym c.is_some.ensures ∙ c.if-is_some.false))
    c.put_key.result c.put_key.ensures.ok c.put_key.ensures.err

pub returns-clause-ok : goal.returns-clause-ok
returns-clause-ok c = ready.then_ready (parts c.self.inside) c.self.inside.keys.idle c.self.inside.values.routes
    c.self.inside.values.uses c.self.invariant c.args.self.now c.self.view_is
    c.reserve.new.self c.in_ok-room.room
    (let room = c.in_ok-room.ensures in let wires = c.wires.ensures.wires in omega arith) c.in_ok-reserve.ensures.ok
    c.self.inside.keys c.put_key.new.keys refl refl c.put_key.new.routes.items c.put_key.new.slots c.args.key.now
    (sym c.place_of.ensures ∙ none_of c.place_of.result (sym c.is_some.ensures ∙ c.if-is_some.false))
    c.put_key.result c.put_key.ensures.ok

pub returns-clause-err : goal.returns-clause-err
returns-clause-err c = ready.then_some (parts c.self.inside) c.self.inside.keys.idle c.self.inside.values.routes
    c.self.inside.values.uses c.self.invariant c.args.self.now c.self.view_is
    c.reserve.new.self c.in_ok-room.room
    (let room = c.in_ok-room.ensures in let wires = c.wires.ensures.wires in omega arith) c.in_ok-reserve.ensures.ok
    c.self.inside.keys c.put_key.new.keys refl refl c.put_key.new.routes.items c.put_key.new.slots c.args.key.now
    (sym c.place_of.ensures ∙ none_of c.place_of.result (sym c.is_some.ensures ∙ c.if-is_some.false))
    c.put_key.result c.put_key.ensures.err
