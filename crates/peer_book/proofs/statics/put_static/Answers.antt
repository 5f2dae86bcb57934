use Rattle.std.proofs.Common.{[], ◌∷◌}
use Rattle.adj_rib_out.specs.Told.{route_told}
use Rattle.peer_book.proofs.KeptLemmas.{sound_calm, calm_failed}
use Rattle.peer_book.proofs.StaticsLemmas.{calm_readies, none_at, put_new, sound_put}
use Rattle.std.proofs.Common.{ap, ◌∙◌}
use Rattle.std.specs.Prelude.{is_some}
use Rattle.peer_book.proofs.StaticsLemmas.{put_there, key_ready, ready_value}
use Rattle.peer_book.proofs.statics.put_static.Goals as goal

pub returns-in_err-number-clause-sound : goal.returns-in_err-number-clause-sound
returns-in_err-number-clause-sound c =
    sound_calm c.args.table.now c.ready.new.self c.requires.sound
    (calm_failed c.args.table.now c.ready.new.self (c.args.route.now.key ∷ []) c.in_err-number.ensures.err)

pub returns-else-is_none-clause-sound : goal.returns-else-is_none-clause-sound
returns-else-is_none-clause-sound c =
    sound_calm c.args.table.now c.ready.new.self c.requires.sound
    (calm_readies c.args.table.now c.ready.new.self (c.args.route.now.key ∷ []) c.args.route.now.attrs
    c.in_ok-number.number c.in_ok-number.ensures.ok)

pub returns-then-is_none-clause-puts : goal.returns-then-is_none-clause-puts
returns-then-is_none-clause-puts c =
    put_new c.args.table.now c.ready.new.self c.set_each.new.table c.args.route.now.key c.args.route.now.attrs
    c.in_ok-number.number c.in_ok-number.ensures.ok
    (none_at route_told c.get.result c.is_none.result _ c.is_none.ensures c.if-is_none.true c.get.ensures)
    c.set_each.ensures.sets

pub returns-then-is_none-clause-sound : goal.returns-then-is_none-clause-sound
returns-then-is_none-clause-sound c =
    sound_put c.args.table.now c.ready.new.self c.set_each.new.table c.args.route.now.key c.args.route.now.attrs
    c.in_ok-number.number c.in_ok-number.ensures.ok
    (none_at route_told c.get.result c.is_none.result _ c.is_none.ensures c.if-is_none.true c.get.ensures)
    c.set_each.ensures.sets c.requires.sound c.set_each.ensures.keys c.requires.route

pub returns-in_err-number-clause-side : goal.returns-in_err-number-clause-side
returns-in_err-number-clause-side c = c.in_err-number.ensures.err.routes.side

pub set_each-requires-clause-ready : goal.set_each-requires-clause-ready
set_each-requires-clause-ready c =
    key_ready c.args.table.now c.ready.new.self c.args.route.now.key c.args.route.now.attrs c.in_ok-number.number
    c.in_ok-number.ensures.ok

pub set_each-requires-clause-value : goal.set_each-requires-clause-value
set_each-requires-clause-value c =
    ap is_some (ready_value c.args.table.now c.ready.new.self (c.args.route.now.key ∷ []) c.args.route.now.attrs
    c.in_ok-number.number c.in_ok-number.ensures.ok)

pub returns-then-is_none-clause-side : goal.returns-then-is_none-clause-side
returns-then-is_none-clause-side c = c.set_each.ensures.sets.side ∙ c.in_ok-number.ensures.ok.routes.side

pub returns-else-is_none-clause-side : goal.returns-else-is_none-clause-side
returns-else-is_none-clause-side c = c.in_ok-number.ensures.ok.routes.side

pub returns-else-is_none-clause-puts : goal.returns-else-is_none-clause-puts
returns-else-is_none-clause-puts c =
    put_there route_told c.args.table.now c.ready.new.self c.args.route.now.key c.args.route.now.attrs
    c.in_ok-number.number c.get.result c.is_none.result c.in_ok-number.ensures.ok c.is_none.ensures c.if-is_none.false
    c.get.ensures
