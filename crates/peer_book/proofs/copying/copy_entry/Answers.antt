use Rattle.std.proofs.Common.{[], ◌∷◌, ap, sym, ◌∙◌, subst}
use Rattle.std.specs.Prelude.{is_some}
use Rattle.route_values.specs.Key.{family_of_key}
use Rattle.route_values.specs.Sent.{sent}
use Rattle.batch_cutter.specs.Heads.{IsRoute}
use Rattle.adj_rib_out.specs.Told.{route_told}
use Rattle.peer_book.proofs.KeptLemmas.{sound_calm, calm_failed}
use Rattle.peer_book.proofs.StaticsLemmas.{key_ready, ready_value}
use Rattle.peer_book.proofs.CopyingLemmas.{puts_asked, route_moved, sound_asked}
use Rattle.peer_book.proofs.copying.copy_entry.Goals as goal

pub returns-in_err-number-clause-side : goal.returns-in_err-number-clause-side
returns-in_err-number-clause-side c = c.in_err-number.ensures.err.routes.side ∙ c.requires.side

pub returns-in_err-number-clause-sound : goal.returns-in_err-number-clause-sound
returns-in_err-number-clause-sound c =
    sound_calm c.args.table.now c.ready.new.self c.requires.sound
    (calm_failed c.args.table.now c.ready.new.self (c.args.key.now ∷ []) c.in_err-number.ensures.err)

pub set_each-requires-clause-ready : goal.set_each-requires-clause-ready
set_each-requires-clause-ready c =
    key_ready c.args.table.now c.ready.new.self c.args.key.now c.args.entry.written.now c.in_ok-number.number
    c.in_ok-number.ensures.ok

pub set_each-requires-clause-value : goal.set_each-requires-clause-value
set_each-requires-clause-value c =
    ap is_some (ready_value c.args.table.now c.ready.new.self (c.args.key.now ∷ []) c.args.entry.written.now
    c.in_ok-number.number c.in_ok-number.ensures.ok)

pub returns-clause-ok : goal.returns-clause-ok
returns-clause-ok c =
    puts_asked c.args.table.now c.ready.new.self c.set_each.new.table c.args.key.now (route_told c.args.entry)
    c.in_ok-number.number c.in_ok-number.ensures.ok c.set_each.ensures.sets

pub returns-clause-side : goal.returns-clause-side
returns-clause-side c = c.set_each.ensures.sets.side ∙ c.in_ok-number.ensures.ok.routes.side ∙ c.requires.side

pub returns-clause-sound : goal.returns-clause-sound
returns-clause-sound c =
    sound_asked c.args.table.now c.ready.new.self c.set_each.new.table c.args.key.now (route_told c.args.entry)
    c.in_ok-number.number c.in_ok-number.ensures.ok c.set_each.ensures.sets c.set_each.ensures.keys
    (subst (λ side. IsRoute (family_of_key c.args.key.now) (sent c.args.entry.written.now side)) (sym c.requires.side)
    (route_moved (family_of_key c.args.key.now) c.requires.route.0 c.args.side.now c.requires.route.1
    c.known_side.ensures.local c.known_side.ensures.local_as c.args.entry.written.now c.known_if.ensures
    c.requires.route.2))
    c.requires.sound
