use Rattle.std.proofs.Common.{sym, subst}
use Rattle.route_values.specs.Key.{family_of_key}
use Rattle.route_values.specs.Sent.{sent}
use Rattle.batch_cutter.specs.Heads.{IsRoute}
use Rattle.config_model.specs.declared.sections.StaticRoute.{StaticRoute}
use Rattle.peer_book.proofs.StaticsLemmas.{puts_next, all_get}
use Rattle.std.proofs.lemmas.List.{take_all}
use Rattle.peer_book.specs.Statics.{statics_of, PutsStatics}
use Rattle.peer_book.proofs.StaticsLemmas.{puts_none}
use Rattle.peer_book.proofs.statics.put_statics.Goals as goal

pub put_static-requires-clause-route : goal.put_static-requires-clause-route
put_static-requires-clause-route c =
    let side = sym c.routes.invariant.puts.side in
    subst (λ s. IsRoute (family_of_key c.route-item.result.key) (sent c.route-item.result.attrs s)) side
    (subst (λ (r : StaticRoute). IsRoute (family_of_key r.key) (sent r.attrs c.args.table.now.side))
    (sym c.route-item.is)
    (all_get (λ (r : StaticRoute). IsRoute (family_of_key r.key) (sent r.attrs c.args.table.now.side)) c.args.routes.now
    c.routes.route-index c.route-item.result c.routes-test.true c.requires.routes))

pub routes-preserved : goal.routes-preserved
routes-preserved c = record {
  puts = puts_next c.args.table.now c.routes.table c.put_static.new.table c.args.routes.now c.routes.route-index
      c.route-item.result c.routes-test.true c.route-item.is c.routes.invariant.puts c.in_ok-put_static.ensures.puts;
  sound = c.put_static.ensures.sound;
}

pub routes-init : goal.routes-init
routes-init c = record { puts = puts_none c.args.table.now; sound = c.requires.sound }

pub put_static-requires-clause-sound : goal.put_static-requires-clause-sound
put_static-requires-clause-sound c = c.routes.invariant.sound

pub returns-in_err-put_static-clause-sound : goal.returns-in_err-put_static-clause-sound
returns-in_err-put_static-clause-sound c = c.put_static.ensures.sound

pub returns-clause-puts : goal.returns-clause-puts
returns-clause-puts c =
    subst (λ rs. PutsStatics c.args.table.now c.routes.table (statics_of rs))
    (take_all c.routes.route-index c.args.routes.now c.routes-test.false) c.routes.invariant.puts

pub returns-clause-sound : goal.returns-clause-sound
returns-clause-sound c = c.routes.invariant.sound
