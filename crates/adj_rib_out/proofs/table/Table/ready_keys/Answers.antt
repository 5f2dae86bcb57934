use Rattle.std.proofs.Common.{◌<◌, ◌≤◌, length, arith}
use Rattle.std.proofs.lemmas.Grind.{common_steps}
use Rattle.adj_rib_out.proofs.PlacingLemmas.{on_err}
use Rattle.adj_rib_out.proofs.ReadyLemmas.{none_ready, keys_next, keys_some, keys_all}
use Rattle.adj_rib_out.proofs.table.Table.ready_keys.Goals as goal

pub keys-init : goal.keys-init
keys-init c = none_ready c.args.self.now

pub keys-preserved : goal.keys-preserved
keys-preserved c =
    let below : c.keys.key-index < length c.args.keys.now = grind (arith, common_steps) in
    keys_next c.args.keys.now c.keys.key-index c.key-item.result below c.key-item.is c.args.self.now c.keys.self
    c.ready_key.new.self c.keys.invariant c.in_ok-ready_key.ensures.ok

pub returns-in_err-ready_key-clause-err : goal.returns-in_err-ready_key-clause-err
returns-in_err-ready_key-clause-err c =
    let below : c.keys.key-index < length c.args.keys.now = grind (arith, common_steps) in
    on_err c.from_residual.result (keys_some c.args.keys.now c.keys.key-index c.key-item.result below c.key-item.is
    c.args.self.now c.keys.self c.ready_key.new.self c.keys.invariant c.in_err-ready_key.ensures.err)

pub returns-clause-ok : goal.returns-clause-ok
returns-clause-ok c =
    let through : length c.args.keys.now ≤ c.keys.key-index = grind (arith, common_steps) in
    keys_all c.args.keys.now c.keys.key-index through c.args.self.now c.keys.self c.keys.invariant
