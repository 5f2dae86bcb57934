use Rattle.std.proofs.Common.{◌∙◌, subst, take, ap}
use Rattle.std.specs.Option.{option_map}
use Rattle.adj_rib_out.specs.State.{value_at, route_of}
use Rattle.adj_rib_out.specs.Calls.{Sets}
use Rattle.peer_book.proofs.TableLemmas.{sets_next, keys_next, named_item, route_same}
use Rattle.std.specs.Prelude.{is_some}
use Rattle.std.proofs.lemmas.List.{take_all}
use Rattle.peer_book.specs.Tables.{SetsEach, AreKeys}
use Rattle.peer_book.proofs.TableLemmas.{sets_none}
use Rattle.peer_book.proofs.table.set_each.Goals as goal

pub set-requires-clause-key : goal.set-requires-clause-key
set-requires-clause-key c =
    c.keys.invariant.sets.ready.keys c.key-item.result ∙ c.requires.ready c.key-item.result
    (named_item c.args.keys.now c.keys.key-index c.key-item.result c.keys-test.true c.key-item.is)

pub keys-preserved : goal.keys-preserved
keys-preserved c =
    let old = c.args.table.now in
    let route = option_map (λ written. route_of old.side written c.args.owner) (value_at old c.args.number) in
    record {
      sets = sets_next old c.keys.table c.set.new.self c.args.keys.now c.keys.key-index c.key-item.result route
          c.keys-test.true c.key-item.is c.keys.invariant.sets
          (subst (Sets c.keys.table c.set.new.self c.key-item.result)
          (route_same old c.keys.table (take c.keys.key-index c.args.keys.now) route c.args.number c.args.owner
          c.keys.invariant.sets) c.set.ensures.set);
      known = keys_next c.args.keys.now c.keys.key-index c.key-item.result c.keys-test.true c.key-item.is
          c.keys.invariant.known c.known.ensures;
    }

pub keys-init : goal.keys-init
keys-init c = record { sets = sets_none c.args.table.now _; known = λ key named. absurd cc }

pub set-requires-clause-value : goal.set-requires-clause-value
set-requires-clause-value c = ap is_some (c.keys.invariant.sets.ready.values c.args.number) ∙ c.requires.value

pub returns-clause-sets : goal.returns-clause-sets
returns-clause-sets c =
    subst (λ ks. SetsEach c.args.table.now c.keys.table ks (option_map
    (λ written. route_of c.args.table.now.side written c.args.owner) (value_at c.args.table.now c.args.number)))
    (take_all c.keys.key-index c.args.keys.now c.keys-test.false) c.keys.invariant.sets

pub returns-clause-keys : goal.returns-clause-keys
returns-clause-keys c =
    subst AreKeys (take_all c.keys.key-index c.args.keys.now c.keys-test.false) c.keys.invariant.known
