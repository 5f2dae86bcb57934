use Rattle.std.proofs.Common.{[], sym, subst, take}
use Rattle.std.proofs.lemmas.List.{take_all}
use Rattle.adj_rib_out.specs.Calls.{ReadiesSome}
use Rattle.peer_book.specs.Numbers.{keys_in, AreNumbered}
use Rattle.peer_book.specs.Statics.{statics_of}
use Rattle.peer_book.proofs.NumberLemmas.{some_same, some_next, some_failed, numbered_none, numbered_next}
use Rattle.peer_book.proofs.keeping.number_statics.Goals as goal

pub routes-init : goal.routes-init
routes-init c = record {
  numbered = subst (AreNumbered c.args.table.now []) (sym c.new-numbers.ensures) (numbered_none c.args.table.now);
  some = some_same c.args.table.now [];
}

pub routes-preserved : goal.routes-preserved
routes-preserved c = record {
  numbered = numbered_next c.number_static.new.table c.args.routes.now c.routes.route-index c.route-item.result
      c.number_static.new.numbers c.routes-test.true c.route-item.is
      (c.in_ok-number_static.ensures.ok (statics_of (take c.routes.route-index c.args.routes.now))
      c.routes.invariant.numbered);
  some = some_next c.args.table.now c.routes.table c.number_static.new.table c.args.routes.now c.routes.route-index
      c.route-item.result c.routes-test.true c.route-item.is c.routes.invariant.some c.number_static.ensures.some;
}

pub returns-in_err-number_static-clause-some : goal.returns-in_err-number_static-clause-some
returns-in_err-number_static-clause-some c =
    some_failed c.args.table.now c.routes.table c.number_static.new.table c.args.routes.now c.routes.route-index
    c.route-item.result c.routes-test.true c.route-item.is c.routes.invariant.some c.number_static.ensures.some

pub returns-clause-ok : goal.returns-clause-ok
returns-clause-ok c =
    subst (λ rs. AreNumbered c.routes.table (statics_of rs) c.routes.numbers)
    (take_all c.routes.route-index c.args.routes.now c.routes-test.false) c.routes.invariant.numbered

pub returns-clause-some : goal.returns-clause-some
returns-clause-some c =
    subst (λ rs. ReadiesSome c.args.table.now c.routes.table (keys_in rs))
    (take_all c.routes.route-index c.args.routes.now c.routes-test.false) c.routes.invariant.some
