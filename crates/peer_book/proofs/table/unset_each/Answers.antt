use Rattle.std.proofs.Common.{None}
use Rattle.peer_book.proofs.TableLemmas.{sets_next}
use Rattle.std.proofs.Common.{subst}
use Rattle.std.proofs.lemmas.List.{take_all}
use Rattle.peer_book.specs.Tables.{SetsEach}
use Rattle.peer_book.proofs.TableLemmas.{sets_none}
use Rattle.peer_book.proofs.table.unset_each.Goals as goal

pub keys-preserved : goal.keys-preserved
keys-preserved c =
    sets_next c.args.table.now c.keys.table c.unset.new.self c.args.keys.now c.keys.key-index c.key-item.result None
    c.keys-test.true c.key-item.is c.keys.invariant c.unset.ensures.set

pub keys-init : goal.keys-init
keys-init c = sets_none c.args.table.now None

pub returns : goal.returns
returns c =
    subst (λ ks. SetsEach c.args.table.now c.keys.table ks None)
    (take_all c.keys.key-index c.args.keys.now c.keys-test.false) c.keys.invariant
