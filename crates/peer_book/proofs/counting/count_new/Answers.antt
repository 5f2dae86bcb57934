use Rattle.std.proofs.Common.{length, ap, ◌∙◌, refl, arith}
use Rattle.std.proofs.lemmas.List.{take_all}
use Rattle.adj_rib_out.specs.Nodes.{is_node}
use Rattle.peer_book.specs.Nodes.{new_keys}
use Rattle.peer_book.proofs.CountingLemmas.{count_next, count_small}
use Rattle.peer_book.proofs.counting.count_new.Goals as goal

pub keys-init : goal.keys-init
keys-init c = record { counted = refl; few = omega arith }

pub keys-preserved : goal.keys-preserved
keys-preserved c =
    let key = c.index-keys-place.result in
    record {
      counted = count_next (is_node c.args.table.now) c.args.keys.now c.keys.count c.keys.place key c.is_new-new.result
          c.keys-test.true c.index-keys-place.is c.is_new-new.ensures c.keys.invariant.counted c.more-next.result
          c.more-next.ensures;
      few = count_small (is_node c.args.table.now) c.args.keys.now c.keys.count c.keys.place key c.is_new-new.result
          c.keys-test.true c.index-keys-place.is c.is_new-new.ensures c.keys.invariant.counted c.more-next.result
          c.more-next.ensures c.keys.invariant.few;
    }

pub returns : goal.returns
returns c =
    c.keys.invariant.counted
    ∙ ap (λ ks. length (new_keys (is_node c.args.table.now) ks))
    (take_all c.keys.place c.args.keys.now c.keys-test.false)
