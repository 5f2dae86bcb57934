use Rattle.std.proofs.Common.{◌<◌, ℕ, not, ap, refl, ◌∙◌, subst, arith}
use Rattle.route_values.specs.declared.key.Key.{Key}
use Rattle.adj_rib_out.specs.Nodes.{is_node}
use Rattle.peer_book.specs.Nodes.{is_gained}
use Rattle.peer_book.proofs.KeptNodeLemmas.{counted_next, counted_small}
use Rattle.peer_book.proofs.counting.count_gained.Goals as goal

pub keys-init : goal.keys-init
keys-init c = record { counted = refl; few = omega arith }

pub keys-preserved : goal.keys-preserved
keys-preserved c =
    let other : Key × ℕ = (c.key_at.result.now, 0) in
    let told = ap not c.is_node-one.ensures
    ∙ ap (λ key. not (is_node c.args.table.now key)) (c.key_at.ensures other) in
    let within = subst (λ n. c.keys.place < n) c.len-end.ensures.len c.keys-test.true in
    record {
      counted = counted_next (is_gained c.args.table.now) c.args.numbers.now other c.keys.count c.keys.place
          (not c.is_node-one.result) within told c.keys.invariant.counted c.more-next.result
          c.more-next.ensures;
      few = counted_small (is_gained c.args.table.now) c.args.numbers.now other c.keys.count c.keys.place
          (not c.is_node-one.result) within told c.keys.invariant.counted c.more-next.result
          c.more-next.ensures c.keys.invariant.few;
    }
