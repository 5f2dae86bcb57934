use Rattle.std.proofs.Common.{◌<◌, ◌≤◌, None, ap, refl, subst, ◌∙◌, arith}
use Rattle.std.specs.Prelude.{count_by}
use Rattle.std.proofs.lemmas.Grind.{common_steps}
use Rattle.std.proofs.lemmas.List.{take_all}
use Rattle.peer_book.specs.Nodes.{is_lost_row}
use Rattle.peer_book.proofs.KeptNodeLemmas.{counted_next, counted_small}
use Rattle.peer_book.proofs.counting.count_lost.Goals as goal

pub places-init : goal.places-init
places-init c = record { counted = refl; few = omega arith }

pub more-next-requires : goal.more-next-requires
more-next-requires c =
    let below : c.places.place < c.places-end.result = grind (arith, common_steps) in
    omega (arith, below, c.places.invariant.few)

pub places-preserved : goal.places-preserved
places-preserved c =
    let below : c.places.place < c.places-end.result = grind (arith, common_steps) in
    let within = subst (λ n. c.places.place < n) c.places-end.ensures.places below in
    record {
      counted = counted_next (is_lost_row c.args.numbers.now c.args.table.now) c.args.table.now.rows None c.places.count
          c.places.place c.is_lost_at-one.result within c.is_lost_at-one.ensures c.places.invariant.counted
          c.more-next.result c.more-next.ensures;
      few = counted_small (is_lost_row c.args.numbers.now c.args.table.now) c.args.table.now.rows None c.places.count
          c.places.place c.is_lost_at-one.result within c.is_lost_at-one.ensures c.places.invariant.counted
          c.more-next.result c.more-next.ensures c.places.invariant.few;
    }

pub returns : goal.returns
returns c =
    let through : c.places-end.result ≤ c.places.place = grind (arith, common_steps) in
    c.places.invariant.counted
    ∙ ap (count_by (is_lost_row c.args.numbers.now c.args.table.now))
    (take_all c.places.place c.args.table.now.rows
    (subst (λ n. n ≤ c.places.place) c.places-end.ensures.places through))
