use Rattle.std.proofs.Common.{◌<◌, ◌≤◌, ◌+◌, refl, subst, sym, ◌∙◌, arith}
use Rattle.std.specs.Prelude.{not}
use Rattle.std.proofs.lemmas.Grind.{common_steps}
use Rattle.adj_rib_out.proofs.CountLemmas as count
use Rattle.adj_rib_out.proofs.rib.scan.Goals as goal

pub is_node_at-requires : goal.is_node_at-requires
is_node_at-requires c =
    let below : c.rows.place < c.places-end.result = grind (arith, common_steps) in
    subst (λ n. c.rows.place < n) c.places-end.ensures.places below

pub more-next-requires : goal.more-next-requires
more-next-requires c =
    let below : c.rows.place < c.places-end.result = grind (arith, common_steps) in
    count.next_fits c.args.table.now c.rows.count c.rows.place c.is_node_at.result (not c.is_node_at.result)
    (subst (λ n. c.rows.place < n) c.places-end.ensures.places below) c.rows.invariant.0 c.is_node_at.ensures refl
    c.places-end.result c.rows.invariant.1 below

pub rows-init : goal.rows-init
rows-init c = (count.none_counted c.args.table.now, omega arith)

pub rows-preserved : goal.rows-preserved
rows-preserved c =
    let below : c.rows.place < c.places-end.result = grind (arith, common_steps) in
    let within = subst (λ n. c.rows.place < n) c.places-end.ensures.places below in (
      c.more-next.ensures ∙ count.next_counted c.args.table.now c.rows.count c.rows.place c.is_node_at.result
          (not c.is_node_at.result) within c.rows.invariant.0 c.is_node_at.ensures refl,
      subst (λ n. n ≤ c.rows.place + 1) (sym c.more-next.ensures) (count.next_small c.args.table.now c.rows.count
          c.rows.place c.is_node_at.result (not c.is_node_at.result) within c.rows.invariant.0 c.is_node_at.ensures
          refl c.rows.invariant.1),
    )

pub returns : goal.returns
returns c =
    let through : c.places-end.result ≤ c.rows.place = grind (arith, common_steps) in
    count.all_counted c.args.table.now c.rows.count c.rows.place
    (subst (λ n. n ≤ c.rows.place) c.places-end.ensures.places through) c.rows.invariant.0
