use Rattle.std.proofs.Common.{ap}
use Rattle.route_values.proofs.FirstPlacesLemmas.{first_places-take, put_new, put_old}
use Rattle.route_values.proofs.items.Items.first_places.Goals as goal
use Rattle.route_values.proofs.items.Items.first_places.Goals.{then-not-contains+in_ok-push, else-not-contains}

pub items-preserved : goal.items-preserved
items-preserved g c =
    let item = c.item-item.result in
    let kept = c.items.kept.items in
    let later = c.if-not-contains.kept.items in
    let had = c.contains.result in
    first_places-take g.T.PartialEq.eq g.met.T.PartialEq.laws c.deref-item-items.result.now c.items.item-index item kept
    c.deref.result.now later had c.items-test.true c.item-item.is c.items.invariant
    c.contains.ensures.value c.deref.ensures.value
    (elim c.if-not-contains.branch [
      | then-not-contains+in_ok-push w ↦
          put_new kept _ later item had (ap (λ v. v.items) w.kept-is) w.in_ok-push.ensures.items w.if-not-contains.true
      | else-not-contains w ↦ put_old kept later item had (ap (λ v. v.items) w.kept-is) w.if-not-contains.false
    ])
