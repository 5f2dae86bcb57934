use Rattle.std.proofs.Common.{ap, sym, ◌∙◌, ◌++◌, ◌∷◌, [], vec_capacity, is_some}
use Rattle.std.proofs.lemmas.Bool.{false≢true}
use Rattle.std.proofs.lemmas.Map.Views.{list_any-from_Contains}
use Rattle.std.specs.Cmp.{nat_eq_equiv}
use Rattle.linked_pending.specs.Listing.{has}
use Rattle.value_pool.specs.Pool.{Pool, item_at}
use Rattle.value_pool.proofs.PoolLemmas.{noted_too, gone_without}
use Rattle.value_pool.proofs.pool.Pool.note.Goals as goal

pub push-requires-clause-absent : goal.push-requires-clause-absent
push-requires-clause-absent g c there = false≢true (sym (gone_without c.args.number c.self.inside.idle.items)
    ∙ sym (ap (λ order. has c.args.number order.items) c.remove.ensures.removed)
    ∙ list_any-from_Contains nat_eq_equiv c.args.number c.remove.new.self.items there)

pub invariant_of-self : goal.invariant_of-self
invariant_of-self g c = noted_too c.self.inside.table.entries c.self.inside.slots.items c.self.inside.free.items
    (vec_capacity c.self.inside.free) c.self.inside.idle c.push.new.self c.self.invariant c.args.number
    (ap (λ order. order.room) c.push.ensures ∙ ap (λ order. order.room) c.remove.ensures.removed)
    (ap (λ order. order.items) c.push.ensures ∙ ap (λ (order : _). order.items ++ c.args.number ∷ [])
    c.remove.ensures.removed)
    (ap (λ (pool : Pool g.row.T.Denot). is_some (item_at pool.items c.args.number)) c.self.view_is ∙ c.requires)
