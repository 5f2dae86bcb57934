use Rattle.std.proofs.Common.{sym, ap, ◌∙◌}
use Rattle.std.specs.Option.{option_map}
use Rattle.value_pool.specs.declared.slots.Slot.{Slot}
use Rattle.value_pool.specs.Pool.{Pool, item_at}
use Rattle.value_pool.specs.Slots.{slot_at}
use Rattle.value_pool.proofs.ItemLemmas.{tag_of}
use Rattle.value_pool.proofs.pool.Pool.tag.Goals as goal

pub returns : goal.returns
returns g c = ap (option_map (λ (slot : Slot). slot.tag)) (c.in_ok-slot.ensures
    ∙ ap (λ slots. slot_at slots c.args.number) c.deref.ensures.value)
    ∙ sym (tag_of c.self.inside.table.entries c.self.inside.slots.items c.self.invariant.matched c.args.number)
    ∙ ap (λ (pool : Pool g.row.T.Denot). option_map (λ item. item.1) (item_at pool.items c.args.number)) c.self.view_is
