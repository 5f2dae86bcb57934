use Rattle.std.proofs.Common.{◌≡◌, ℕ, ap, ap₂, sym, subst, ◌∙◌, ◌++◌, ◌∷◌, [], List, Option, false, length}
use Rattle.std.proofs.Common.{vec_capacity, arith}
use Rattle.indexmap.proofs.CallerLemmas.{insert_entry-new}
use Rattle.value_pool.specs.declared.slots.Slot.{Slot}
use Rattle.value_pool.specs.Pool.{Pool, item_at, passes, Adds}
use Rattle.value_pool.specs.Slots.{next_number, with_slot, items_of}
use Rattle.value_pool.proofs.ItemLemmas.{not_found}
use Rattle.value_pool.proofs.AddLemmas.{grown_pool, adds}
use Rattle.value_pool.proofs.pool.Pool.add.Goals as goal
use Rattle.value_pool.proofs.pool.Pool.add.Given.{Over}

-- the number, the new entry and the new slot
number_is : (g : Over) (c : goal.After-put_slot g) → c.next_number-number.result
    ≡ next_number c.self.inside.slots.items c.self.inside.free.items
number_is g c = c.next_number-number.ensures ∙ ap₂ next_number c.deref.ensures.value c.deref-2.ensures.value

grown_is : (g : Over) (c : goal.After-put_slot g) → c.insert.new.self.entries
    ≡ c.self.inside.table.entries ++ (c.args.value, c.next_number-number.result) ∷ []
grown_is g c = c.in_ok-insert.ensures.entries
    ∙ insert_entry-new g.T.PartialEq.eq c.self.inside.table c.args.value c.next_number-number.result
    (not_found c.self.inside.table.entries c.self.inside.slots.items c.self.invariant.matched
    (g.T.PartialEq.eq c.args.value)
    (subst (λ (pool : Pool g.row.T.Denot). (n : ℕ) → passes (g.T.PartialEq.eq c.args.value)
    (item_at pool.items n) ≡ false)
    (sym c.self.view_is) c.requires.absent))

later_is : (g : Over) (c : goal.After-put_slot g) → c.put_slot.new.slots.items
    ≡ with_slot c.self.inside.slots.items c.next_number-number.result
    (record { place = c.len-place.result; tag = c.args.tag })
later_is g c = c.put_slot.ensures.slots
    ∙ ap₂ (λ (slots : List (Option Slot)) (free : List ℕ). with_slot slots (next_number slots free)
    (record { place = c.len-place.result; tag = c.args.tag })) c.reserve.ensures.slots c.reserve.ensures.free
    ∙ ap (λ n. with_slot c.self.inside.slots.items n (record { place = c.len-place.result; tag = c.args.tag }))
    (sym (number_is g c))

pub invariant_of-self-2 : goal.invariant_of-self-2
invariant_of-self-2 g c =
    grown_pool c.self.inside.table.entries c.insert.new.self.entries c.self.inside.slots.items
    c.put_slot.new.slots.items c.self.inside.free.items c.put_slot.new.free.items (vec_capacity c.self.inside.free)
    (vec_capacity c.put_slot.new.free) c.self.inside.idle c.reserve.new.idle c.self.invariant c.args.value
    c.len-place.result c.args.tag c.next_number-number.result c.len-place.ensures.len (number_is g c) (grown_is g c)
    (later_is g c) c.put_slot.ensures.free
    (omega (arith, c.put_slot.ensures.count, ap length c.reserve.ensures.slots, ap length c.reserve.ensures.free))
    (omega (arith, c.reserve.ensures.space, c.put_slot.ensures.capacity)) c.reserve.ensures.room
    c.reserve.ensures.idle
    (λ none. let more = c.in_ok-reserve.ensures.ok none in
    (omega (arith, more.in_freed, c.put_slot.ensures.capacity), more.in_room))

pub returns-clause-ok : goal.returns-clause-ok
returns-clause-ok g c =
    subst (λ (old : Pool g.row.T.Denot). Adds old (record {
      items = items_of c.insert.new.self.entries c.put_slot.new.slots.items;
      idle = c.reserve.new.idle.items;
    }) c.next_number-number.result (c.args.value, c.args.tag)) c.self.view_is
    (adds c.self.inside.table.entries c.insert.new.self.entries c.self.inside.slots.items
    c.put_slot.new.slots.items c.self.inside.free.items c.put_slot.new.free.items (vec_capacity c.self.inside.free)
    (vec_capacity c.put_slot.new.free) c.self.inside.idle c.reserve.new.idle c.self.invariant c.args.value
    c.len-place.result c.args.tag c.next_number-number.result c.len-place.ensures.len (number_is g c) (grown_is g c)
    (later_is g c) c.reserve.ensures.idle)
