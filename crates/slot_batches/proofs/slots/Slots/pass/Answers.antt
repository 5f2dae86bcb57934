use Rattle.std.proofs.Common.{◌≡◌, ℕ, ◌-◌, ◌/◌, Bool, Some, Option, List, slice_set, drop, sym, ap, ap₂, subst, ◌∙◌}
use Rattle.std.specs.Prelude.{slice_get, MatchOption}
use Rattle.std.specs.Option.{option_map}
use Rattle.linked_pending.specs.declared.pending.Place.{Place}
use Rattle.linked_pending.specs.Group.{Group, group_of, without_node}
use Rattle.linked_pending.specs.Pending.{Queues}
use Rattle.slot_batches.specs.declared.slots.Item.{Item}
use Rattle.slot_batches.specs.Left.{item_of, items_of}
use Rattle.slot_batches.specs.Owing.{IsKept, AllWait}
use Rattle.slot_batches.specs.Slots.{Slots}
use Rattle.slot_batches.proofs.LeftLemmas.{front_is_first, items_passed}
use Rattle.slot_batches.proofs.PassLemmas.{passed, not_waiting, passed_kept, passed_waits}
use Rattle.slot_batches.proofs.slots.Slots.pass.Goals as goal

-- the lists once the front has left
passed_is : (old new : Queues) (node : ℕ)
    → new ≡ record old { waiting = without_node node old.waiting; frozen = without_node node old.frozen }
    → new.waiting ≡ old.waiting → new ≡ passed old node
passed_is old new node left same =
    left ∙ ap (λ (waiting : List Group). record {
      room = old.room;
      waiting = waiting;
      frozen = without_node node old.frozen;
    }) (sym (ap (λ (queues : Queues). queues.waiting) left) ∙ same)

abbrev after : Slots → Item → Slots
after old item = record old { sents = slice_set old.sents item.slot item.value; left = drop 1 old.left }

passes : (old new : Slots) (item : Item) → slice_get old.left 0 ≡ Some item → new ≡ after old item
    → MatchOption (slice_get old.left 0) (new ≡ old) (λ item. new ≡ after old item)
passes old new item first is =
    subst (λ (o : Option Item). MatchOption o (new ≡ old) (λ item. new ≡ after old item)) (sym first) is

abbrev slots : ℕ → List ℕ → List ℕ → List Item → Bool → Bool → Slots
slots room nows sents left even odd = record {
  room = room;
  nows = nows;
  sents = sents;
  left = left;
  even_again = even;
  odd_again = odd;
}

pub invariant_of-self : goal.invariant_of-self
invariant_of-self c =
    let member : group_of c.in-Some.place.node c.self.inside.pending.frozen ≡ Some c.in-Some.place.group =
    c.in-Some.ensures.member in
    let is = passed_is c.self.inside.pending c.leave.new.self c.in-Some.place.node c.leave.ensures.left
    (c.leave.ensures.not_waiting (not_waiting _ _ c.self.inside.pending c.self.inside.side c.in-Some.place.node
    c.in-Some.place.group c.self.invariant.0 member)) in (
      subst (λ (queues : Queues). IsKept c.self.inside.nows.items (slice_set c.self.inside.sents.items
          (c.in-Some.place.node / 2 - 1) c.in-Some.place.group) queues c.self.inside.side) (sym is)
          (passed_kept _ _ c.self.inside.pending c.self.inside.side c.in-Some.place.node c.in-Some.place.group
          c.self.invariant.0 member),
      subst (λ (queues : Queues). AllWait c.self.inside.nows.items (slice_set c.self.inside.sents.items
          (c.in-Some.place.node / 2 - 1) c.in-Some.place.group) queues c.self.inside.side c.self.inside.even_again
          c.self.inside.odd_again) (sym is)
          (passed_waits _ _ c.self.inside.pending c.self.inside.side c.in-Some.place.node c.in-Some.place.group
          c.self.invariant.0 member c.self.inside.even_again c.self.inside.odd_again c.self.invariant.1),
    )

pub returns : goal.returns
returns c =
    let kept = c.self.invariant.0 in
    let first : slice_get (items_of c.self.inside.pending.frozen) 0 ≡ Some (item_of (c.in-Some.place.node / 2 - 1)
    c.in-Some.place.group) = front_is_first c.self.inside.pending.frozen kept.frozen_full
    ∙ ap (λ (o : Option Place). option_map (λ (p : Place). item_of (p.node / 2 - 1) p.group) o)
    (sym c.in-Some.ensures.first) in
    let left : items_of c.leave.new.self.frozen ≡ drop 1 (items_of c.self.inside.pending.frozen) =
    ap (λ (queues : Queues). items_of queues.frozen) c.leave.ensures.left
    ∙ items_passed c.self.inside.pending.frozen c.in-Some.place kept.frozen_full kept.frozen_apart
    (sym c.in-Some.ensures.first) in
    let room = ap (λ (queues : Queues). queues.room) c.leave.ensures.left in
    passes c.args.self.now _ (item_of (c.in-Some.place.node / 2 - 1) c.in-Some.place.group)
    (ap (λ (v : Slots). slice_get v.left 0) (sym c.self.view_is) ∙ first)
    (ap₂ (λ (room : ℕ) (left : List Item). slots room c.self.inside.nows.items (slice_set c.self.inside.sents.items
    (c.in-Some.place.node / 2 - 1) c.in-Some.place.group) left c.self.inside.even_again c.self.inside.odd_again)
    room left
    ∙ ap (λ (v : Slots). after v (item_of (c.in-Some.place.node / 2 - 1) c.in-Some.place.group)) c.self.view_is)
