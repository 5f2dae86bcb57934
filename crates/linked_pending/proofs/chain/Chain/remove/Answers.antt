use Rattle.std.proofs.Common.{◌≡◌, ◌≢◌, ℕ, ◌<◌, List, length, false, sym, ap, ap₂, ◌∙◌, subst, arith, rules}
use Rattle.std.proofs.lemmas.Grind.{common_steps}
use Rattle.linked_pending.specs.Listing.{Listing, has, without}
use Rattle.linked_pending.specs.Links.{link}
use Rattle.linked_pending.proofs.ListingLemmas.{listing, without_absent}
use Rattle.linked_pending.proofs.ChainLemmas.{seen_without, absent_from_alone}
use Rattle.linked_pending.proofs.chain.Chain.remove.Goals as goal

pub returns-then-index-place : goal.returns-then-index-place
returns-then-index-place c =
    let itself : link c.self.inside.nexts.items c.args.place ≡ c.args.place = grind (arith, common_steps) in
    let items = ap (λ (listing : Listing). listing.items) c.self.view_is in
    let absent = subst (λ (places : List ℕ). has c.args.place places ≡ false) items
    (absent_from_alone _ _ c.self.invariant.0.holds c.args.place itself) in
    ap (listing c.args.self.now.room) (sym (without_absent _ _ absent))

pub invariant_of-self : goal.invariant_of-self
invariant_of-self c =
    let before : c.index-2.result.now ≡ link c.self.inside.prevs.items c.args.place =
    grind (arith, common_steps) in
    let room : c.args.place < length c.self.inside.nexts.items = search rules in
    let linked : link c.self.inside.nexts.items c.args.place ≢ c.args.place = grind (arith, common_steps) in
    let room_is : length c.cross.new.nexts.items ≡ length c.self.inside.nexts.items = grind (arith, common_steps) in (
      (seen_without _ _ _ _ _ _ _ c.self.invariant.0 c.requires.item room linked before c.cross.ensures.crossed
          c.cross.ensures.links).0.chain,
      omega (arith, room_is, c.self.invariant.1),
    )

pub returns : goal.returns
returns c =
    let before : c.index-2.result.now ≡ link c.self.inside.prevs.items c.args.place =
    grind (arith, common_steps) in
    let room : c.args.place < length c.self.inside.nexts.items = search rules in
    let linked : link c.self.inside.nexts.items c.args.place ≢ c.args.place = grind (arith, common_steps) in
    let room_is : length c.cross.new.nexts.items ≡ c.args.self.now.room = grind (arith, common_steps) in
    ap₂ listing room_is
    ((seen_without _ _ _ _ _ _ _ c.self.invariant.0 c.requires.item room linked before c.cross.ensures.crossed
    c.cross.ensures.links).0.items_are
    ∙ ap (λ (listing : Listing). without c.args.place listing.items) c.self.view_is)

pub overflow_sub-self : goal.overflow_sub-self
overflow_sub-self c =
    let before : c.index-2.result.now ≡ link c.self.inside.prevs.items c.args.place =
    grind (arith, common_steps) in
    let room : c.args.place < length c.self.inside.nexts.items = search rules in
    let linked : link c.self.inside.nexts.items c.args.place ≢ c.args.place = grind (arith, common_steps) in
    (seen_without _ _ _ _ _ _ _ c.self.invariant.0 c.requires.item room linked before c.cross.ensures.crossed
    c.cross.ensures.links).1
