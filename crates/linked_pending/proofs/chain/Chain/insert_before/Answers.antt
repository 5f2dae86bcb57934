use Rattle.std.proofs.Common.{◌≡◌, ℕ, ◌<◌, ◌⊎◌, List, length, true, false, sym, ap, ap₂, ◌∙◌, subst, arith, rules}
use Rattle.std.proofs.lemmas.Grind.{common_steps}
use Rattle.linked_pending.specs.Listing.{Listing, has, put_before}
use Rattle.linked_pending.specs.Links.{link}
use Rattle.linked_pending.proofs.ListingLemmas.{listing}
use Rattle.linked_pending.proofs.ChainLemmas.{seen_put, len_within}
use Rattle.linked_pending.proofs.chain.Chain.insert_before.Goals as goal

pub overflow_add-self : goal.overflow_add-self
overflow_add-self c =
    let room : c.args.place < length c.self.inside.nexts.items = search rules in
    let short : c.self.inside.len < length c.self.inside.nexts.items =
    len_within _ _ _ c.self.invariant.0 (omega arith) in
    omega arith

pub invariant_of-self : goal.invariant_of-self
invariant_of-self c =
    let before : c.index.result.now ≡ link c.self.inside.prevs.items c.args.spot = grind (arith, common_steps) in
    let room : c.args.place < length c.self.inside.nexts.items = search rules in
    let items = sym (ap (λ (listing : Listing). listing.items) c.self.view_is) in
    let absent = subst (λ (places : List ℕ). has c.args.place places ≡ false) items c.requires.absent in
    let spot = subst (λ (places : List ℕ). (c.args.spot ≡ 0) ⊎ (has c.args.spot places ≡ true)) items c.requires.spot in
    let room_is : length c.cross.new.nexts.items ≡ length c.self.inside.nexts.items = grind (arith, common_steps) in (
      (seen_put _ _ _ _ _ _ _ _ c.self.invariant.0 c.requires.item room absent spot before c.cross.ensures.crossed
          c.cross.ensures.links).chain,
      omega (arith, room_is, c.self.invariant.1),
    )

pub returns : goal.returns
returns c =
    let before : c.index.result.now ≡ link c.self.inside.prevs.items c.args.spot = grind (arith, common_steps) in
    let room : c.args.place < length c.self.inside.nexts.items = search rules in
    let items = sym (ap (λ (listing : Listing). listing.items) c.self.view_is) in
    let absent = subst (λ (places : List ℕ). has c.args.place places ≡ false) items c.requires.absent in
    let spot = subst (λ (places : List ℕ). (c.args.spot ≡ 0) ⊎ (has c.args.spot places ≡ true)) items c.requires.spot in
    let room_is : length c.cross.new.nexts.items ≡ c.args.self.now.room = grind (arith, common_steps) in
    ap₂ listing room_is
    ((seen_put _ _ _ _ _ _ _ _ c.self.invariant.0 c.requires.item room absent spot before c.cross.ensures.crossed
    c.cross.ensures.links).items_are
    ∙ ap (λ (listing : Listing). put_before c.args.spot c.args.place listing.items) c.self.view_is)
