use Rattle.std.proofs.Common.{◌≡◌, ℕ, ◌<◌, true, List, length, sym, subst, ap, ◌∙◌, arith, rules}
use Rattle.std.proofs.lemmas.Grind.{common_steps}
use Rattle.linked_pending.specs.Listing.{Listing, has, before_from}
use Rattle.linked_pending.specs.Links.{link}
use Rattle.linked_pending.proofs.ChainLemmas.{holds_before}
use Rattle.linked_pending.proofs.chain.Chain.before.Goals as goal

pub returns : goal.returns
returns c =
    let read : c.index.result.now ≡ link c.self.inside.prevs.items c.args.place = grind (arith, common_steps) in
    let room : c.args.place < length c.self.inside.nexts.items = search rules in
    let items = ap (λ (listing : Listing). listing.items) c.self.view_is in
    let there = subst (λ (places : List ℕ). has c.args.place places ≡ true) (sym items) c.requires.there in
    read
    ∙ holds_before _ _ _ c.self.invariant.0.links c.self.invariant.0.holds c.args.place (omega arith) there
    ∙ ap (λ (places : List ℕ). before_from 0 c.args.place places) items
