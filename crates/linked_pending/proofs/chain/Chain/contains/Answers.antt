use Rattle.std.proofs.Common.{◌≡◌, ℕ, ◌<◌, length, not, eqb, ap, ◌∙◌, arith, rules}
use Rattle.std.proofs.lemmas.Grind.{common_steps}
use Rattle.linked_pending.specs.Listing.{Listing, has}
use Rattle.linked_pending.specs.Links.{link}
use Rattle.linked_pending.proofs.ChainLemmas.{holds_contains}
use Rattle.linked_pending.proofs.chain.Chain.contains.Goals as goal

pub returns : goal.returns
returns c =
    let read : c.index.result.now ≡ link c.self.inside.nexts.items c.args.place = grind (arith, common_steps) in
    let room : c.args.place < length c.self.inside.nexts.items = search rules in
    ap (λ (behind : ℕ). not (eqb behind c.args.place)) read
    ∙ holds_contains _ _ c.self.invariant.0.holds c.args.place c.requires.item room
    ∙ ap (λ (listing : Listing). has c.args.place listing.items) c.self.view_is
