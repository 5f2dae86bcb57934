use Rattle.std.proofs.Common.{◌≡◌, ℕ, ◌∷◌, true, List, sym, subst, ap, ◌∙◌, arith}
use Rattle.std.proofs.lemmas.Grind.{common_steps}
use Rattle.linked_pending.specs.Listing.{Listing, has, behind_or}
use Rattle.linked_pending.specs.Links.{link}
use Rattle.linked_pending.proofs.LeadsLemmas.{leads_behind}
use Rattle.linked_pending.proofs.chain.Chain.after.Goals as goal

pub returns : goal.returns
returns c =
    let read : c.index.result.now ≡ link c.self.inside.nexts.items c.args.place = grind (arith, common_steps) in
    let items = ap (λ (listing : Listing). listing.items) c.self.view_is in
    let there = subst (λ (places : List ℕ). has c.args.place (0 ∷ places) ≡ true) (sym items) c.requires.there in
    read
    ∙ leads_behind _ c.args.place 0 _ 0 c.self.invariant.0.holds.leads there
    ∙ ap (λ (places : List ℕ). behind_or 0 c.args.place (0 ∷ places)) items
