use Rattle.std.proofs.Common.{Bool, refl, ap, ap₂, ◌∙◌}
use Rattle.slot_batches.specs.Slots.{Slots}
use Rattle.std.specs.Prelude.{is_some, not, ◌||◌, ◌&&◌}
use Rattle.adj_rib_out.proofs.InsideLemmas.{parts}
use Rattle.adj_rib_out.proofs.FrozenLemmas as frozen
use Rattle.adj_rib_out.proofs.WholeLemmas as whole
use Rattle.adj_rib_out.proofs.table.Table.freeze.Goals as goal

pub freeze-requires : goal.freeze-requires
freeze-requires c = frozen.left_closed (parts c.self.inside) c.self.invariant.table c.args.self.now c.self.view_is
    c.requires

pub invariant_of-self : goal.invariant_of-self
invariant_of-self c = whole.frozen_whole (parts c.self.inside) c.self.inside.keys.idle c.self.inside.values.routes
    c.self.inside.values.uses c.self.invariant _ (frozen.made_kept (parts c.self.inside) c.self.invariant.table
    c.args.self.now c.self.view_is c.requires
    c.freeze.new.self c.freeze.ensures.left c.freeze.ensures.rest
    c.either-opens.result c.either-self-inside.result c.unless-self-inside.result c.unless-self-inside-2.result
    c.owes_marker-ipv4_marker.result c.owes_marker-ipv6_marker.result
    c.owes_marker-ipv4_marker.ensures c.owes_marker-ipv6_marker.ensures
    (c.either-opens.ensures ∙ ap₂ (λ (a b : Bool). a || b) (c.is_some.ensures ∙ ap is_some c.front.ensures.first)
    c.either.ensures)
    c.either-self-inside.ensures
    (c.unless-self-inside.ensures ∙ ap (λ (b : Bool). b && not c.either-opens.result)
    (c.either-ipv4_again.ensures ∙ ap (λ (b : Bool). b || c.self.inside.ipv4_stale) c.is_again.ensures))
    (c.unless-self-inside-2.ensures ∙ ap (λ (b : Bool). b && not c.either-opens.result)
    (c.either-ipv6_again.ensures ∙ ap (λ (b : Bool). b || c.self.inside.ipv6_stale) c.is_again-2.ensures)))
    refl refl refl (ap (λ (s : Slots). s.sents) c.freeze.ensures.rest)
    (frozen.left_closed (parts c.self.inside) c.self.invariant.table c.args.self.now c.self.view_is c.requires)

pub returns-clause-freezes : goal.returns-clause-freezes
returns-clause-freezes c = frozen.made_freezes (parts c.self.inside) c.self.invariant.table c.args.self.now
    c.self.view_is c.requires
    c.freeze.new.self c.freeze.ensures.left c.freeze.ensures.rest
    c.either-opens.result c.either-self-inside.result c.unless-self-inside.result c.unless-self-inside-2.result
    c.owes_marker-ipv4_marker.result c.owes_marker-ipv6_marker.result
    c.owes_marker-ipv4_marker.ensures c.owes_marker-ipv6_marker.ensures
    (c.either-opens.ensures ∙ ap₂ (λ (a b : Bool). a || b) (c.is_some.ensures ∙ ap is_some c.front.ensures.first)
    c.either.ensures)
    c.either-self-inside.ensures
    (c.unless-self-inside.ensures ∙ ap (λ (b : Bool). b && not c.either-opens.result)
    (c.either-ipv4_again.ensures ∙ ap (λ (b : Bool). b || c.self.inside.ipv4_stale) c.is_again.ensures))
    (c.unless-self-inside-2.ensures ∙ ap (λ (b : Bool). b && not c.either-opens.result)
    (c.either-ipv6_again.ensures ∙ ap (λ (b : Bool). b || c.self.inside.ipv6_stale) c.is_again-2.ensures))

pub returns-clause-nodes : goal.returns-clause-nodes
returns-clause-nodes c = frozen.made_nodes (parts c.self.inside) c.self.invariant.table c.args.self.now
    c.self.view_is c.requires
    c.freeze.new.self c.freeze.ensures.left c.freeze.ensures.rest
    c.either-opens.result c.either-self-inside.result c.unless-self-inside.result c.unless-self-inside-2.result
    c.owes_marker-ipv4_marker.result c.owes_marker-ipv6_marker.result
    c.owes_marker-ipv4_marker.ensures c.owes_marker-ipv6_marker.ensures
    (c.either-opens.ensures ∙ ap₂ (λ (a b : Bool). a || b) (c.is_some.ensures ∙ ap is_some c.front.ensures.first)
    c.either.ensures)
    c.either-self-inside.ensures
    (c.unless-self-inside.ensures ∙ ap (λ (b : Bool). b && not c.either-opens.result)
    (c.either-ipv4_again.ensures ∙ ap (λ (b : Bool). b || c.self.inside.ipv4_stale) c.is_again.ensures))
    (c.unless-self-inside-2.ensures ∙ ap (λ (b : Bool). b && not c.either-opens.result)
    (c.either-ipv6_again.ensures ∙ ap (λ (b : Bool). b || c.self.inside.ipv6_stale) c.is_again-2.ensures))
