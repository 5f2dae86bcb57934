use Rattle.std.proofs.Common.{◌∙◌, Some, None, sym, ap, subst, refl}
use Rattle.std.specs.Prelude.{IsSome}
use Rattle.adj_rib_out.specs.declared.chosen.Chosen.{Chosen}
use Rattle.adj_rib_out.specs.KeyPlaces.{KeyPlaces}
use Rattle.adj_rib_out.specs.Kept.{written_under}
use Rattle.adj_rib_out.specs.Stock.{Stock}
use Rattle.adj_rib_out.proofs.GivenLemmas as given
use Rattle.adj_rib_out.proofs.InsideLemmas.{parts}
use Rattle.adj_rib_out.proofs.RowLemmas.{some_is, none_some}
use Rattle.adj_rib_out.proofs.SetLemmas as set
use Rattle.adj_rib_out.proofs.table.Table.set.Goals as goal

pub returns-in_default-clause-set : goal.returns-in_default-clause-set
returns-in_default-clause-set c = absurd (set.not_ready (parts c.self.inside) c.args.self.now c.args.key.now
    c.self.view_is c.requires.key (sym c.place_of.ensures ∙ c.in_default.is))

pub returns-in_default-clause-nodes : goal.returns-in_default-clause-nodes
returns-in_default-clause-nodes c = absurd (set.not_ready (parts c.self.inside) c.args.self.now c.args.key.now
    c.self.view_is c.requires.key (sym c.place_of.ensures ∙ c.in_default.is))

pub give-requires-clause-place : goal.give-requires-clause-place
give-requires-clause-place c = set.within_routes (parts c.self.inside) c.self.invariant.table c.args.key.now
    c.in-Some.place
    (sym c.place_of.ensures ∙ c.in-Some.is) None (λ chosen is. absurd (none_some is))

pub give-requires-clause-was : goal.give-requires-clause-was
give-requires-clause-was c = given.was_value (parts c.self.inside) c.self.invariant.table c.in-Some.place

pub give-requires-clause-stands : goal.give-requires-clause-stands
give-requires-clause-stands c = set.value_ready (parts c.self.inside) c.args.self.now c.self.view_is c.args.value
    c.args.owner c.requires.value

pub give-requires-clause-counted : goal.give-requires-clause-counted
give-requires-clause-counted c = c.self.invariant.routes_counted

pub show-requires-clause-slot : goal.show-requires-clause-slot
show-requires-clause-slot c = set.within_nows (parts c.self.inside) c.self.invariant.table c.args.key.now
    c.in-Some.place
    (sym c.place_of.ensures ∙ c.in-Some.is) None (λ chosen is. absurd (none_some is))

pub show-requires-clause-value : goal.show-requires-clause-value
show-requires-clause-value c = set.below_room (parts c.self.inside) c.self.invariant.table c.args.key.now
    c.args.self.now c.self.view_is c.in-Some.place (sym c.place_of.ensures ∙ c.in-Some.is)
    (Some (record { value = c.args.value; owner = c.args.owner }))
    (λ chosen is. subst (λ (o : Chosen). IsSome (written_under c.self.inside.values.seen o.value)) (some_is is)
    (set.value_ready (parts c.self.inside) c.args.self.now c.self.view_is c.args.value c.args.owner c.requires.value))
    c.shown_number-number.result c.shown_number-number.ensures

pub show-requires-clause-parity : goal.show-requires-clause-parity
show-requires-clause-parity c = set.same_parity (parts c.self.inside) c.self.invariant.table c.args.key.now
    c.args.self.now c.self.view_is c.in-Some.place (sym c.place_of.ensures ∙ c.in-Some.is)
    (Some (record { value = c.args.value; owner = c.args.owner }))
    (λ chosen is. subst (λ (o : Chosen). IsSome (written_under c.self.inside.values.seen o.value)) (some_is is)
    (set.value_ready (parts c.self.inside) c.args.self.now c.self.view_is c.args.value c.args.owner c.requires.value))
    c.shown_number-number.result c.shown_number-number.ensures

pub invariant_of-self : goal.invariant_of-self
invariant_of-self c = given.set_whole (parts c.self.inside) c.self.inside.keys.idle c.self.inside.values.routes
    c.self.inside.values.uses
    c.self.invariant c.args.key.now c.args.self.now c.self.view_is c.in-Some.place
    (sym c.place_of.ensures ∙ c.in-Some.is)
    (Some (record { value = c.args.value; owner = c.args.owner }))
    (λ chosen is. subst (λ (o : Chosen). IsSome (written_under c.self.inside.values.seen o.value)) (some_is is)
    (set.value_ready (parts c.self.inside) c.args.self.now c.self.view_is c.args.value c.args.owner c.requires.value))
    c.shown_number-number.result c.shown_number-number.ensures
    c.give.new.routes.items c.give.ensures.routes c.show.new.self c.show.ensures
    c.forget.new.self.keys c.give.new.values.seen (ap (λ (k : KeyPlaces). k.keys) c.forget.ensures)
    (ap (λ (s : Stock). s.seen) c.give.ensures.rest) refl
    c.forget.new.self.idle c.give.new.values.routes c.give.new.values.uses
    (ap (λ (k : KeyPlaces). k.idle) c.forget.ensures) (ap (λ (s : Stock). s.uses) c.give.ensures.rest)
    c.give.ensures.counted

pub returns-clause-set : goal.returns-clause-set
returns-clause-set c = given.after_sets (parts c.self.inside) c.self.inside.keys.idle c.self.inside.values.routes
    c.self.inside.values.uses
    c.self.invariant c.args.key.now c.args.self.now c.self.view_is c.in-Some.place
    (sym c.place_of.ensures ∙ c.in-Some.is)
    (Some (record { value = c.args.value; owner = c.args.owner }))
    (λ chosen is. subst (λ (o : Chosen). IsSome (written_under c.self.inside.values.seen o.value)) (some_is is)
    (set.value_ready (parts c.self.inside) c.args.self.now c.self.view_is c.args.value c.args.owner c.requires.value))
    c.shown_number-number.result c.shown_number-number.ensures
    c.give.new.routes.items c.give.ensures.routes c.show.new.self c.show.ensures
    c.forget.new.self.keys c.give.new.values.seen (ap (λ (k : KeyPlaces). k.keys) c.forget.ensures)
    (ap (λ (s : Stock). s.seen) c.give.ensures.rest) _
    (set.route_set (parts c.self.inside) c.args.self.now c.self.view_is c.args.value c.args.owner)

pub returns-clause-nodes : goal.returns-clause-nodes
returns-clause-nodes c = given.after_added (parts c.self.inside) c.self.inside.keys.idle c.self.inside.values.routes
    c.self.inside.values.uses
    c.self.invariant c.args.key.now c.args.self.now c.self.view_is c.in-Some.place
    (sym c.place_of.ensures ∙ c.in-Some.is)
    (Some (record { value = c.args.value; owner = c.args.owner }))
    (λ chosen is. subst (λ (o : Chosen). IsSome (written_under c.self.inside.values.seen o.value)) (some_is is)
    (set.value_ready (parts c.self.inside) c.args.self.now c.self.view_is c.args.value c.args.owner c.requires.value))
    c.shown_number-number.result c.shown_number-number.ensures
    c.give.new.routes.items c.give.ensures.routes c.show.new.self c.show.ensures
    c.forget.new.self.keys c.give.new.values.seen (ap (λ (k : KeyPlaces). k.keys) c.forget.ensures)
    (ap (λ (s : Stock). s.seen) c.give.ensures.rest)
    (set.route_some (parts c.self.inside) c.args.self.now c.self.view_is c.args.value c.args.owner c.requires.value)
