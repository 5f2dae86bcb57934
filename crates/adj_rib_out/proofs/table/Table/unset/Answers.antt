use Rattle.std.proofs.Common.{◌∙◌, None, refl, sym, ap}
use Rattle.adj_rib_out.specs.KeyPlaces.{KeyPlaces}
use Rattle.adj_rib_out.specs.Kept.{parity_of}
use Rattle.adj_rib_out.specs.Stock.{Stock}
use Rattle.adj_rib_out.proofs.GivenLemmas as given
use Rattle.adj_rib_out.proofs.InsideLemmas.{parts}
use Rattle.adj_rib_out.proofs.NumberLemmas.{shown_none}
use Rattle.adj_rib_out.proofs.RowLemmas.{none_some}
use Rattle.adj_rib_out.proofs.SetLemmas as set
use Rattle.adj_rib_out.proofs.table.Table.unset.Goals as goal

pub returns-in_default-clause-set : goal.returns-in_default-clause-set
returns-in_default-clause-set c = set.nothing_set (parts c.self.inside) c.self.invariant.table c.args.key.now
    c.args.self.now c.self.view_is (sym c.place_of.ensures ∙ c.in_default.is)

pub returns-in_default-clause-nodes : goal.returns-in_default-clause-nodes
returns-in_default-clause-nodes c = set.nothing_counts (parts c.self.inside) c.self.invariant.table c.args.key.now
    c.args.self.now c.self.view_is (sym c.place_of.ensures ∙ c.in_default.is)

pub give-requires-clause-place : goal.give-requires-clause-place
give-requires-clause-place c = set.within_routes (parts c.self.inside) c.self.invariant.table c.args.key.now
    c.in-Some.place
    (sym c.place_of.ensures ∙ c.in-Some.is) None (λ chosen is. absurd (none_some is))

pub give-requires-clause-was : goal.give-requires-clause-was
give-requires-clause-was c = given.was_value (parts c.self.inside) c.self.invariant.table c.in-Some.place

pub give-requires-clause-counted : goal.give-requires-clause-counted
give-requires-clause-counted c = c.self.invariant.routes_counted

pub show-requires-clause-slot : goal.show-requires-clause-slot
show-requires-clause-slot c = set.within_nows (parts c.self.inside) c.self.invariant.table c.args.key.now
    c.in-Some.place
    (sym c.place_of.ensures ∙ c.in-Some.is) None (λ chosen is. absurd (none_some is))

pub show-requires-clause-value : goal.show-requires-clause-value
show-requires-clause-value c = set.below_room (parts c.self.inside) c.self.invariant.table c.args.key.now
    c.args.self.now c.self.view_is c.in-Some.place (sym c.place_of.ensures ∙ c.in-Some.is)
    None (λ chosen is. absurd (none_some is)) c.parity_of.result
    (c.parity_of.ensures.parity ∙ ap parity_of c.family.ensures
    ∙ sym (shown_none c.self.inside.values.seen c.self.inside.caps c.args.key.now))

pub show-requires-clause-parity : goal.show-requires-clause-parity
show-requires-clause-parity c = set.same_parity (parts c.self.inside) c.self.invariant.table c.args.key.now
    c.args.self.now c.self.view_is c.in-Some.place (sym c.place_of.ensures ∙ c.in-Some.is)
    None (λ chosen is. absurd (none_some is)) c.parity_of.result
    (c.parity_of.ensures.parity ∙ ap parity_of c.family.ensures
    ∙ sym (shown_none c.self.inside.values.seen c.self.inside.caps c.args.key.now))

pub is_busy-requires : goal.is_busy-requires
is_busy-requires c = given.within_after (parts c.self.inside) c.self.invariant.table c.args.key.now c.in-Some.place
    (sym c.place_of.ensures ∙ c.in-Some.is) None (λ chosen is. absurd (none_some is))
    c.show.new.self _ c.show.ensures

pub note_unless-requires : goal.note_unless-requires
note_unless-requires c = given.key_stands (parts c.self.inside) c.args.key.now c.in-Some.place
    (sym c.place_of.ensures ∙ c.in-Some.is) c.self.inside.keys.keys refl

pub invariant_of-self : goal.invariant_of-self
invariant_of-self c = given.unset_whole (parts c.self.inside) c.self.inside.keys.idle c.self.inside.values.routes
    c.self.inside.values.uses
    c.self.invariant c.args.key.now c.args.self.now c.self.view_is c.in-Some.place
    (sym c.place_of.ensures ∙ c.in-Some.is)
    None (λ chosen is. absurd (none_some is)) c.parity_of.result
    (c.parity_of.ensures.parity ∙ ap parity_of c.family.ensures
    ∙ sym (shown_none c.self.inside.values.seen c.self.inside.caps c.args.key.now))
    c.give.new.routes.items c.give.ensures.routes c.show.new.self c.show.ensures
    c.note_unless.new.keys.keys c.give.new.values.seen (ap (λ (k : KeyPlaces). k.keys) c.note_unless.ensures)
    (ap (λ (s : Stock). s.seen) c.give.ensures.rest)
    c.is_busy.result c.is_busy.ensures c.note_unless.new.keys.idle c.give.new.values.routes
    c.give.new.values.uses (ap (λ (k : KeyPlaces). k.idle) c.note_unless.ensures)
    (ap (λ (s : Stock). s.uses) c.give.ensures.rest) c.give.ensures.counted

pub returns-clause-set : goal.returns-clause-set
returns-clause-set c = given.after_sets (parts c.self.inside) c.self.inside.keys.idle c.self.inside.values.routes
    c.self.inside.values.uses
    c.self.invariant c.args.key.now c.args.self.now c.self.view_is c.in-Some.place
    (sym c.place_of.ensures ∙ c.in-Some.is)
    None (λ chosen is. absurd (none_some is)) c.parity_of.result
    (c.parity_of.ensures.parity ∙ ap parity_of c.family.ensures
    ∙ sym (shown_none c.self.inside.values.seen c.self.inside.caps c.args.key.now))
    c.give.new.routes.items c.give.ensures.routes c.show.new.self c.show.ensures
    c.note_unless.new.keys.keys c.give.new.values.seen (ap (λ (k : KeyPlaces). k.keys) c.note_unless.ensures)
    (ap (λ (s : Stock). s.seen) c.give.ensures.rest) _ refl

pub returns-clause-nodes : goal.returns-clause-nodes
returns-clause-nodes c = given.after_removed (parts c.self.inside) c.self.inside.keys.idle
    c.self.inside.values.routes c.self.inside.values.uses
    c.self.invariant c.args.key.now c.args.self.now c.self.view_is c.in-Some.place
    (sym c.place_of.ensures ∙ c.in-Some.is)
    None (λ chosen is. absurd (none_some is)) c.parity_of.result
    (c.parity_of.ensures.parity ∙ ap parity_of c.family.ensures
    ∙ sym (shown_none c.self.inside.values.seen c.self.inside.caps c.args.key.now))
    c.give.new.routes.items c.give.ensures.routes c.show.new.self c.show.ensures
    c.note_unless.new.keys.keys c.give.new.values.seen (ap (λ (k : KeyPlaces). k.keys) c.note_unless.ensures)
    (ap (λ (s : Stock). s.seen) c.give.ensures.rest) refl
