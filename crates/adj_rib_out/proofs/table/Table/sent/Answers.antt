use Rattle.std.proofs.Common.{Option, List, false, ◌<◌, ◌^◌, length, sym, ap, ◌∙◌, refl, rules}
use Rattle.std.specs.Prelude.{is_some, ◌||◌}
use Rattle.adj_rib_out.specs.declared.chosen.Chosen.{Chosen}
use Rattle.adj_rib_out.specs.KeyPlaces.{KeyPlaces}
use Rattle.adj_rib_out.specs.Kept.{chosen_at, keeps}
use Rattle.adj_rib_out.specs.Stock.{Stock}
use Rattle.adj_rib_out.proofs.InsideLemmas.{parts}
use Rattle.adj_rib_out.proofs.PassLemmas as pass
use Rattle.adj_rib_out.proofs.PassedLemmas as passed
use Rattle.adj_rib_out.proofs.PlaceLemmas as place
use Rattle.adj_rib_out.proofs.WholeLemmas as whole
use Rattle.adj_rib_out.proofs.table.Table.sent.Goals as goal

pub invariant_of-self : goal.invariant_of-self
invariant_of-self c = whole.same_whole (parts c.self.inside) c.self.inside.keys.idle c.self.inside.values.routes
    c.self.inside.values.uses
    c.self.invariant _
    (pass.unmarked_kept (parts c.self.inside) c.self.invariant.table c.args.self.now c.self.view_is
    (ap is_some (sym c.front.ensures.first ∙ c.in_default.is)) false c.both-ipv6.result
    (place.first_gone c.self.inside.ipv4_marker c.self.inside.ipv6_marker c.both-ipv6.result c.both-ipv6.ensures))
    refl refl refl refl refl

pub returns-in_default-clause-passes : goal.returns-in_default-clause-passes
returns-in_default-clause-passes c = pass.unmarked_passes (parts c.self.inside) c.self.invariant.table c.args.self.now
    c.self.view_is (ap is_some (sym c.front.ensures.first ∙ c.in_default.is)) false c.both-ipv6.result
    (place.first_gone c.self.inside.ipv4_marker c.self.inside.ipv6_marker c.both-ipv6.result c.both-ipv6.ensures)

pub returns-in_default-clause-nodes : goal.returns-in_default-clause-nodes
returns-in_default-clause-nodes c = place.unmarked_counts (parts c.self.inside) c.self.invariant.table c.args.self.now
    c.self.view_is (ap is_some (sym c.front.ensures.first ∙ c.in_default.is)) false c.both-ipv6.result
    (place.first_gone c.self.inside.ipv4_marker c.self.inside.ipv6_marker c.both-ipv6.result c.both-ipv6.ensures)

pub stands-was-requires : goal.stands-was-requires
stands-was-requires c = place.within_old (parts c.self.inside) c.self.invariant.table c.in-Some.item
    (sym c.front.ensures.first ∙ c.in-Some.is)

pub sent-requires : goal.sent-requires
sent-requires c = place.within_old (parts c.self.inside) c.self.invariant.table c.in-Some.item
    (sym c.front.ensures.first ∙ c.in-Some.is)

pub exchange-requires-clause-lost : goal.exchange-requires-clause-lost
exchange-requires-clause-lost c = passed.can_lose (parts c.self.inside) c.self.inside.keys.idle
    c.self.inside.values.routes c.self.inside.values.uses
    c.self.invariant c.in-Some.item
    (sym c.front.ensures.first ∙ c.in-Some.is) c.sent.result c.sent.ensures.value

pub exchange-requires-clause-was : goal.exchange-requires-clause-was
exchange-requires-clause-was c = passed.lost_stands (parts c.self.inside) c.self.inside.keys.idle
    c.self.inside.values.routes c.self.inside.values.uses
    c.self.invariant c.in-Some.item
    (sym c.front.ensures.first ∙ c.in-Some.is) c.sent.result c.sent.ensures.value

pub exchange-requires-clause-gained : goal.exchange-requires-clause-gained
exchange-requires-clause-gained c = passed.can_gain (parts c.self.inside) c.self.inside.keys.idle
    c.self.inside.values.routes c.self.inside.values.uses
    c.self.invariant c.in-Some.item
    (sym c.front.ensures.first ∙ c.in-Some.is)

pub exchange-requires-clause-small : goal.exchange-requires-clause-small
exchange-requires-clause-small c =
    let small : length c.self.inside.routes.items < 2 ^ 63 = search rules in
    passed.uses_small (parts c.self.inside) c.self.inside.keys.idle c.self.inside.values.routes
    c.self.inside.values.uses
    c.self.invariant c.in-Some.item
    (sym c.front.ensures.first ∙ c.in-Some.is) small

pub stands-still-requires : goal.stands-still-requires
stands-still-requires c = place.within_new (parts c.self.inside) c.self.invariant.table c.args.self.now c.self.view_is
    c.pass.new.self c.pass.ensures c.in-Some.item (sym c.front.ensures.first ∙ c.in-Some.is)

pub note_unless-requires : goal.note_unless-requires
note_unless-requires c = passed.stands (parts c.self.inside) c.self.inside.keys.idle c.self.inside.values.routes
    c.self.inside.values.uses
    c.self.invariant c.in-Some.item
    (sym c.front.ensures.first ∙ c.in-Some.is) c.self.inside.keys.keys refl

pub invariant_of-self-2 : goal.invariant_of-self-2
invariant_of-self-2 c = passed.after_whole (parts c.self.inside) c.self.inside.keys.idle c.self.inside.values.routes
    c.self.inside.values.uses
    c.self.invariant c.in-Some.item
    (sym c.front.ensures.first ∙ c.in-Some.is) c.pass.new.self c.pass.ensures c.note_unless.new.keys.keys
    c.exchange.new.values.seen (ap (λ (k : KeyPlaces). k.keys) c.note_unless.ensures)
    (ap (λ (s : Stock). s.seen) c.exchange.ensures.rest) c.args.self.now c.self.view_is
    c.stands-still.result
    (c.stands-still.ensures ∙ ap (λ (rs : List (Option Chosen)). is_some (chosen_at rs c.in-Some.item.slot)
    || keeps c.pass.new.self c.in-Some.item.slot) c.deref-2.ensures.value)
    c.sent.result c.sent.ensures.value c.exchange.new.values.uses c.note_unless.new.keys.idle
    c.exchange.new.values.routes c.exchange.ensures.counts (ap (λ (k : KeyPlaces). k.idle) c.note_unless.ensures)
    (ap (λ (s : Stock). s.routes) c.exchange.ensures.rest)

pub returns-clause-passes : goal.returns-clause-passes
returns-clause-passes c = passed.after_passes (parts c.self.inside) c.self.inside.keys.idle
    c.self.inside.values.routes c.self.inside.values.uses
    c.self.invariant c.in-Some.item
    (sym c.front.ensures.first ∙ c.in-Some.is) c.pass.new.self c.pass.ensures c.note_unless.new.keys.keys
    c.exchange.new.values.seen (ap (λ (k : KeyPlaces). k.keys) c.note_unless.ensures)
    (ap (λ (s : Stock). s.seen) c.exchange.ensures.rest) c.args.self.now c.self.view_is

pub returns-clause-nodes : goal.returns-clause-nodes
returns-clause-nodes c = passed.after_counts (parts c.self.inside) c.self.inside.keys.idle
    c.self.inside.values.routes c.self.inside.values.uses
    c.self.invariant c.in-Some.item
    (sym c.front.ensures.first ∙ c.in-Some.is) c.pass.new.self c.pass.ensures c.note_unless.new.keys.keys
    c.exchange.new.values.seen (ap (λ (k : KeyPlaces). k.keys) c.note_unless.ensures)
    (ap (λ (s : Stock). s.seen) c.exchange.ensures.rest) c.args.self.now c.self.view_is
    c.stands-was.result c.stands-still.result c.unless.result
    (c.stands-was.ensures ∙ ap (λ (rs : List (Option Chosen)). is_some (chosen_at rs c.in-Some.item.slot)
    || keeps c.self.inside.slots c.in-Some.item.slot) c.deref.ensures.value)
    (c.stands-still.ensures ∙ ap (λ (rs : List (Option Chosen)). is_some (chosen_at rs c.in-Some.item.slot)
    || keeps c.pass.new.self c.in-Some.item.slot) c.deref-2.ensures.value)
    c.unless.ensures
