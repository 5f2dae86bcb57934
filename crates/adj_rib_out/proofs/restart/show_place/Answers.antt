use Rattle.std.proofs.Common.{◌∙◌, Option, Some, ap, sym}
use Rattle.std.specs.Prelude.{option_copied}
use Rattle.adj_rib_out.specs.Kept.{shown_number}
use Rattle.adj_rib_out.specs.Shown.{show_by}
use Rattle.route_values.specs.declared.key.Key.{Key}
use Rattle.adj_rib_out.proofs.ShownLemmas as shown
use Rattle.adj_rib_out.proofs.restart.show_place.Goals as goal

pub returns-in_default : goal.returns-in_default
returns-in_default c = ap (λ (o : Option Key). show_by o c.args.routes.now c.args.values.now.seen c.args.caps
    c.args.slots.now
    c.args.place) (sym (ap option_copied c.in_default.is) ∙ c.at.ensures)

pub show-requires-clause-slot : goal.show-requires-clause-slot
show-requires-clause-slot c = shown.slot_within c.args.keys.now.keys c.args.routes.now c.args.values.now.seen
    c.args.caps
    c.args.slots.now c.requires.can c.args.place c.in-Some.key.now
    (sym c.at.ensures ∙ ap option_copied c.in-Some.is) c.shown_number-number.result
    (c.shown_number-number.ensures
    ∙ ap (shown_number (Some c.args.caps) c.args.values.now.seen c.in-Some.key.now) c.chosen_at.ensures)

pub show-requires-clause-value : goal.show-requires-clause-value
show-requires-clause-value c = shown.number_below c.args.keys.now.keys c.args.routes.now c.args.values.now.seen
    c.args.caps
    c.args.slots.now c.requires.can c.args.place c.in-Some.key.now
    (sym c.at.ensures ∙ ap option_copied c.in-Some.is) c.shown_number-number.result
    (c.shown_number-number.ensures
    ∙ ap (shown_number (Some c.args.caps) c.args.values.now.seen c.in-Some.key.now) c.chosen_at.ensures)

pub show-requires-clause-parity : goal.show-requires-clause-parity
show-requires-clause-parity c = shown.number_parity c.args.keys.now.keys c.args.routes.now c.args.values.now.seen
    c.args.caps
    c.args.slots.now c.requires.can c.args.place c.in-Some.key.now
    (sym c.at.ensures ∙ ap option_copied c.in-Some.is) c.shown_number-number.result
    (c.shown_number-number.ensures
    ∙ ap (shown_number (Some c.args.caps) c.args.values.now.seen c.in-Some.key.now) c.chosen_at.ensures)

pub returns : goal.returns
returns c = c.show.ensures ∙ shown.place_is c.args.keys.now.keys c.args.routes.now c.args.values.now.seen c.args.caps
    c.args.slots.now c.requires.can c.args.place c.in-Some.key.now
    (sym c.at.ensures ∙ ap option_copied c.in-Some.is) c.shown_number-number.result
    (c.shown_number-number.ensures
    ∙ ap (shown_number (Some c.args.caps) c.args.values.now.seen c.in-Some.key.now) c.chosen_at.ensures)
