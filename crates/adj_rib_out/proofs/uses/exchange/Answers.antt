use Rattle.adj_rib_out.proofs.UsageLemmas as usage
use Rattle.adj_rib_out.proofs.uses.exchange.Goals as goal

pub release_number-requires-clause-stands : goal.release_number-requires-clause-stands
release_number-requires-clause-stands c = usage.still_wired c.args.values.now c.hold_number.new.values c.args.lost
    c.args.gained c.hold_number.ensures.counts c.hold_number.ensures.rest c.requires.was

pub release_number-requires-clause-counted : goal.release_number-requires-clause-counted
release_number-requires-clause-counted c = usage.still_counted c.args.values.now c.hold_number.new.values c.args.lost
    c.args.gained c.hold_number.ensures.counts c.hold_number.ensures.rest c.requires.lost

pub returns-clause-counts : goal.returns-clause-counts
returns-clause-counts c = usage.exchanged c.args.values.now c.hold_number.new.values c.args.lost c.args.gained
    c.hold_number.ensures.counts c.hold_number.ensures.rest c.release_number.new.values
    c.release_number.ensures.counts c.release_number.ensures.rest

pub returns-clause-rest : goal.returns-clause-rest
returns-clause-rest c = usage.exchanged_rest c.args.values.now c.hold_number.new.values c.args.lost c.args.gained
    c.hold_number.ensures.counts c.hold_number.ensures.rest c.release_number.new.values
    c.release_number.ensures.counts c.release_number.ensures.rest
