use Rattle.std.proofs.Common.{◌<◌, ◌≤◌, length, arith}
use Rattle.std.proofs.lemmas.Grind.{common_steps}
use Rattle.adj_rib_out.proofs.ReleaseLemmas as release
use Rattle.adj_rib_out.proofs.uses.release_all.Goals as goal

pub sents-init : goal.sents-init
sents-init c = release.none_released c.args.slots.now.sents c.args.values.now c.requires.counted c.requires.stand

pub release_number-requires-clause-stands : goal.release_number-requires-clause-stands
release_number-requires-clause-stands c =
    let within : c.sents.slot < length c.args.slots.now.sents = grind (arith, common_steps) in
    release.still_stands c.args.slots.now.sents c.args.values.now c.requires.counted c.requires.stand c.sents.values
    c.sents.slot within c.sents.invariant c.sent.result c.sent.ensures.value

pub release_number-requires-clause-counted : goal.release_number-requires-clause-counted
release_number-requires-clause-counted c =
    let within : c.sents.slot < length c.args.slots.now.sents = grind (arith, common_steps) in
    release.can_release c.args.slots.now.sents c.args.values.now c.requires.counted c.requires.stand c.sents.values
    c.sents.slot within c.sents.invariant c.sent.result c.sent.ensures.value

pub sents-preserved : goal.sents-preserved
sents-preserved c =
    let within : c.sents.slot < length c.args.slots.now.sents = grind (arith, common_steps) in
    release.next_released c.args.slots.now.sents c.args.values.now c.requires.counted c.requires.stand c.sents.values
    c.sents.slot within c.sents.invariant c.sent.result c.sent.ensures.value c.release_number.new.values
    c.release_number.ensures.counts c.release_number.ensures.rest

pub returns-clause-counts : goal.returns-clause-counts
returns-clause-counts c =
    let through : length c.args.slots.now.sents ≤ c.sents.slot = grind (arith, common_steps) in
    release.all_released c.args.slots.now.sents c.args.values.now c.requires.counted c.requires.stand c.sents.values
    c.sents.slot through c.sents.invariant

pub returns-clause-rest : goal.returns-clause-rest
returns-clause-rest c = c.sents.invariant.rest
