use Rattle.std.proofs.Common.{refl, ◌∙◌}
use Rattle.book_core.proofs.PlanLemmas.{stays}
use Rattle.book_core.proofs.planning.stay.Goals as goal

pub returns : goal.returns
returns c = record {
  planned = stays c.args.peering.now c.prepare_statics.new.self c.args.new.now c.in_ok-numbers.numbers
      c.in_ok-names.names c.as_slice-2.result.now c.as_slice-2.ensures c.requires c.in_ok-numbers.ensures.settings
      c.in_ok-numbers.ensures.ok (c.in_ok-names.ensures ∙ c.as_slice.ensures);
  moves = record { slot = c.in_ok-numbers.ensures.stands; names = refl };
}
