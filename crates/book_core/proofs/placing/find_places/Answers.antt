use Rattle.std.proofs.Common.{◌∙◌, ◌<◌, ap, subst}
use Rattle.std.proofs.lemmas.Option.{slice_get_within}
use Rattle.std.specs.Option.{option_map}
use Rattle.book_core.specs.declared.peering.Peering.{Peering}
use Rattle.book_core.specs.Settling.{number_kept}
use Rattle.book_core.proofs.placing.find_places.Goals as goal

pub returns : goal.returns
returns c = record {
  kept = λ n is there.
      c.kept_numbers.ensures.each n
      (subst (λ k. n < k) c.requires (slice_get_within c.args.peers.now n is there))
      ∙ ap (option_map (λ (is : Peering). number_kept c.args.sections.now is.slot.settings)) there;
  kept_count = c.kept_numbers.ensures.count;
  news = c.new_numbers.ensures.each;
  news_count = c.new_numbers.ensures.count;
}
