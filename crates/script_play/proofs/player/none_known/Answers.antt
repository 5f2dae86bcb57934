use Rattle.std.proofs.Common.{Some, None, ap, refl, replicate, ◌∙◌}
use Rattle.std.proofs.lemmas.List.{get_or-replicate}
use Rattle.std.proofs.lemmas.Option.{slice_get-get_or}
use Rattle.script_play.proofs.player.none_known.Goals as goal

pub returns : goal.returns
returns c = record {
  many = refl;
  each = λ n few.
      slice_get-get_or (replicate 64 None) n None few ∙ ap Some (get_or-replicate 64 n None None few);
}
