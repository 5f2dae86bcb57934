use Rattle.std.proofs.Common.{sym}
use Rattle.std.proofs.lemmas.Result.{err_from_is_err_and}
use Rattle.std.specs.List.{flat_map}
use Rattle.update_grammar.specs.Update.{gone_all}
use Rattle.update_codec.specs.Effects.{announced_effects}
use Rattle.message_decoder.proofs.EffectLemmas.{lines_begun, lines_both, named_broke}
use Rattle.message_decoder.proofs.effects.write_effects.Goals as goal

pub returns-in_err-write_gone : goal.returns-in_err-write_gone
returns-in_err-write_gone g c =
    let e = err_from_is_err_and c.from_residual.result c.from_residual.ensures.1 in
    rw (e.1, e.2) (named_broke _ _ _ _ _ (sym c.parts-parts.ensures)
    (lines_begun (gone_all c.parts-parts.result.gone.now) (flat_map announced_effects c.parts-parts.result.here.now) _
    _ _
    c.in_err-write_gone.ensures))

pub returns : goal.returns
returns g c =
    lines_both (gone_all c.parts-parts.result.gone.now) (flat_map announced_effects c.parts-parts.result.here.now)
    c.args.effects.now _ _ _ c.write_here.result c.parts-parts.ensures c.in_ok-write_gone.ensures c.write_here.ensures
