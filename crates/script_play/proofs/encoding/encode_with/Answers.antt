use Rattle.std.proofs.Common.{◌∙◌, ap, sym, length}
use Rattle.std.proofs.lemmas.List.{length-map}
use Rattle.std.proofs.lemmas.Result.{err_from_is_err_and}
use Rattle.route_values.specs.declared.settings.Settings.{Settings}
use Rattle.config_model.specs.declared.sections.Neighbor.{Neighbor}
use Rattle.script_play.proofs.EncodedLemmas.{lines_and_cuts, lines_stopped}
use Rattle.script_play.proofs.encoding.encode_with.Goals as goal

pub returns-in_err-answer_all : goal.returns-in_err-answer_all
returns-in_err-answer_all g c =
    let e = err_from_is_err_and c.from_residual.result c.from_residual.ensures.1 in
    λ cfg stands are.
    rw (e.1, e.2)
    (lines_stopped cfg _ _ _ _ c.start.new.player c.answer_all.new.player c.in_err-answer_all.field-0.0
    (c.start.ensures cfg cfg.neighbors stands are) (λ H. c.in_err-answer_all.ensures cfg H))

pub returns : goal.returns
returns g c = λ cfg stands are.
    lines_and_cuts c.encodings_leave_tables.ensures cfg _ _ _ _ _
    c.start.new.player c.answer_all.new.player c.cut_all.new.player c.cut_all.result
    (c.start.ensures cfg cfg.neighbors stands are) (λ H. c.in_ok-answer_all.ensures cfg H)
    (λ H stood. c.cut_all.ensures cfg H cfg.neighbors stood
    (sym (ap (length {A = Settings}) are ∙ length-map cfg.neighbors (λ (one : Neighbor). one.settings))))
