use Rattle.std.proofs.Common.{List, ℕ, ◌++◌, codes, ap, subst, ◌∙◌, OnOk, OnErr}
use Rattle.std.specs.declared.option.Option.{Option}
use Rattle.std.specs.Prelude.{Bool}
use Rattle.outside.specs.Told.{Grows}
use Rattle.health_core.specs.Watching.{AllSay, GrowsPart, ended, first_command, line_of, said_of}
use Rattle.health_core.specs.Watching.{text_of}
use Rattle.health_core.proofs.WatchLemmas.{grows_then, on_err, part_more, part_then, say_first}
use Rattle.health_core.proofs.WatchLemmas.{then_ok}
use Rattle.health_core.proofs.watching.begin.Goals as goal

pub returns-in_err-put_line-clause-part : goal.returns-in_err-put_line-clause-part
returns-in_err-put_line-clause-part g c =
    on_err c.from_residual-in_err-put_line.result
    (part_more _ _ (ended (codes "disable-ack")) (text_of (line_of c.args.health.now (first_command c.args.health.now)))
    (subst (λ (line : List ℕ). GrowsPart (g.K.Sink.taken c.args.output.now) (g.K.Sink.taken c.put_line.new.output)
    (ended line)) (c.in_ok-put.ensures.ok ∙ ap (λ (bytes : List ℕ). bytes ++ codes "disable-ack") c.new-line.ensures)
    c.in_err-put_line.ensures.part))

pub returns-clause-ok : goal.returns-clause-ok
returns-clause-ok g c =
    grows_then c.put_command.result _ _ _ (ended (codes "disable-ack"))
    (text_of (line_of c.args.health.now (first_command c.args.health.now)))
    (subst (λ (line : List ℕ). Grows (g.K.Sink.taken c.args.output.now) (g.K.Sink.taken c.put_line.new.output)
    (ended line)) (c.in_ok-put.ensures.ok ∙ ap (λ (bytes : List ℕ). bytes ++ codes "disable-ack") c.new-line.ensures)
    c.in_ok-put_line.ensures.ok)
    (subst (λ (which : Option Bool). OnOk c.put_command.result (Grows (g.K.Sink.taken c.put_line.new.output)
    (g.K.Sink.taken c.put_command.new.output) (text_of (line_of c.args.health.now which)))) c.first_command.ensures
    c.put_command.ensures.ok)

pub returns-clause-part : goal.returns-clause-part
returns-clause-part g c =
    part_then c.put_command.result _ _ _ (ended (codes "disable-ack"))
    (text_of (line_of c.args.health.now (first_command c.args.health.now)))
    (subst (λ (line : List ℕ). Grows (g.K.Sink.taken c.args.output.now) (g.K.Sink.taken c.put_line.new.output)
    (ended line)) (c.in_ok-put.ensures.ok ∙ ap (λ (bytes : List ℕ). bytes ++ codes "disable-ack") c.new-line.ensures)
    c.in_ok-put_line.ensures.ok)
    (subst (λ (which : Option Bool). OnErr c.put_command.result (GrowsPart (g.K.Sink.taken c.put_line.new.output)
    (g.K.Sink.taken c.put_command.new.output) (text_of (line_of c.args.health.now which)))) c.first_command.ensures
    c.put_command.ensures.part)

pub returns-clause-says : goal.returns-clause-says
returns-clause-says g c =
    then_ok c.put_command.result
    (λ says sound. say_first c.args.health.now
    (subst (λ (which : Option Bool). AllSay (line_of c.args.health.now which) (said_of c.args.health.now which))
    c.first_command.ensures (says sound)))
    c.put_command.ensures.says
