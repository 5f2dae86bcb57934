use Rattle.std.proofs.Common.{List, ℕ, OnErr, Bool, ap, subst, sym, ◌∙◌}
use Rattle.std.specs.declared.option.Option.{Option}
use Rattle.health_core.specs.Printing.{command_text}
use Rattle.health_core.specs.Watching.{AllSay, GrowsPart, ended, line_of, said_of, text_of}
use Rattle.health_core.proofs.WatchLemmas.{on_ok, say_one, text_one}
use Rattle.health_core.proofs.watching.put_command.Goals as goal

pub returns-clause-part : goal.returns-clause-part
returns-clause-part g c =
    subst (λ (which : Option Bool). OnErr c.put_line.result
    (GrowsPart (g.K.Sink.taken c.args.output.now) (g.K.Sink.taken c.put_line.new.output)
    (text_of (line_of c.args.health.now which)))) (sym c.in-Some.is)
    (subst (λ (bytes : List ℕ). OnErr c.put_line.result
    (GrowsPart (g.K.Sink.taken c.args.output.now) (g.K.Sink.taken c.put_line.new.output) bytes))
    (ap ended c.in_ok-line.ensures.text ∙ sym (text_one (command_text c.args.health.now c.in-Some.up)))
    c.put_line.ensures.part)

pub returns-clause-says : goal.returns-clause-says
returns-clause-says g c =
    on_ok c.put_line.result
    (λ sound. subst
    (λ (which : Option Bool). AllSay (line_of c.args.health.now which) (said_of c.args.health.now which))
    (sym c.in-Some.is)
    (say_one c.args.health.now c.in-Some.up c.in_ok-line.line c.in_ok-line.ensures.text
    (c.in_ok-line.ensures.says sound)))
