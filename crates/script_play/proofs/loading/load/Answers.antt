use Rattle.std.proofs.Common.{ℕ, List, subst}
use Rattle.outside.specs.Seen.{sink_seen}
use Rattle.script_play.specs.Loading.{Tells}
use Rattle.script_play.proofs.LoadingLemmas.{loads_told}
use Rattle.script_play.proofs.loading.load.Goals as goal

pub returns-in-Ok : goal.returns-in-Ok
returns-in-Ok g c = λ cfg stands.
    let before = sink_seen g.K.Sink.taken g.K.Sink.faults c.args.output.now in
    let after = sink_seen g.K.Sink.taken g.K.Sink.faults c.tell.new.output in
    loads_told cfg c.args.count c.load_all.new.book c.in-Ok.text.items before after c.tell.result
    (c.in-Ok.ensures cfg stands)
    (subst (λ (text : List ℕ). Tells text before after c.tell.result) c.deref.ensures.value c.tell.ensures)
