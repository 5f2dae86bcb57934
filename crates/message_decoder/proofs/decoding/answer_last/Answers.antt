use Rattle.std.proofs.Common.{◌≡◌, ◌<◌, ◌+◌, ◌∙◌, List, ℕ, length, subst, sym, arith}
use Rattle.std.proofs.lemmas.Bool.{eqb-false, eqb-true}
use Rattle.outside.specs.Seen.{sink_seen}
use Rattle.message_decoder.specs.Decoding.{IsAnswer}
use Rattle.message_decoder.specs.Streams.{Writes}
use Rattle.message_decoder.proofs.LastLemmas.{finished, no_elements, none_last}
use Rattle.message_decoder.proofs.decoding.answer_last.Goals as goal

pub returns-then-is_empty : goal.returns-then-is_empty
returns-then-is_empty g c =
    let none = eqb-true _ 0 (sym c.is_empty.ensures ∙ c.if-is_empty.true) in
    let no_bytes : length c.args.place.now.held.items ≡ 0 = omega (arith, none, c.args.place.now.held.ok.0) in
    λ bytes text are.
    none_last c.args.caps.now bytes c.args.place.now.held.items text c.args.place.now.number _ are
    (no_elements c.args.place.now.held.items no_bytes)

pub returns : goal.returns
returns g c =
    let sink = sink_seen g.K.Sink.taken g.K.Sink.faults c.args.output.now in
    let sink' = sink_seen g.K.Sink.taken g.K.Sink.faults c.answer_line.new.output in
    let some = eqb-false _ 0 (sym c.is_empty.ensures ∙ c.if-is_empty.false) in
    let bytes_there : 0 < length c.args.place.now.held.items = omega (arith, some, c.args.place.now.held.ok.0) in
    λ bytes text are.
    finished c.args.caps.now bytes c.args.place.now.held.items text c.args.place.now.number sink sink'
    c.answer_line.result are bytes_there
    (subst (λ (line : List ℕ). Writes (IsAnswer c.args.caps.now (c.args.place.now.number + 1) line) sink sink'
    c.answer_line.result) c.deref.ensures.value c.answer_line.ensures)
