use Rattle.std.proofs.Common.{sym, ap, ◌∙◌}
use Rattle.std.specs.Prelude.{is_some}
use Rattle.std.specs.Option.{option_and_then}
use Rattle.adj_rib_out.specs.State.{value_at}
use Rattle.peer_book.specs.Statics.{static_of}
use Rattle.peer_book.proofs.OverLemmas.{over_helpers, over_ready, over_set, sound_over}
use Rattle.peer_book.proofs.keeping.put_over.Goals as goal

pub returns-then-is_helpers-clause-puts : goal.returns-then-is_helpers-clause-puts
returns-then-is_helpers-clause-puts c =
    over_helpers c.args.numbers.now c.args.table.now (static_of c.args.route.now)
    (sym c.is_helpers.ensures ∙ c.if-is_helpers.true)

pub returns-then-is_helpers-clause-sound : goal.returns-then-is_helpers-clause-sound
returns-then-is_helpers-clause-sound c = c.requires.sound

pub set_each-requires-clause-ready : goal.set_each-requires-clause-ready
set_each-requires-clause-ready c = over_ready c.args.table.now c.args.route.now.key c.requires.can.ready

pub set_each-requires-clause-value : goal.set_each-requires-clause-value
set_each-requires-clause-value c =
    ap (λ n. is_some (option_and_then (value_at c.args.table.now) n)) c.in-Some.ensures ∙ c.requires.can.value

pub returns-clause-puts : goal.returns-clause-puts
returns-clause-puts c =
    over_set c.args.numbers.now c.args.table.now c.set_each.new.table (static_of c.args.route.now) c.in-Some.number
    (sym c.is_helpers.ensures ∙ c.if-is_helpers.false) (sym c.in-Some.ensures) c.set_each.ensures.sets

pub returns-clause-sound : goal.returns-clause-sound
returns-clause-sound c =
    sound_over c.args.numbers.now c.args.table.now c.set_each.new.table (static_of c.args.route.now) c.in-Some.number
    (sym c.is_helpers.ensures ∙ c.if-is_helpers.false) (sym c.in-Some.ensures) c.set_each.ensures.sets c.requires.sound
    c.requires.can c.set_each.ensures.keys
