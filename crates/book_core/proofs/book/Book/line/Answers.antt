use Rattle.std.proofs.Common.{◌≡◌, ◌<◌, ◌∙◌, false, length, sym, subst}
use Rattle.command_grammar.specs.Readings.{Says}
use Rattle.book_history.specs.Verdicts.{is_late}
use Rattle.book_core.specs.Lines.{Answers, HasRoom}
use Rattle.book_core.specs.Seen.{fields}
use Rattle.book_core.specs.Stands.{Stands}
use Rattle.book_core.proofs.TimeLemmas.{full_told, has_room, has_to_wait, in_time, not_full, too_late}
use Rattle.book_core.proofs.book.Book.line.Goals as goal

pub enter-requires-clause-room : goal.enter-requires-clause-room
enter-requires-clause-room c =
    subst (HasRoom c.args.h) c.self.view_is
    (has_room (fields c.self.inside) c.args.h c.index-helper.result.now
    (subst (λ k. c.args.h < k) (sym c.self.invariant.helpers) c.requires) c.index-helper.ensures
    (not_full c.is_full.result (length c.index-helper.result.now.slot.replies) c.if-is_full.false
    c.is_full.ensures.full.1))

pub enter-requires-clause-said : goal.enter-requires-clause-said
enter-requires-clause-said c =
    let line = c.args.read.now.line in
    (line, subst (Says line) (sym c.reading-reading.ensures.value) c.reading-reading.ensures.says)

pub returns-then-is_late : goal.returns-then-is_late
returns-then-is_late c = λ cfg H is.
    too_late cfg H c.args.h c.args.inc c.args.read.now.line c.args.read.now.reading c.args.self.now c.is_late.result
    c.reading-reading.ensures.says (c.is_late.ensures cfg H is) c.if-is_late.true is

pub returns-then-is_full : goal.returns-then-is_full
returns-then-is_full c = λ cfg H is.
    let here : Stands cfg H (fields c.self.inside) = subst (Stands cfg H) (sym c.self.view_is) is in
    let timely : is_late cfg H c.args.h c.args.inc ≡ false = sym (c.is_late.ensures cfg H is) ∙ c.if-is_late.false in
    let full = full_told cfg H c.args.h c.args.inc (fields c.self.inside) c.index-helper.result.now c.is_full.result
    (subst (λ k. c.args.h < k) (sym c.self.invariant.helpers) c.requires) c.index-helper.ensures
    (c.is_full.ensures.busy cfg H c.args.h c.args.inc) timely here in
    has_to_wait cfg H c.args.h c.args.inc c.args.read.now.line c.args.read.now.reading c.args.self.now
    c.reading-reading.ensures.says timely (full ∙ c.if-is_full.true) is

pub returns : goal.returns
returns c = λ cfg H is.
    let here : Stands cfg H (fields c.self.inside) = subst (Stands cfg H) (sym c.self.view_is) is in
    let timely : is_late cfg H c.args.h c.args.inc ≡ false = sym (c.is_late.ensures cfg H is) ∙ c.if-is_late.false in
    let full = full_told cfg H c.args.h c.args.inc (fields c.self.inside) c.index-helper.result.now c.is_full.result
    (subst (λ k. c.args.h < k) (sym c.self.invariant.helpers) c.requires) c.index-helper.ensures
    (c.is_full.ensures.busy cfg H c.args.h c.args.inc) timely here in
    in_time cfg H c.args.h c.args.inc c.args.read.now.line c.args.read.now.reading c.enter.result c.args.self.now
    c.enter.new.self c.reading-reading.ensures.says timely (full ∙ c.if-is_full.false)
    (subst (λ r. Answers c.args.h r c.enter.result c.args.self.now c.enter.new.self) c.reading-reading.ensures.value
    c.enter.ensures) is
