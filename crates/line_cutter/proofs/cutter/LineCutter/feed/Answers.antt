use Rattle.std.proofs.Common.{sym, ◌∙◌}
use Rattle.line_cutter.proofs.CuttingLemmas.{count_ended, fed_ended, feeding_none, behind_part, behind_count}
use Rattle.line_cutter.proofs.CuttingLemmas.{behind_same, behind_feeding, rest_count, rest_same}
use Rattle.line_cutter.proofs.cutter.LineCutter.feed.Goals as goal

pub returns-then-stands-clause-count : goal.returns-then-stands-clause-count
returns-then-stands-clause-count c =
    sym (count_ended c.args.piece.now c.args.self.now (sym c.stands.ensures ∙ c.if-stands.true))

pub returns-then-stands-clause-taken : goal.returns-then-stands-clause-taken
returns-then-stands-clause-taken c =
    sym (fed_ended c.args.piece.now c.args.self.now (sym c.stands.ensures ∙ c.if-stands.true))

pub parts-init : goal.parts-init
parts-init c = feeding_none c.args.piece.now c.args.self.now (sym c.stands.ensures ∙ c.if-stands.false)

pub returns-then-stands-2-clause-count : goal.returns-then-stands-2-clause-count
returns-then-stands-2-clause-count c =
    behind_count c.args.piece.now c.args.self.now c.in-Some.behind.now c.close.new.self
    (behind_part _ _ c.parts.rest.now c.in-Some.part.now c.in-Some.behind.now c.parts.self c.grow.new.self
    c.close.new.self c.parts.invariant c.in-Some.ensures.found c.in-Some.ensures.first c.grow.ensures c.close.ensures)
    (sym c.stands-in-Some.ensures ∙ c.if-stands-2.true)

pub returns-then-stands-2-clause-taken : goal.returns-then-stands-2-clause-taken
returns-then-stands-2-clause-taken c =
    behind_same c.args.piece.now c.args.self.now c.in-Some.behind.now c.close.new.self
    (behind_part _ _ c.parts.rest.now c.in-Some.part.now c.in-Some.behind.now c.parts.self c.grow.new.self
    c.close.new.self c.parts.invariant c.in-Some.ensures.found c.in-Some.ensures.first c.grow.ensures c.close.ensures)
    (sym c.stands-in-Some.ensures ∙ c.if-stands-2.true)

pub parts-preserved : goal.parts-preserved
parts-preserved c =
    behind_feeding c.args.piece.now c.args.self.now c.in-Some.behind.now c.close.new.self
    (behind_part _ _ c.parts.rest.now c.in-Some.part.now c.in-Some.behind.now c.parts.self c.grow.new.self
    c.close.new.self c.parts.invariant c.in-Some.ensures.found c.in-Some.ensures.first c.grow.ensures c.close.ensures)
    (sym c.stands-in-Some.ensures ∙ c.if-stands-2.false)

pub returns-clause-count : goal.returns-clause-count
returns-clause-count c = rest_count _ _ c.parts.rest.now c.parts.self c.parts.invariant c.in_default.ensures.none

pub returns-clause-taken : goal.returns-clause-taken
returns-clause-taken c =
    c.grow-2.ensures ∙ rest_same _ _ c.parts.rest.now c.parts.self c.parts.invariant c.in_default.ensures.none
