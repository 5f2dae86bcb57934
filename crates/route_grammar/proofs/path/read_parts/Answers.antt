use Rattle.std.proofs.Common.{refl, ◌∙◌, arith}
use Rattle.std.proofs.lemmas.Bool.{iff_false}
use Rattle.std.proofs.lemmas.Result.{err_from_is_err_and}
use Rattle.route_grammar.proofs.PathLemmas.{nothing_drawn}
use Rattle.route_grammar.proofs.PartLemmas.{no_parts_read, more_parts_read, part_fault, path_no_room, path_read}
use Rattle.route_grammar.proofs.path.read_parts.Goals as goal

pub parts-init : goal.parts-init
parts-init g c = record {
  end = c.advance.ensures.end;
  read = no_parts_read (g.W.Words.left c.args.words.now) (g.W.Words.left c.advance.new.self)
      c.new-drawn.result.whole.items c.new-drawn.result.run 0 c.requires c.advance.ensures.left
      (nothing_drawn c.new-drawn.result.whole.items c.new-drawn.result.run c.new-drawn.ensures.whole
      c.new-drawn.ensures.run) refl;
}

pub returns-then-count-ge-MAX_AS_NUMBERS-clause-answers : goal.returns-then-count-ge-MAX_AS_NUMBERS-clause-answers
returns-then-count-ge-MAX_AS_NUMBERS-clause-answers g c =
    path_no_room (g.W.Words.left c.args.words.now) (g.W.Words.left c.parts.words) (g.W.Words.end c.parts.words)
    c.parts.drawn.whole.items c.parts.drawn.run c.parts.count 255 c.no_room.result c.parts.invariant.read
    (iff_false c.is_mark.ensures c.parts-test.true) (omega arith) refl c.no_room.ensures

pub returns-in_err-part-clause-answers : goal.returns-in_err-part-clause-answers
returns-in_err-part-clause-answers g c =
    let e = err_from_is_err_and c.from_residual.result c.from_residual.ensures.1 in
    rw (e.1, e.2) (part_fault (g.W.Words.left c.args.words.now) (g.W.Words.left c.parts.words)
    (g.W.Words.left c.read_part.new.words) (g.W.Words.end c.read_part.new.words) c.parts.drawn.whole.items
    c.parts.drawn.run c.parts.count _ c.parts.invariant.read (iff_false c.is_mark.ensures c.parts-test.true)
    (omega arith) c.in_err-part.ensures.answers)

pub parts-preserved : goal.parts-preserved
parts-preserved g c = record {
  end = c.in_ok-part.ensures.end ∙ c.parts.invariant.end;
  read = more_parts_read (g.W.Words.left c.args.words.now) (g.W.Words.left c.parts.words)
      (g.W.Words.left c.read_part.new.words) c.parts.drawn.whole.items c.put.new.self.whole.items c.parts.drawn.run
      c.put.new.self.run c.parts.count _ c.in_ok-part.part c.parts.invariant.read (omega arith)
      c.in_ok-part.ensures.answers (omega (arith, c.count-count.ensures)) c.in_ok-put.ensures;
}

pub returns-clause-answers : goal.returns-clause-answers
returns-clause-answers g c =
    path_read (g.W.Words.left c.args.words.now) (g.W.Words.left c.parts.words) (g.W.Words.left c.advance-2.new.self)
    c.parts.drawn.whole.items c.in_ok-path.path c.parts.drawn.run c.parts.count c.parts.invariant.read
    (c.is_mark.ensures.0 c.parts-test.false) c.advance-2.ensures.left c.in_ok-path.ensures
