use Rattle.std.proofs.Common.{arith, length-drop, take, drop, append-nil, ◌∙◌}
use Rattle.std.proofs.lemmas.List.{take_rest, take-append-drop}
use Rattle.std.proofs.Math.Seq.{take-add}
use Rattle.outside.proofs.ToldLemmas.{grows_more}
use Rattle.outside.proofs.writing.write_all.Goals as goal

pub rests-preserved : goal.rests-preserved
rests-preserved g c =
    let piece = c.args.piece.now in
    let written = c.rests.written in
    let bytes = c.in-Wrote.ensures.bytes in
    record {
      within = omega (arith, bytes.1, length-drop written piece);
      taken = rw (take-add written c.in-Wrote.count piece)
          (grows_more _ _ _ _ _ c.rests.invariant.taken (rw (take_rest piece written) at bytes.2));
      same = c.in-Wrote.ensures.cause ∙ c.rests.invariant.same;
    }

pub returns-in-Failed-clause-err : goal.returns-in-Failed-clause-err
returns-in-Failed-clause-err g c =
    let piece = c.args.piece.now in
    let written = c.rests.written in (
      take written piece,
      drop written piece,
      rw take-append-drop,
      omega (arith, length-drop written piece),
      rw append-nil at (grows_more _ _ _ _ _ c.rests.invariant.taken c.in-Failed.ensures.bytes),
    )
