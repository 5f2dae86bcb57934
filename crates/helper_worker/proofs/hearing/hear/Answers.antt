use Rattle.std.proofs.Common.{refl}
use Rattle.helper_worker.proofs.HeardLemmas.{heard_late, heard_more, heard_none}
use Rattle.helper_worker.proofs.hearing.hear.Goals as goal

pub loop-init : goal.loop-init
loop-init g c = heard_none _ _ _ _ _ c.reset.ensures

pub returns-then-not-enter_piece : goal.returns-then-not-enter_piece
returns-then-not-enter_piece g c =
    heard_late _ _ _ _ _ _ _ _ _ _ c.loop.cutter _ _ c.loop.invariant c.in-Got.ensures.bytes.2
    c.if-not-enter_piece.ensures.piece

pub loop-preserved : goal.loop-preserved
loop-preserved g c =
    heard_more _ _ _ _ _ _ _ _ _ _ _ c.loop.invariant c.in-Got.ensures.bytes.2 c.if-not-enter_piece.ensures.piece
    (c.if-not-enter_piece.ensures.none refl)
