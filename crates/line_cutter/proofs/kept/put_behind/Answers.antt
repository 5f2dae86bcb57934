use Rattle.std.proofs.Common.{arith, ◌≡◌, ◌+◌, ◌∙◌, ◌++◌, ap, length, take, List, ℕ}
use Rattle.std.proofs.lemmas.Slice.{take-put_mid}
use Rattle.line_cutter.proofs.kept.put_behind.Goals as goal

pub returns : goal.returns
returns c =
    let len : length c.copy_from_slice.new.self ≡ length c.args.piece.now = ap length c.copy_from_slice.ensures.after in
    take-put_mid c.args.len _ c.args.cells.now c.copy_from_slice.new.self (c.args.len + length c.args.piece.now)
    (omega (arith, len)) (omega arith)
    ∙ ap (λ (bytes : List ℕ). take c.args.len c.args.cells.now ++ bytes) c.copy_from_slice.ensures.after
