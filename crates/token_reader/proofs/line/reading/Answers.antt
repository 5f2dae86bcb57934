use Rattle.std.proofs.Common.{sym, ◌∙◌, ap, length, ◌+◌, arith}
use Rattle.token_reader.specs.LineTokens.{numbered, nth}
use Rattle.token_reader.specs.Told.{piece_told}
use Rattle.token_reader.specs.LineReading.{line_left}
use Rattle.token_reader.proofs.FrontLemmas.{missing}
use Rattle.token_reader.proofs.LineLemmas.{line_tokens-piece, reads_on, reads_out}
use Rattle.token_reader.proofs.line.reading.Goals as goal

pub invariant_of-result : goal.invariant_of-result
invariant_of-result c =
    let some = sym c.is_some.ensures ∙ c.if-is_some.true in
    reads_on c.piece_of-piece.result.token c.args.number c.split_at.result.1.now some c.requires.from_one
    (omega (arith, c.requires.few, c.in-Some.ensures.cases.1, c.split_at.ensures.back_len, c.pieces.invariant.shorter))

pub returns-then-is_some-clause-left : goal.returns-then-is_some-clause-left
returns-then-is_some-clause-left c =
    let step = line_tokens-piece c.pieces.rest.now c.in-Some.others.now c.split_at.result.1.now c.in-Some.b.now
    (piece_told c.piece_of-piece.result) c.in-Some.ensures.cases.0 c.piece_of-piece.ensures.piece
    c.split_at.ensures.back in
    ap (numbered c.args.number) (sym step ∙ c.pieces.invariant.same)

pub returns-then-is_some-clause-end : goal.returns-then-is_some-clause-end
returns-then-is_some-clause-end c =
    let step = line_tokens-piece c.pieces.rest.now c.in-Some.others.now c.split_at.result.1.now c.in-Some.b.now
    (piece_told c.piece_of-piece.result) c.in-Some.ensures.cases.0 c.piece_of-piece.ensures.piece
    c.split_at.ensures.back in
    ap (λ tokens. nth (c.args.number + length tokens)) (sym step ∙ c.pieces.invariant.same)

pub pieces-preserved : goal.pieces-preserved
pieces-preserved c =
    let step = line_tokens-piece c.pieces.rest.now c.in-Some.others.now c.split_at.result.1.now c.in-Some.b.now
    (piece_told c.piece_of-piece.result) c.in-Some.ensures.cases.0 c.piece_of-piece.ensures.piece
    c.split_at.ensures.back in
    let none = missing c.piece_of-piece.result.token (sym c.is_some.ensures ∙ c.if-is_some.false) in
    record {
      same = sym (step ∙ ap (λ front. line_left front c.split_at.result.1.now) none) ∙ c.pieces.invariant.same;
      shorter = omega (arith, c.in-Some.ensures.cases.1, c.split_at.ensures.back_len, c.pieces.invariant.shorter);
    }

pub invariant_of-result-2 : goal.invariant_of-result-2
invariant_of-result-2 c =
    reads_out c.args.number c.pieces.rest.now c.in_default.ensures.cases c.requires.from_one
    (omega (arith, c.requires.few))
