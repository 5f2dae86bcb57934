use Rattle.std.proofs.Common.{sym, ◌∙◌, ap}
use Rattle.token_reader.specs.FileReading.{file_left}
use Rattle.token_reader.specs.Told.{piece_told}
use Rattle.token_reader.proofs.FrontLemmas.{missing}
use Rattle.token_reader.proofs.FileLemmas.{IsCut, file_tokens-piece, behind_bytes-piece, in_file-piece}
use Rattle.token_reader.proofs.file.reading.Goals as goal

pub returns-then-is_some : goal.returns-then-is_some
returns-then-is_some c =
    let text = c.pieces.rest.now in
    let piece = piece_told c.piece_of-piece.result in
    let rest = c.split_at.result.1.now in
    let behind = c.place_behind-behind.result in
    let cut : IsCut text c.pieces.place piece rest behind = record {
      first = c.in-Some.b.now;
      others = c.in-Some.others.now;
      text_is = c.in-Some.ensures.cases.0;
      piece_is = c.piece_of-piece.ensures.piece;
      within = c.piece_of-piece.ensures.within;
      rest_is = c.split_at.ensures.back;
      behind_is = c.place_behind-behind.ensures;
    } in
    record {
      left = sym (file_tokens-piece text c.pieces.place piece rest behind cut) ∙ c.pieces.invariant.same;
      end = sym (behind_bytes-piece text c.pieces.place piece rest behind cut) ∙ c.pieces.invariant.end;
    }

pub pieces-preserved : goal.pieces-preserved
pieces-preserved c =
    let text = c.pieces.rest.now in
    let piece = piece_told c.piece_of-piece.result in
    let rest = c.split_at.result.1.now in
    let behind = c.place_behind-behind.result in
    let cut : IsCut text c.pieces.place piece rest behind = record {
      first = c.in-Some.b.now;
      others = c.in-Some.others.now;
      text_is = c.in-Some.ensures.cases.0;
      piece_is = c.piece_of-piece.ensures.piece;
      within = c.piece_of-piece.ensures.within;
      rest_is = c.split_at.ensures.back;
      behind_is = c.place_behind-behind.ensures;
    } in
    let none = missing c.piece_of-piece.result.token (sym c.is_some.ensures ∙ c.if-is_some.false) in
    record {
      same = sym (file_tokens-piece text c.pieces.place piece rest behind cut
          ∙ ap (λ front. file_left front c.pieces.place rest behind) none)
          ∙ c.pieces.invariant.same;
      end = sym (behind_bytes-piece text c.pieces.place piece rest behind cut) ∙ c.pieces.invariant.end;
      in_file = in_file-piece text c.pieces.place piece rest behind cut c.pieces.invariant.in_file;
    }
