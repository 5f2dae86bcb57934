use Rattle.message_decoder.proofs.WritingLemmas.{piece_broke, piece_wrote}
use Rattle.message_decoder.proofs.writing.write.Goals as goal

pub returns-in-Ok : goal.returns-in-Ok
returns-in-Ok g c = piece_wrote c.args.text.now _ _ c.in-Ok.ensures.ok c.in-Ok.ensures.same

pub returns-in-Err : goal.returns-in-Err
returns-in-Err g c =
    let part = c.in-Err.ensures.err in
    piece_broke c.args.text.now part.0 part.1 _ _ part.2 part.4 c.in-Err.ensures.cause c.write_all.ensures.later
