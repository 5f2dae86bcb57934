use Rattle.std.proofs.Common.{ℕ, ◌≡◌, ◌+◌, ◌≤◌, List, ◌++◌, length, take, arith}
use Rattle.std.proofs.Common.{length-append, length-take}
use Rattle.outside.proofs.ToldLemmas.{grows_more, shrinks_more}
use Rattle.outside.proofs.reading.read_all.Goals as goal

-- what fits the room in the buffer stays within the limit
piece_fits :
    (before into buffer : List ℕ) (count room limit : ℕ) →
    length before + room ≤ limit → count ≤ length into → length into ≡ length (take room buffer) →
    length (before ++ take count into) ≤ limit
piece_fits before into buffer count room limit within some same =
    let piece = take count into in
    omega (arith, length-append before piece, length-take count into, length-take room buffer)

pub returns-in_err-extend_from_slice-in-Got-clause-part :
    goal.returns-in_err-extend_from_slice-in-Got-clause-part
returns-in_err-extend_from_slice-in-Got-clause-part g c =
    let before = c.pieces.bytes.items in
    let into = c.read.new.into in
    let count = c.in-Got.count in
    let room = c.min-room.result in
    let within : length before + room ≤ c.args.limit =
    omega (arith, c.pieces.bytes.ok.0, c.min-room.ensures, c.len-in-pieces.ensures) in
    let fits = c.in-Got.ensures.bytes.1 in (
      before ++ take count into,
      grows_more _ _ _ _ _ c.pieces.invariant.given c.in-Got.ensures.bytes.2,
      shrinks_more _ _ _ _ _ c.pieces.invariant.left c.in-Got.ensures.left,
      piece_fits before into c.pieces.buffer count room c.args.limit within fits c.read.auto.into,
    )
