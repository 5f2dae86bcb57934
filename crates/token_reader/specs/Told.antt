-- What pieces of slices tell.
use Rattle.std.specs.Option.{option_map}
use Rattle.token_reader.specs.declared.piece.Piece.{Piece as Given}
use Rattle.token_reader.specs.Pieces.{Piece}
use Rattle.token_reader.specs.Tokens.{token_told}

-- the piece, with the bytes that its slice holds
abbrev pub piece_told : Given → Piece
piece_told piece = record { token = option_map token_told piece.token; further = piece.further }
