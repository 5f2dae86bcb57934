-- What calls leave that answer lines as they come: what they wrote, how far they came, and how they stopped.
use Rattle.std.specs.Prelude.{ℕ, ◌≡◌, ◌≢◌, ◌⊎◌, ◌≤◌, ◌<◌, true, ⊤, List, [], ◌++◌, length, Result, Ok, Err}
use Rattle.std.specs.List.{flat_map, AllByRecursion}
use Rattle.outside.specs.Seen.{SourceSeen, SinkSeen}
use Rattle.outside.specs.Told.{Grows, Shrinks, AreLeft, AreLeftFrom, CountsOne}
use Rattle.route_values.specs.Caps.{Caps}
use Rattle.message_decoder.specs.declared.halt.Halt.{Halt}
use Rattle.message_decoder.specs.declared.halt.Halt.TheVariants as halt
use Rattle.message_decoder.specs.Decoding.{ended, AreAnswers, IsDecoding}

-- why a call stopped that writes, and what the sink's count of faults then shows
abbrev pub StopsWriting : SinkSeen → SinkSeen → Halt → Type 0
StopsWriting sink sink' halt.Memory = sink'.faults ≡ sink.faults
StopsWriting sink sink' halt.Write = CountsOne sink.faults sink'.faults
StopsWriting sink sink' _ = ⊥

-- a text that fits was written whole
pub record Wrote (Fits : List ℕ → Type 0) (sink sink' : SinkSeen) : Type 0 where
  pub text : List ℕ
  pub fits : Fits text
  pub taken : Grows sink.taken sink'.taken text
  pub same : sink'.faults ≡ sink.faults

-- nothing was written, or the front of a text that fits
pub record Broke (Fits : List ℕ → Type 0) (sink sink' : SinkSeen) (halted : Halt) : Type 0 where
  pub part : List ℕ
  pub front : (part ≡ []) ⊎ ((rest : List ℕ) × Fits (part ++ rest))
  pub taken : Grows sink.taken sink'.taken part
  pub stops : StopsWriting sink sink' halted

-- what a call leaves that is to write a text that fits
abbrev pub Writes : (List ℕ → Type 0) → SinkSeen → SinkSeen → Result (Unit {0}) Halt → Type 0
Writes Fits sink sink' (Ok _) = Wrote Fits sink sink'
Writes Fits sink sink' (Err halted) = Broke Fits sink sink' halted

-- no line feed stands in a line
abbrev pub HasNoFeed : List ℕ → Type 0
HasNoFeed line = AllByRecursion (λ b. b ≢ 10) line

-- bytes are so many lines that were answered by the text, and then the front of a line
pub record AreDecoded (caps : Caps) (bytes held text : List ℕ) (number : ℕ) : Type 0 where
  pub lines : List (List ℕ)
  pub no_feeds : AllByRecursion HasNoFeed lines
  pub no_feed : HasNoFeed held
  pub bytes_are : bytes ≡ flat_map ended lines ++ held
  pub count : number ≡ length lines
  pub answers : AreAnswers caps 1 lines text

-- bytes end with a line feed, or there are none
abbrev pub AreEnded : List ℕ → Type 0
AreEnded bytes = (bytes ≡ []) ⊎ ((front : List ℕ) × (bytes ≡ ended front))

-- Bytes begin with some of which the output begins with this text. These end with a line feed, unless all is over: so
-- no line is answered before its end is known.
pub record IsDecodedPart (Over : Type 0) (caps : Caps) (bytes text : List ℕ) : Type 0 where
  pub front : List ℕ
  pub behind : List ℕ
  pub bytes_are : bytes ≡ front ++ behind
  pub closed : AreEnded front ⊎ (Over × (behind ≡ []))
  pub rest : List ℕ
  pub decoding : IsDecoding caps front (text ++ rest)

-- the bytes and the text that were there go on with others
pub record WentOn (caps : Caps) (bytes text held : List ℕ) (number : ℕ) (sink sink' : SinkSeen) : Type 0 where
  pub more : List ℕ
  pub decoded : AreDecoded caps bytes held (text ++ more) number
  pub taken : Grows sink.taken sink'.taken more
  pub same : sink'.faults ≡ sink.faults

-- a call stopped, and wrote no more than the output of a front of the bytes
pub record StoppedIn (Over : Type 0) (caps : Caps) (bytes text : List ℕ) (sink sink' : SinkSeen) (halted : Halt)
    : Type 0 where
  pub part : List ℕ
  pub decoded : IsDecodedPart Over caps bytes (text ++ part)
  pub taken : Grows sink.taken sink'.taken part
  pub stops : StopsWriting sink sink' halted

-- what a call leaves that goes on with a piece
abbrev pub GoesOn : Caps → List ℕ → List ℕ → List ℕ → ℕ → SinkSeen → SinkSeen → Result (Unit {0}) Halt → Type 0
GoesOn caps bytes text held number sink sink' (Ok _) = WentOn caps bytes text held number sink sink'
GoesOn caps bytes text held number sink sink' (Err halted) = StoppedIn ⊥ caps bytes text sink sink' halted

-- the same, whatever came before the piece and was written
abbrev pub TakesPiece :
    Caps → List ℕ → List ℕ → List ℕ → ℕ → ℕ → SinkSeen → SinkSeen → Result (Unit {0}) Halt → Type 0
TakesPiece caps piece held held' number number' sink sink' result =
    (bytes : List ℕ) (text : List ℕ) → AreDecoded caps bytes held text number
    → GoesOn caps (bytes ++ piece) text held' number' sink sink' result

-- what a call leaves that answers the last line, which no line feed ended
abbrev pub Finishes : Caps → List ℕ → List ℕ → SinkSeen → SinkSeen → Result (Unit {0}) Halt → Type 0
Finishes caps bytes text sink sink' (Ok _) = Wrote (λ more. IsDecoding caps bytes (text ++ more)) sink sink'
Finishes caps bytes text sink sink' (Err halted) = StoppedIn ⊤ caps bytes text sink sink' halted

-- a source was read to its end, which came before the limit
pub record ReadWhole (limit : ℕ) (source source' : SourceSeen) (bytes : List ℕ) : Type 0 where
  pub given : Grows source.given source'.given bytes
  pub left : Shrinks source.left source'.left bytes
  pub whole : AreLeft source.left bytes
  pub short : length bytes < limit
  pub ended : source'.ended ≡ true
  pub same : source'.faults ≡ source.faults

-- a source gave bytes, no more than the limit, and goes on
pub record ReadPart (limit : ℕ) (source source' : SourceSeen) (bytes : List ℕ) : Type 0 where
  pub given : Grows source.given source'.given bytes
  pub left : Shrinks source.left source'.left bytes
  pub short : length bytes ≤ limit

-- what the counts of faults show of why decoding stopped, and what was read where the input is too long
abbrev pub StopsDecoding : ℕ → SourceSeen → SourceSeen → SinkSeen → SinkSeen → List ℕ → Halt → Type 0
StopsDecoding limit source source' sink sink' bytes halt.Memory =
    (source'.faults ≡ source.faults) × (sink'.faults ≡ sink.faults)
StopsDecoding limit source source' sink sink' bytes halt.Read =
    CountsOne source.faults source'.faults × (sink'.faults ≡ sink.faults)
StopsDecoding limit source source' sink sink' bytes halt.Write =
    (source'.faults ≡ source.faults) × CountsOne sink.faults sink'.faults × (length bytes < limit)
StopsDecoding limit source source' sink sink' bytes halt.Long =
    (source'.faults ≡ source.faults) × (sink'.faults ≡ sink.faults) × (length bytes ≡ limit)
    × AreLeftFrom source.left limit × (source'.ended ≡ source.ended)

-- the whole input was read, and the whole output was written that belongs to it
pub record DecodedWhole (limit : ℕ) (caps : Caps) (source source' : SourceSeen) (sink sink' : SinkSeen) : Type 0 where
  pub bytes : List ℕ
  pub read : ReadWhole limit source source' bytes
  pub written : Wrote (IsDecoding caps bytes) sink sink'

-- a part of the input was read, and a front part of the output was written that belongs to a front of what was read
pub record DecodedPart (limit : ℕ) (caps : Caps) (source source' : SourceSeen) (sink sink' : SinkSeen) (halted : Halt)
    : Type 0 where
  pub bytes : List ℕ
  pub read : ReadPart limit source source' bytes
  pub part : List ℕ
  pub decoded : IsDecodedPart (source'.ended ≡ true) caps bytes part
  pub taken : Grows sink.taken sink'.taken part
  pub stops : StopsDecoding limit source source' sink sink' bytes halted

-- what decoding leaves
abbrev pub Decodes : ℕ → Caps → SourceSeen → SourceSeen → SinkSeen → SinkSeen → Result (Unit {0}) Halt → Type 0
Decodes limit caps source source' sink sink' (Ok _) = DecodedWhole limit caps source source' sink sink'
Decodes limit caps source source' sink sink' (Err halted) = DecodedPart limit caps source source' sink sink' halted
