-- A stream that is read piece by piece and answered as it comes.
use Rattle.std.proofs.Common.{ℕ, ◌≡◌, ◌⊎◌, ◌+◌, ◌<◌, ◌≤◌, List, [], ◌++◌, length, Option, Some, None, Result, Ok, Err}
use Rattle.std.proofs.Common.{ap, sym, ◌∙◌, refl, subst, arith, append-nil, true, inl, inr}
use Rattle.std.specs.Prelude.{⊤}
use Rattle.std.proofs.Common.{◌-◌, min, take, drop, length-append, length-drop, length-take}
use Rattle.std.proofs.lemmas.List.{take-append-le}
use Rattle.outside.specs.Seen.{SourceSeen, SinkSeen}
use Rattle.outside.specs.Told.{Grows, Shrinks, AreLeft, AreLeftFrom, CountsOne}
use Rattle.outside.proofs.ToldLemmas.{grows_more, shrinks_more}
use Rattle.route_values.specs.Caps.{Caps}
use Rattle.message_decoder.specs.declared.halt.Halt.{Halt}
use Rattle.message_decoder.specs.declared.halt.Halt.TheVariants as halt
use Rattle.message_decoder.specs.Streams.{AreDecoded, AreEnded, DecodedPart, Decodes, Finishes}
use Rattle.message_decoder.specs.Streams.{IsDecodedPart, StopsWriting, StopsDecoding}
use Rattle.message_decoder.specs.Streams.{TakesPiece}
use Rattle.message_decoder.proofs.DecodedLemmas.{decoded_none, part_decoded}
use Rattle.message_decoder.proofs.WritingLemmas.{grows_none, stops_later}

-- so many bytes were read, and their whole lines answered
pub record Reached (caps : Caps) (source source' : SourceSeen) (sink sink' : SinkSeen) (held : List ℕ)
    (number count : ℕ) : Type 0 where
  pub bytes : List ℕ
  pub text : List ℕ
  pub given : Grows source.given source'.given bytes
  pub left : Shrinks source.left source'.left bytes
  pub ended : source'.ended ≡ source.ended
  pub unfailed : source'.faults ≡ source.faults
  pub decoded : AreDecoded caps bytes held text number
  pub taken : Grows sink.taken sink'.taken text
  pub same : sink'.faults ≡ sink.faults
  pub count_is : length bytes ≡ count
  pub few : number ≤ count

-- what has lost nothing
shrinks_none : (told : Option (List ℕ)) → Shrinks told told []
shrinks_none None = tt
shrinks_none (Some bytes) = refl

pub reached_none : (caps : Caps) (source : SourceSeen) (sink : SinkSeen) (held : List ℕ) → held ≡ []
    → Reached caps source source sink sink held 0 0
reached_none caps source sink held none = record {
  bytes = [];
  text = [];
  given = grows_none source.given;
  left = shrinks_none source.left;
  ended = refl;
  unfailed = refl;
  decoded = subst (λ (some : List ℕ). AreDecoded caps [] some [] 0) (sym none) (decoded_none caps);
  taken = grows_none sink.taken;
  same = refl;
  count_is = refl;
  few = omega arith;
}

-- a source gave a piece
pub record GavePiece (source source' : SourceSeen) (piece : List ℕ) : Type 0 where
  pub given : Grows source.given source'.given piece
  pub left : Shrinks source.left source'.left piece
  pub ended : source'.ended ≡ source.ended
  pub unfailed : source'.faults ≡ source.faults

pub got_piece : (source source' : SourceSeen) (into behind : List ℕ) (got : ℕ) → got ≤ length into
    → Grows source.given source'.given (take got into) → Shrinks source.left source'.left (take got into)
    → source'.ended ≡ source.ended → source'.faults ≡ source.faults
    → GavePiece source source' (take got (into ++ behind))
got_piece source source' into behind got within given left ended unfailed =
    let same : take got into ≡ take got (into ++ behind) = sym (take-append-le got into behind within) in
    record {
      given = subst (λ (piece : List ℕ). Grows source.given source'.given piece) same given;
      left = subst (λ (piece : List ℕ). Shrinks source.left source'.left piece) same left;
      ended = ended;
      unfailed = unfailed;
    }

pub got_length : (into behind : List ℕ) (got : ℕ) → got ≤ length into → length (take got (into ++ behind)) ≡ got
got_length into behind got within =
    omega (arith, length-take got (into ++ behind), length-append into behind, within)

-- what fits the room in the buffer stays within the limit, and leaves the buffer as long as it was
pub got_within : (count limit room got : ℕ) (into buffer : List ℕ) → room ≡ min 65536 (limit - count)
    → length into ≡ length (take room buffer) → got ≤ length into → count ≤ limit → count + got ≤ limit
got_within count limit room got into buffer is same within short = omega (arith, length-take room buffer)

pub buffer_stays : (rest room : ℕ) (into buffer : List ℕ) → room ≡ min 65536 rest
    → length into ≡ length (take room buffer) → length buffer ≡ 65536 → length (into ++ drop room buffer) ≡ 65536
buffer_stays rest room into buffer is same long =
    omega (arith, length-append into (drop room buffer), length-take room buffer, length-drop room buffer)

pub reached_more : (caps : Caps) (source source' source'' : SourceSeen) (sink sink' sink'' : SinkSeen)
    (held held' piece : List ℕ) (number number' count count' : ℕ)
    → Reached caps source source' sink sink' held number count → GavePiece source' source'' piece
    → TakesPiece caps piece held held' number number' sink' sink'' (Ok tt) → number' ≤ number + length piece
    → count' ≡ count + length piece → Reached caps source source'' sink sink'' held' number' count'
reached_more caps source source' source'' sink sink' sink'' held held' piece number number' count count' was gave takes
    few is =
    let went = takes was.bytes was.text was.decoded in
    record {
      bytes = was.bytes ++ piece;
      text = was.text ++ went.more;
      given = grows_more source.given source'.given source''.given was.bytes piece was.given gave.given;
      left = shrinks_more source.left source'.left source''.left was.bytes piece was.left gave.left;
      ended = gave.ended ∙ was.ended;
      unfailed = gave.unfailed ∙ was.unfailed;
      decoded = went.decoded;
      taken = grows_more sink.taken sink'.taken sink''.taken was.text went.more was.taken went.taken;
      same = went.same ∙ was.same;
      count_is = omega (arith, length-append was.bytes piece, was.count_is, is);
      few = omega (arith, few, was.few, is);
    }

closed_by : (Over Else : Type 0) (front behind : List ℕ) → (Over → Else)
    → AreEnded front ⊎ (Over × (behind ≡ [])) → AreEnded front ⊎ (Else × (behind ≡ []))
closed_by Over Else front behind by (inl are) = inl are
closed_by Over Else front behind by (inr (over, none)) = inr (by over, none)

-- the same part, with another reason why all is over
over_by : (Over Else : Type 0) (caps : Caps) (bytes text : List ℕ) → (Over → Else)
    → IsDecodedPart Over caps bytes text → IsDecodedPart Else caps bytes text
over_by Over Else caps bytes text by is = record {
  front = is.front;
  behind = is.behind;
  bytes_are = is.bytes_are;
  closed = closed_by Over Else is.front is.behind by is.closed;
  rest = is.rest;
  decoding = is.decoding;
}

-- why a call stopped that writes shows the same of decoding
stops_decoding : (limit : ℕ) (source source' : SourceSeen) (sink sink' : SinkSeen) (bytes : List ℕ) (halted : Halt)
    → source'.faults ≡ source.faults → length bytes < limit → StopsWriting sink sink' halted
    → StopsDecoding limit source source' sink sink' bytes halted
stops_decoding limit source source' sink sink' bytes halt.Memory unfailed short stops = (unfailed, stops)
stops_decoding limit source source' sink sink' bytes halt.Write unfailed short stops = (unfailed, stops, short)
stops_decoding limit source source' sink sink' bytes halt.Read unfailed short stops = absurd stops
stops_decoding limit source source' sink sink' bytes halt.Long unfailed short stops = absurd stops

pub reached_stopped : (limit : ℕ) (caps : Caps) (source source' source'' : SourceSeen) (sink sink' sink'' : SinkSeen)
    (held held' piece : List ℕ) (number number' count : ℕ) (halted : Halt)
    → Reached caps source source' sink sink' held number count → GavePiece source' source'' piece
    → TakesPiece caps piece held held' number number' sink' sink'' (Err halted) → count + length piece < limit
    → DecodedPart limit caps source source'' sink sink'' halted
reached_stopped limit caps source source' source'' sink sink' sink'' held held' piece number number' count halted was
    gave
    takes short =
    let stopped = takes was.bytes was.text was.decoded in
    let few : length (was.bytes ++ piece) < limit =
    omega (arith, length-append was.bytes piece, was.count_is, short) in
    record {
      bytes = was.bytes ++ piece;
      read = record {
        given = grows_more source.given source'.given source''.given was.bytes piece was.given gave.given;
        left = shrinks_more source.left source'.left source''.left was.bytes piece was.left gave.left;
        short = omega (arith, few);
      };
      part = was.text ++ stopped.part;
      decoded = over_by ⊥ (source''.ended ≡ true) caps (was.bytes ++ piece) (was.text ++ stopped.part)
          (λ never. absurd never) stopped.decoded;
      taken = grows_more sink.taken sink'.taken sink''.taken was.text stopped.part was.taken stopped.taken;
      stops = stops_decoding limit source source'' sink sink'' (was.bytes ++ piece) halted
          (gave.unfailed ∙ was.unfailed) few (stops_later sink sink' sink'' halted was.same stopped.stops);
    }

-- what was given is no more than what was left
left_from : (left left' : Option (List ℕ)) (bytes : List ℕ) (limit : ℕ) → Shrinks left left' bytes
    → length bytes ≡ limit → AreLeftFrom left limit
left_from None left' bytes limit shrinks is = tt
left_from (Some was) None bytes limit shrinks is = absurd shrinks
left_from (Some was) (Some now) bytes limit shrinks is =
    omega (arith, ap (length {A = ℕ}) shrinks, length-append bytes now, is)

-- the limit is reached
pub reached_limit : (limit : ℕ) (caps : Caps) (source source' : SourceSeen) (sink sink' : SinkSeen)
    (held : List ℕ) (number count : ℕ) → Reached caps source source' sink sink' held number count → count ≡ limit
    → DecodedPart limit caps source source' sink sink' halt.Long
reached_limit limit caps source source' sink sink' held number count was is =
    let full : length was.bytes ≡ limit = was.count_is ∙ is in
    record {
      bytes = was.bytes;
      read = record { given = was.given; left = was.left; short = omega (arith, full) };
      part = was.text;
      decoded = subst (λ (all : List ℕ). IsDecodedPart (source'.ended ≡ true) caps all was.text)
          (append-nil was.bytes) (part_decoded _ caps was.bytes held was.text [] number was.decoded);
      taken = was.taken;
      stops = (
        was.unfailed,
        was.same,
        full,
        left_from source.left source'.left was.bytes limit was.left full,
        was.ended,
      );
    }

-- the limit is reached with a piece that isn't answered
pub piece_limit : (limit : ℕ) (caps : Caps) (source source' source'' : SourceSeen) (sink sink' : SinkSeen)
    (held piece : List ℕ) (number count : ℕ) → Reached caps source source' sink sink' held number count
    → GavePiece source' source'' piece → count + length piece ≡ limit
    → DecodedPart limit caps source source'' sink sink' halt.Long
piece_limit limit caps source source' source'' sink sink' held piece number count was gave is =
    let full : length (was.bytes ++ piece) ≡ limit = omega (arith, length-append was.bytes piece, was.count_is, is) in
    let shrunk = shrinks_more source.left source'.left source''.left was.bytes piece was.left gave.left in
    record {
      bytes = was.bytes ++ piece;
      read = record {
        given = grows_more source.given source'.given source''.given was.bytes piece was.given gave.given;
        left = shrunk;
        short = omega (arith, full);
      };
      part = was.text;
      decoded = part_decoded _ caps was.bytes held was.text piece number was.decoded;
      taken = was.taken;
      stops = (
        gave.unfailed ∙ was.unfailed,
        was.same,
        full,
        left_from source.left source''.left (was.bytes ++ piece) limit shrunk full,
        gave.ended ∙ was.ended,
      );
    }

-- a source failed, and gave nothing in that call
pub reached_failed : (limit : ℕ) (caps : Caps) (source source' source'' : SourceSeen) (sink sink' : SinkSeen)
    (held : List ℕ) (number count : ℕ) → Reached caps source source' sink sink' held number count → count < limit
    → Grows source'.given source''.given [] → source''.left ≡ source'.left → CountsOne source'.faults source''.faults
    → DecodedPart limit caps source source'' sink sink' halt.Read
reached_failed limit caps source source' source'' sink sink' held number count was short given left counts = record {
  bytes = was.bytes;
  read = record {
    given = subst (λ (all : List ℕ). Grows source.given source''.given all) (append-nil was.bytes)
        (grows_more source.given source'.given source''.given was.bytes [] was.given given);
    left = subst (λ (told : Option (List ℕ)). Shrinks source.left told was.bytes) (sym left) was.left;
    short = omega (arith, was.count_is, short);
  };
  part = was.text;
  decoded = subst (λ (all : List ℕ). IsDecodedPart (source''.ended ≡ true) caps all was.text)
      (append-nil was.bytes) (part_decoded _ caps was.bytes held was.text [] number was.decoded);
  taken = was.taken;
  stops = (subst (λ (before : ℕ). CountsOne before source''.faults) was.unfailed counts, was.same);
}

-- where nothing more was left, all that was left was given
all_left : (left left' : Option (List ℕ)) (bytes : List ℕ) → Shrinks left left' bytes → AreLeft left' []
    → AreLeft left bytes
all_left None left' bytes shrinks none = tt
all_left (Some was) None bytes shrinks none = absurd shrinks
all_left (Some was) (Some now) bytes shrinks none =
    shrinks ∙ ap (λ (last : List ℕ). bytes ++ last) none ∙ append-nil bytes

-- a source has met its end, and gave nothing in that call
pub record MetEnd (source source' : SourceSeen) : Type 0 where
  pub given : Grows source.given source'.given []
  pub left : source'.left ≡ source.left
  pub none : AreLeft source.left []
  pub ended : source'.ended ≡ true
  pub unfailed : source'.faults ≡ source.faults

-- the end came before the limit
pub reached_end : (limit : ℕ) (caps : Caps) (source source' source'' : SourceSeen) (sink sink' sink'' : SinkSeen)
    (held : List ℕ) (number count : ℕ) (result : Result (Unit {0}) Halt)
    (was : Reached caps source source' sink sink' held number count) → count < limit → MetEnd source' source''
    → Finishes caps was.bytes was.text sink' sink'' result → Decodes limit caps source source'' sink sink'' result
reached_end limit caps source source' source'' sink sink' sink'' held number count (Ok done) was short met finishes =
    record {
      bytes = was.bytes;
      read = record {
        given = subst (λ (all : List ℕ). Grows source.given source''.given all) (append-nil was.bytes)
            (grows_more source.given source'.given source''.given was.bytes [] was.given met.given);
        left = subst (λ (told : Option (List ℕ)). Shrinks source.left told was.bytes) (sym met.left) was.left;
        whole = all_left source.left source'.left was.bytes was.left met.none;
        short = omega (arith, was.count_is, short);
        ended = met.ended;
        same = met.unfailed ∙ was.unfailed;
      };
      written = record {
        text = was.text ++ finishes.text;
        fits = finishes.fits;
        taken = grows_more sink.taken sink'.taken sink''.taken was.text finishes.text was.taken finishes.taken;
        same = finishes.same ∙ was.same;
      };
    }
reached_end limit caps source source' source'' sink sink' sink'' held number count (Err halted) was short met finishes =
    let few : length was.bytes < limit = omega (arith, was.count_is, short) in
    record {
      bytes = was.bytes;
      read = record {
        given = subst (λ (all : List ℕ). Grows source.given source''.given all) (append-nil was.bytes)
            (grows_more source.given source'.given source''.given was.bytes [] was.given met.given);
        left = subst (λ (told : Option (List ℕ)). Shrinks source.left told was.bytes) (sym met.left) was.left;
        short = omega (arith, few);
      };
      part = was.text ++ finishes.part;
      decoded = over_by ⊤ (source''.ended ≡ true) caps was.bytes (was.text ++ finishes.part) (λ over. met.ended)
          finishes.decoded;
      taken = grows_more sink.taken sink'.taken sink''.taken was.text finishes.part was.taken finishes.taken;
      stops = stops_decoding limit source source'' sink sink'' was.bytes halted (met.unfailed ∙ was.unfailed) few
          (stops_later sink sink' sink'' halted was.same finishes.stops);
    }
