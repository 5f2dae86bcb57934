-- Bytes that are answered line by line, as they come in pieces.
use Rattle.std.proofs.Common.{ℕ, ◌≡◌, ◌⊎◌, ◌+◌, List, [], ◌∷◌, ◌++◌, length, Ok, Err, ap, sym, ◌∙◌, refl}
use Rattle.std.proofs.Common.{subst}
use Rattle.std.proofs.Common.{inl, inr, append_assoc, append-nil, arith}
use Rattle.std.specs.List.{flat_map}
use Rattle.std.proofs.lemmas.List.{length-append}
use Rattle.std.proofs.lemmas.List.Concat.{flat_map-append}
use Rattle.outside.specs.Seen.{SinkSeen}
use Rattle.outside.proofs.ToldLemmas.{grows_more}
use Rattle.route_values.specs.Caps.{Caps}
use Rattle.text_forms.proofs.CutLemmas.{lacks_append}
use Rattle.update_grammar.proofs.PiecesLemmas.{all_append}
use Rattle.message_decoder.specs.declared.halt.Halt.{Halt}
use Rattle.message_decoder.specs.declared.halt.Halt.TheVariants as halt
use Rattle.message_decoder.specs.Decoding.{ended, IsAnswer, IsDecoding}
use Rattle.message_decoder.specs.Streams.{HasNoFeed, AreDecoded, AreEnded, IsDecodedPart, WentOn, StoppedIn}
use Rattle.message_decoder.specs.Streams.{TakesPiece}
use Rattle.message_decoder.specs.Streams.{Wrote, Broke}
use Rattle.message_decoder.proofs.LineLemmas.{answered_more, decoding_of}
use Rattle.message_decoder.proofs.WritingLemmas.{grows_none, stops_later}

-- nothing is decoded yet
pub decoded_none : (caps : Caps) → AreDecoded caps [] [] [] 0
decoded_none caps = record {
  lines = [];
  no_feeds = tt;
  no_feed = tt;
  bytes_are = refl;
  count = refl;
  answers = refl;
}

-- bytes of a line come behind it
pub decoded_behind : (caps : Caps) (bytes held text piece : List ℕ) (number : ℕ)
    → AreDecoded caps bytes held text number → HasNoFeed piece
    → AreDecoded caps (bytes ++ piece) (held ++ piece) text number
decoded_behind caps bytes held text piece number are no_feed = record {
  lines = are.lines;
  no_feeds = are.no_feeds;
  no_feed = lacks_append 10 held piece are.no_feed no_feed;
  bytes_are =
      ap (λ (front : List ℕ). front ++ piece) are.bytes_are ∙ append_assoc (flat_map ended are.lines) held piece;
  count = are.count;
  answers = are.answers;
}

-- whole lines end with a line feed, or there are none
behind_ended : (line bytes : List ℕ) → AreEnded bytes → AreEnded (ended line ++ bytes)
behind_ended line bytes (inl none) =
    inr (line, ap (λ (last : List ℕ). ended line ++ last) none ∙ append-nil (ended line))
behind_ended line bytes (inr (front, is)) =
    inr (
      ended line ++ front,
      ap (λ (last : List ℕ). ended line ++ last) is
          ∙ sym (append_assoc (ended line) front (10 ∷ [])),
    )

lines_ended : (lines : List (List ℕ)) → AreEnded (flat_map ended lines)
lines_ended [] = inl refl
lines_ended (line ∷ lines) = behind_ended line (flat_map ended lines) (lines_ended lines)

-- the whole lines of decoded bytes are a front of them whose output this is
pub part_decoded : (Over : Type 0) (caps : Caps) (bytes held text behind : List ℕ) (number : ℕ)
    → AreDecoded caps bytes held text number → IsDecodedPart Over caps (bytes ++ behind) text
part_decoded Over caps bytes held text behind number are = record {
  front = flat_map ended are.lines;
  behind = held ++ behind;
  bytes_are =
      ap (λ (front : List ℕ). front ++ behind) are.bytes_are ∙ append_assoc (flat_map ended are.lines) held behind;
  closed = inl (lines_ended are.lines);
  rest = [];
  decoding = subst (λ (all : List ℕ). IsDecoding caps (flat_map ended are.lines) all) (sym (append-nil text))
      (decoding_of caps are.lines text are.no_feeds are.answers);
}

-- the bytes of lines, with one line more
lines_more : (lines : List (List ℕ)) (held part : List ℕ)
    → flat_map ended (lines ++ (held ++ part) ∷ []) ≡ (flat_map ended lines ++ held) ++ ended part
lines_more lines held part =
    flat_map-append ended lines ((held ++ part) ∷ [])
    ∙ ap (λ (last : List ℕ). flat_map ended lines ++ last)
    (append-nil (ended (held ++ part)) ∙ append_assoc held part (10 ∷ []))
    ∙ sym (append_assoc (flat_map ended lines) held (ended part))

-- a line feed comes behind a line that is then answered
pub decoded_more : (caps : Caps) (bytes held text part answer : List ℕ) (number : ℕ)
    → AreDecoded caps bytes held text number → HasNoFeed part → IsAnswer caps (number + 1) (held ++ part) answer
    → AreDecoded caps (bytes ++ ended part) [] (text ++ answer) (number + 1)
decoded_more caps bytes held text part answer number are no_feed is =
    let line : List ℕ = held ++ part in
    let place : number + 1 ≡ 1 + length are.lines = omega (arith, are.count) in
    record {
      lines = are.lines ++ line ∷ [];
      no_feeds = all_append HasNoFeed are.lines (line ∷ []) are.no_feeds
          (lacks_append 10 held part are.no_feed no_feed, tt);
      no_feed = tt;
      bytes_are = ap (λ (front : List ℕ). front ++ ended part) are.bytes_are ∙ sym (lines_more are.lines held part)
          ∙ sym (append-nil (flat_map ended (are.lines ++ line ∷ [])));
      count = omega (arith, are.count, length-append are.lines (line ∷ []));
      answers = answered_more caps 1 are.lines line text answer are.answers
          (subst (λ (at : ℕ). IsAnswer caps at line answer) place is);
    }

pub went_more : (caps : Caps) (bytes held text part line : List ℕ) (number : ℕ) (sink sink' : SinkSeen)
    → AreDecoded caps bytes held text number → HasNoFeed part → line ≡ held ++ part
    → Wrote (IsAnswer caps (number + 1) line) sink sink'
    → WentOn caps (bytes ++ ended part) text [] (number + 1) sink sink'
went_more caps bytes held text part line number sink sink' are no_feed is was = record {
  more = was.text;
  decoded = decoded_more caps bytes held text part was.text number are no_feed
      (subst (λ (whole : List ℕ). IsAnswer caps (number + 1) whole was.text) is was.fits);
  taken = was.taken;
  same = was.same;
}

-- the front of an answer was written, or nothing of it
front_decoded : (caps : Caps) (bytes held text part written : List ℕ) (number : ℕ)
    → AreDecoded caps bytes held text number → HasNoFeed part
    → (written ≡ []) ⊎ ((rest : List ℕ) × IsAnswer caps (number + 1) (held ++ part) (written ++ rest))
    → IsDecodedPart ⊥ caps (bytes ++ ended part) (text ++ written)
front_decoded caps bytes held text part written number are no_feed (inl none) =
    subst (λ (all : List ℕ). IsDecodedPart ⊥ caps (bytes ++ ended part) all)
    (sym (append-nil text) ∙ ap (λ (last : List ℕ). text ++ last) (sym none))
    (part_decoded ⊥ caps bytes held text (ended part) number are)
front_decoded caps bytes held text part written number are no_feed (inr (rest, is)) =
    let more = decoded_more caps bytes held text part (written ++ rest) number are no_feed is in
    let whole : IsDecoding caps (flat_map ended more.lines) (text ++ (written ++ rest)) =
    decoding_of caps more.lines (text ++ (written ++ rest)) more.no_feeds more.answers in
    record {
      front = flat_map ended more.lines;
      behind = [];
      bytes_are = more.bytes_are;
      closed = inl (lines_ended more.lines);
      rest = rest;
      decoding = subst (λ (all : List ℕ). IsDecoding caps (flat_map ended more.lines) all)
          (sym (append_assoc text written rest)) whole;
    }

pub stopped_more : (caps : Caps) (bytes held text part line : List ℕ) (number : ℕ) (sink sink' : SinkSeen)
    (halted : Halt) → AreDecoded caps bytes held text number → HasNoFeed part → line ≡ held ++ part
    → Broke (IsAnswer caps (number + 1) line) sink sink' halted
    → StoppedIn ⊥ caps (bytes ++ ended part) text sink sink' halted
stopped_more caps bytes held text part line number sink sink' halted are no_feed is was =
    let broke : Broke (IsAnswer caps (number + 1) (held ++ part)) sink sink' halted =
    subst (λ (whole : List ℕ). Broke (IsAnswer caps (number + 1) whole) sink sink' halted) is was in
    record {
      part = broke.part;
      decoded = front_decoded caps bytes held text part broke.part number are no_feed broke.front;
      taken = broke.taken;
      stops = broke.stops;
    }

-- there was no memory before anything was written
pub stopped_none : (caps : Caps) (bytes held text behind : List ℕ) (number : ℕ) (sink : SinkSeen)
    → AreDecoded caps bytes held text number → StoppedIn ⊥ caps (bytes ++ behind) text sink sink halt.Memory
stopped_none caps bytes held text behind number sink are = record {
  part = [];
  decoded = subst (λ (all : List ℕ). IsDecodedPart ⊥ caps (bytes ++ behind) all) (sym (append-nil text))
      (part_decoded ⊥ caps bytes held text behind number are);
  taken = grows_none sink.taken;
  stops = refl;
}

-- ---- pieces one behind the other

pub took_none : (caps : Caps) (held : List ℕ) (number : ℕ) (sink : SinkSeen)
    → TakesPiece caps [] held held number number sink sink (Ok tt)
took_none caps held number sink bytes text are = record {
  more = [];
  decoded = subst (λ (all : List ℕ). AreDecoded caps all held (text ++ []) number) (sym (append-nil bytes))
      (subst (λ (all : List ℕ). AreDecoded caps bytes held all number) (sym (append-nil text)) are);
  taken = grows_none sink.taken;
  same = refl;
}

pub took_more : (caps : Caps) (first second held held' held'' : List ℕ) (number number' number'' : ℕ)
    (sink mid sink' : SinkSeen) → TakesPiece caps first held held' number number' sink mid (Ok tt)
    → TakesPiece caps second held' held'' number' number'' mid sink' (Ok tt)
    → TakesPiece caps (first ++ second) held held'' number number'' sink sink' (Ok tt)
took_more caps first second held held' held'' number number' number'' sink mid sink' before after bytes text are =
    let one = before bytes text are in
    let two = after (bytes ++ first) (text ++ one.more) one.decoded in
    record {
      more = one.more ++ two.more;
      decoded = subst (λ (all : List ℕ). AreDecoded caps (bytes ++ (first ++ second)) held'' all number'')
          (append_assoc text one.more two.more)
          (subst (λ (all : List ℕ). AreDecoded caps all held'' ((text ++ one.more) ++ two.more) number'')
          (append_assoc bytes first second) two.decoded);
      taken = grows_more sink.taken mid.taken sink'.taken one.more two.more one.taken two.taken;
      same = two.same ∙ one.same;
    }

still_ended : (front behind : List ℕ) → AreEnded front ⊎ (⊥ × (behind ≡ [])) → AreEnded front
still_ended front behind (inl are) = are
still_ended front behind (inr over) = absurd over.0

part_longer : (caps : Caps) (bytes more text : List ℕ) → IsDecodedPart ⊥ caps bytes text
    → IsDecodedPart ⊥ caps (bytes ++ more) text
part_longer caps bytes more text is = record {
  front = is.front;
  behind = is.behind ++ more;
  bytes_are = ap (λ (front : List ℕ). front ++ more) is.bytes_are ∙ append_assoc is.front is.behind more;
  closed = inl (still_ended is.front is.behind is.closed);
  rest = is.rest;
  decoding = is.decoding;
}

-- a piece, and then one in which the call stopped
pub took_stopped : (caps : Caps) (first second behind whole held held' held'' : List ℕ)
    (number number' number'' : ℕ) (sink mid sink' : SinkSeen) (halted : Halt)
    → TakesPiece caps first held held' number number' sink mid (Ok tt)
    → TakesPiece caps second held' held'' number' number'' mid sink' (Err halted)
    → whole ≡ first ++ (second ++ behind)
    → (last : List ℕ) (place : ℕ) → TakesPiece caps whole held last number place sink sink' (Err halted)
took_stopped caps first second behind whole held held' held'' number number' number'' sink mid sink' halted before after
    whole_is last place bytes text are =
    let one = before bytes text are in
    let two = after (bytes ++ first) (text ++ one.more) one.decoded in
    let bytes_are : ((bytes ++ first) ++ second) ++ behind ≡ bytes ++ whole =
    append_assoc (bytes ++ first) second behind ∙ append_assoc bytes first (second ++ behind)
    ∙ ap (λ (piece : List ℕ). bytes ++ piece) (sym whole_is) in
    record {
      part = one.more ++ two.part;
      decoded = subst (λ (all : List ℕ). IsDecodedPart ⊥ caps (bytes ++ whole) all)
          (append_assoc text one.more two.part)
          (subst (λ (all : List ℕ). IsDecodedPart ⊥ caps all ((text ++ one.more) ++ two.part)) bytes_are
          (part_longer caps ((bytes ++ first) ++ second) behind ((text ++ one.more) ++ two.part) two.decoded));
      taken = grows_more sink.taken mid.taken sink'.taken one.more two.part one.taken two.taken;
      stops = stops_later sink mid sink' halted one.same two.stops;
    }
