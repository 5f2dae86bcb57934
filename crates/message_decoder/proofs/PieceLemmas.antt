-- A piece whose lines are answered one after another.
use Rattle.std.proofs.Common.{ℕ, ◌≡◌, ◌+◌, ◌≤◌, List, [], ◌∷◌, ◌++◌, length, Ok, Err, ap, sym, ◌∙◌, refl, subst}
use Rattle.std.proofs.Common.{arith}
use Rattle.std.proofs.Common.{append_assoc, append-nil}
use Rattle.std.proofs.lemmas.List.{length-append}
use Rattle.outside.specs.Seen.{SinkSeen}
use Rattle.route_values.specs.Caps.{Caps}
use Rattle.message_decoder.specs.declared.halt.Halt.{Halt}
use Rattle.message_decoder.specs.declared.halt.Halt.TheVariants as halt
use Rattle.message_decoder.specs.Decoding.{ended}
use Rattle.message_decoder.specs.Streams.{AreDecoded, HasNoFeed, TakesPiece}
use Rattle.message_decoder.proofs.DecodedLemmas.{decoded_behind, stopped_none, took_more, took_none, took_stopped}
use Rattle.message_decoder.proofs.WritingLemmas.{grows_none}

-- the front of a piece was taken, and this rest of it is left
pub record TookFront (caps : Caps) (piece rest held held' : List ℕ) (number number' : ℕ) (sink sink' : SinkSeen)
    : Type 0 where
  pub front : List ℕ
  pub piece_is : piece ≡ front ++ rest
  pub takes : TakesPiece caps front held held' number number' sink sink' (Ok tt)
  pub few : number' ≤ number + length front

pub front_none : (caps : Caps) (piece held : List ℕ) (number : ℕ) (sink : SinkSeen)
    → TookFront caps piece piece held held number number sink sink
front_none caps piece held number sink = record {
  front = [];
  piece_is = refl;
  takes = took_none caps held number sink;
  few = omega arith;
}

-- a line's end lies behind the front
line_behind : (piece front rest part behind : List ℕ) → piece ≡ front ++ rest → rest ≡ part ++ 10 ∷ behind
    → piece ≡ front ++ (ended part ++ behind)
line_behind piece front rest part behind piece_is rest_is =
    piece_is ∙ ap (λ (last : List ℕ). front ++ last) (rest_is ∙ sym (append_assoc part (10 ∷ []) behind))

pub front_more : (caps : Caps) (piece rest part behind held held' held'' : List ℕ) (number number' number'' : ℕ)
    (sink mid sink' : SinkSeen) → TookFront caps piece rest held held' number number' sink mid
    → rest ≡ part ++ 10 ∷ behind → number'' ≡ number' + 1
    → TakesPiece caps (ended part) held' held'' number' number'' mid sink' (Ok tt)
    → TookFront caps piece behind held held'' number number'' sink sink'
front_more caps piece rest part behind held held' held'' number number' number'' sink mid sink' took rest_is next takes
    =
    record {
      front = took.front ++ ended part;
      piece_is = line_behind piece took.front rest part behind took.piece_is rest_is
          ∙ sym (append_assoc took.front (ended part) behind);
      takes = took_more caps took.front (ended part) held held' held'' number number' number'' sink mid sink'
          took.takes takes;
      few = omega (arith, took.few, next, length-append took.front (ended part), length-append part (10 ∷ []));
    }

-- there is a number for one line more
pub front_few : (caps : Caps) (piece rest part behind held held' : List ℕ) (number number' : ℕ) (sink mid : SinkSeen)
    → TookFront caps piece rest held held' number number' sink mid → rest ≡ part ++ 10 ∷ behind
    → number' + 1 ≤ number + length piece
front_few caps piece rest part behind held held' number number' sink mid took rest_is =
    let all : length piece ≡ length took.front + length (ended part ++ behind) =
    ap (length {A = ℕ}) (line_behind piece took.front rest part behind took.piece_is rest_is)
    ∙ length-append took.front (ended part ++ behind) in
    omega (arith, took.few, all, length-append (ended part) behind, length-append part (10 ∷ []))

pub front_stopped : (caps : Caps) (piece rest part behind held held' held'' last : List ℕ)
    (number number' number'' place : ℕ) (sink mid sink' : SinkSeen) (halted : Halt)
    → TookFront caps piece rest held held' number number' sink mid → rest ≡ part ++ 10 ∷ behind
    → TakesPiece caps (ended part) held' held'' number' number'' mid sink' (Err halted)
    → TakesPiece caps piece held last number place sink sink' (Err halted)
front_stopped caps piece rest part behind held held' held'' last number number' number'' place sink mid sink' halted
    took
    rest_is takes =
    took_stopped caps took.front (ended part) behind piece held held' held'' number number' number'' sink mid sink'
    halted took.takes takes (line_behind piece took.front rest part behind took.piece_is rest_is) last place

-- what is left of a piece is the front of a line
took_rest : (caps : Caps) (rest held : List ℕ) (number : ℕ) (sink : SinkSeen) → HasNoFeed rest
    → TakesPiece caps rest held (held ++ rest) number number sink sink (Ok tt)
took_rest caps rest held number sink no_feed bytes text are = record {
  more = [];
  decoded = subst (λ (all : List ℕ). AreDecoded caps (bytes ++ rest) (held ++ rest) all number)
      (sym (append-nil text)) (decoded_behind caps bytes held text rest number are no_feed);
  taken = grows_none sink.taken;
  same = refl;
}

pub front_all : (caps : Caps) (piece rest held held' held'' : List ℕ) (number number' : ℕ) (sink mid : SinkSeen)
    → TookFront caps piece rest held held' number number' sink mid → HasNoFeed rest → held'' ≡ held' ++ rest
    → TakesPiece caps piece held held'' number number' sink mid (Ok tt)
front_all caps piece rest held held' held'' number number' sink mid took no_feed is =
    subst (λ (last : List ℕ). TakesPiece caps piece held last number number' sink mid (Ok tt)) (sym is)
    (subst (λ (all : List ℕ). TakesPiece caps all held (held' ++ rest) number number' sink mid (Ok tt))
    (sym took.piece_is)
    (took_more caps took.front rest held held' (held' ++ rest) number number' number' sink mid mid took.takes
    (took_rest caps rest held' number' mid no_feed)))

pub front_lost : (caps : Caps) (piece rest held held' last : List ℕ) (number number' place : ℕ) (sink mid : SinkSeen)
    → TookFront caps piece rest held held' number number' sink mid
    → TakesPiece caps piece held last number place sink mid (Err halt.Memory)
front_lost caps piece rest held held' last number number' place sink mid took =
    took_stopped caps took.front rest [] piece held held' held' number number' number' sink mid mid halt.Memory
    took.takes
    (λ bytes text are. stopped_none caps bytes held' text rest number' mid are)
    (took.piece_is ∙ ap (λ (all : List ℕ). took.front ++ all) (sym (append-nil rest))) last place

pub front_short : (caps : Caps) (piece rest held held' : List ℕ) (number number' : ℕ) (sink mid : SinkSeen)
    → TookFront caps piece rest held held' number number' sink mid → number' ≤ number + length piece
front_short caps piece rest held held' number number' sink mid took =
    omega (arith, took.few, ap (length {A = ℕ}) took.piece_is, length-append took.front rest)
