-- A script that is read piece by piece and played as it comes.
use Rattle.std.proofs.Common.{ℕ, ◌≡◌, ◌+◌, ◌<◌, ◌≤◌, List, [], ◌++◌, length, Option, Some, None, Result, Ok, Err}
use Rattle.std.proofs.Common.{ap, sym, ◌∙◌, refl, subst, arith, append-nil, true, inl, inr}
use Rattle.std.proofs.Common.{◌-◌, min, take, drop, length-append, length-drop, length-take}
use Rattle.std.proofs.lemmas.List.{take-append-le}
use Rattle.outside.specs.Seen.{SourceSeen, SinkSeen}
use Rattle.outside.specs.Told.{Grows, Shrinks, AreLeft, AreLeftFrom, CountsOne}
use Rattle.outside.proofs.ToldLemmas.{grows_more, shrinks_more}
use Rattle.config_model.specs.Sections.{Sections}
use Rattle.text_history.specs.Plays.{IsPlayPart, IsRefusedAt}
use Rattle.script_play.specs.declared.halt.Halt.{Halt}
use Rattle.script_play.specs.declared.halt.Halt.TheVariants as halt
use Rattle.script_play.specs.declared.player.Player.{Player}
use Rattle.script_play.specs.declared.status.Status.TheVariants as status
use Rattle.script_play.specs.Player.{PlayerStands}
use Rattle.script_play.specs.Streams.{ArePlayed, CameTo, Finishes, GoesOn, PlayedPart}
use Rattle.script_play.specs.Streams.{PlayedToLine, Plays, PlaysLast, PlaysPiece, ReadPart, ReadWhole}
use Rattle.script_play.specs.Streams.{RefusedBy, StayPart, StayRefused, StoppedIn}
use Rattle.script_play.specs.Streams.{input_limit, part, read_limit, status_by, unopened}
use Rattle.script_play.proofs.PieceLemmas.{piece_of}
use Rattle.script_play.proofs.PlayedLemmas.{grows_none, played_none}

-- so many bytes were read, and their ended lines played
pub record Reached (content : Option (List ℕ → List ℕ)) (cfg : Sections) (source source' : SourceSeen)
    (sink sink' : SinkSeen) (files files' : ℕ) (player : Player) (held : List ℕ) (number count : ℕ) : Type 0 where
  pub bytes : List ℕ
  pub given : Grows source.given source'.given bytes
  pub left : Shrinks source.left source'.left bytes
  pub ended : source'.ended ≡ source.ended
  pub unfailed : source'.faults ≡ source.faults
  pub came : CameTo content cfg bytes held number player files files' sink sink'
  pub count_is : length bytes ≡ count
  pub few : number ≤ count

-- what has lost nothing
pub shrinks_none : (told : Option (List ℕ)) → Shrinks told told []
shrinks_none None = tt
shrinks_none (Some bytes) = refl

pub reached_none : (content : Option (List ℕ → List ℕ)) (cfg : Sections) (source : SourceSeen) (sink : SinkSeen)
    (files : ℕ) (player : Player) (held : List ℕ) → PlayerStands cfg [] player → held ≡ []
    → Reached content cfg source source sink sink files files player held 0 0
reached_none content cfg source sink files player held stands none = record {
  bytes = [];
  given = grows_none source.given;
  left = shrinks_none source.left;
  ended = refl;
  unfailed = refl;
  came = record {
    history = [];
    played = subst (λ (some : List ℕ). ArePlayed content [] some 0 []) (sym none) (played_none content);
    stands = stands;
    taken = grows_none sink.taken;
    same = refl;
    unopened = refl;
  };
  count_is = refl;
  few = omega arith;
}

-- a source gave a piece
pub record GavePiece (source source' : SourceSeen) (piece : List ℕ) : Type 0 where
  pub given : Grows source.given source'.given piece
  pub left : Shrinks source.left source'.left piece
  pub ended : source'.ended ≡ source.ended
  pub unfailed : source'.faults ≡ source.faults

pub got_piece : (source source' : SourceSeen) (into behind : List ℕ) (got : ℕ) → got ≤ length into
    → Grows source.given source'.given (take got into) → Shrinks source.left source'.left (take got into)
    → source'.ended ≡ source.ended → source'.faults ≡ source.faults
    → GavePiece source source' (take got (into ++ behind))
got_piece source source' into behind got within given left ended unfailed =
    let same : take got into ≡ take got (into ++ behind) = sym (take-append-le got into behind within) in
    record {
      given = subst (λ (piece : List ℕ). Grows source.given source'.given piece) same given;
      left = subst (λ (piece : List ℕ). Shrinks source.left source'.left piece) same left;
      ended = ended;
      unfailed = unfailed;
    }

pub got_length : (into behind : List ℕ) (got : ℕ) → got ≤ length into → length (take got (into ++ behind)) ≡ got
got_length into behind got within =
    omega (arith, length-take got (into ++ behind), length-append into behind, within)

-- what fits the room in the buffer stays within the limit, and leaves the buffer as long as it was
pub got_within : (count limit room got : ℕ) (into buffer : List ℕ) → room ≡ min 65536 (limit - count)
    → length into ≡ length (take room buffer) → got ≤ length into → count ≤ limit → count + got ≤ limit
got_within count limit room got into buffer is same within short = omega (arith, length-take room buffer)

pub got_few : (rest room got : ℕ) (into buffer : List ℕ) → room ≡ min 65536 rest
    → length into ≡ length (take room buffer) → got ≤ length into → got ≤ read_limit
got_few rest room got into buffer is same within = omega (arith, is, same, within, length-take room buffer)

pub buffer_stays : (rest room : ℕ) (into buffer : List ℕ) → room ≡ min 65536 rest
    → length into ≡ length (take room buffer) → length buffer ≡ 65536 → length (into ++ drop room buffer) ≡ 65536
buffer_stays rest room into buffer is same long =
    omega (arith, length-append into (drop room buffer), length-take room buffer, length-drop room buffer)

pub reached_more : (content told : Option (List ℕ → List ℕ)) (cfg : Sections) (source source' source'' : SourceSeen)
    (sink sink' sink'' : SinkSeen) (files files' files'' : ℕ) (player next : Player) (held held' piece : List ℕ)
    (number number' count count' : ℕ)
    → Reached content cfg source source' sink sink' files files' player held number count
    → GavePiece source' source'' piece → told ≡ content
    → PlaysPiece told piece held held' number number' player next files' files'' sink' sink'' (Ok tt)
    → number' ≤ number + length piece → count' ≡ count + length piece
    → Reached content cfg source source'' sink sink'' files files'' next held' number' count'
reached_more content told cfg source source' source'' sink sink' sink'' files files' files'' player next held held'
    piece
    number number' count count' was gave same plays few is = record {
      bytes = was.bytes ++ piece;
      given = grows_more source.given source'.given source''.given was.bytes piece was.given gave.given;
      left = shrinks_more source.left source'.left source''.left was.bytes piece was.left gave.left;
      ended = gave.ended ∙ was.ended;
      unfailed = gave.unfailed ∙ was.unfailed;
      came = piece_of content told piece held held' number number' player next files' files'' sink' sink'' (Ok tt) same
          plays cfg was.bytes files sink was.came;
      count_is = omega (arith, length-append was.bytes piece, was.count_is, is);
      few = omega (arith, few, was.few, is);
    }

-- ---- a piece in which the call stopped

piece_read : (content : Option (List ℕ → List ℕ)) (cfg : Sections) (source source' source'' : SourceSeen)
    (sink sink' : SinkSeen) (files files' : ℕ) (player : Player) (held piece : List ℕ) (number count : ℕ)
    → (was : Reached content cfg source source' sink sink' files files' player held number count)
    → GavePiece source' source'' piece → count + length piece ≤ input_limit
    → ReadPart source source'' (was.bytes ++ piece)
piece_read content cfg source source' source'' sink sink' files files' player held piece number count was gave short =
    record {
      given = grows_more source.given source'.given source''.given was.bytes piece was.given gave.given;
      left = shrinks_more source.left source'.left source''.left was.bytes piece was.left gave.left;
      short = omega (arith, length-append was.bytes piece, was.count_is, short);
    }

piece_few : (content : Option (List ℕ → List ℕ)) (cfg : Sections) (source source' : SourceSeen)
    (sink sink' : SinkSeen) (files files' : ℕ) (player : Player) (held piece : List ℕ) (number count : ℕ)
    → (was : Reached content cfg source source' sink sink' files files' player held number count)
    → count + length piece < input_limit → length (was.bytes ++ piece) < input_limit
piece_few content cfg source source' sink sink' files files' player held piece number count was short =
    omega (arith, length-append was.bytes piece, was.count_is, short)

-- what holds whatever follows holds where nothing does
abbrev part_now : (content : Option (List ℕ → List ℕ)) (cfg : Sections) (bytes : List ℕ) (sink sink' : SinkSeen)
    → StoppedIn (StayPart content bytes) cfg sink sink' → StoppedIn (IsPlayPart content bytes) cfg sink sink'
part_now content cfg bytes sink sink' was = record {
  history = was.history;
  played = subst (λ (all : List ℕ). IsPlayPart content all was.history) (append-nil bytes) (was.played []);
  legal = was.legal;
  part = was.part;
  rest = was.rest;
  text_is = was.text_is;
  taken = was.taken;
}

part_stopped : (content : Option (List ℕ → List ℕ)) (cfg : Sections) (source source' : SourceSeen) (bytes : List ℕ)
    (sink sink' : SinkSeen) → ReadPart source source' bytes → length bytes < input_limit
    → source'.faults ≡ source.faults → StoppedIn (StayPart content bytes) cfg sink sink'
    → PlayedPart content cfg source source' sink sink'
part_stopped content cfg source source' bytes sink sink' read few same was = record {
  bytes = bytes;
  read = read;
  few = few;
  stopped = part_now content cfg bytes sink sink' was;
  closed = inl was.played;
  same = same;
}

line_stopped : (content : Option (List ℕ → List ℕ)) (cfg : Sections) (line : ℕ) (source source' : SourceSeen)
    (bytes : List ℕ) (sink sink' : SinkSeen) → ReadPart source source' bytes → length bytes < input_limit
    → source'.faults ≡ source.faults → RefusedBy (StayRefused content bytes line) cfg sink sink'
    → PlayedToLine content cfg line source source' sink sink'
line_stopped content cfg line source source' bytes sink sink' read few same was = record {
  bytes = bytes;
  read = read;
  few = few;
  history = was.history;
  refused = subst (λ (all : List ℕ). IsRefusedAt content all line was.history) (append-nil bytes) (was.refused []);
  closed = inl was.refused;
  legal = was.legal;
  taken = was.taken;
  same = same;
  unfailed = was.same;
}

stopped_plays : (content : Option (List ℕ → List ℕ)) (cfg : Sections) (source source' : SourceSeen)
    (bytes held : List ℕ) (number : ℕ) (player : Player) (files files' : ℕ) (sink sink' : SinkSeen) (halted : Halt)
    → ReadPart source source' bytes → length bytes < input_limit → source'.faults ≡ source.faults
    → GoesOn content cfg bytes held number player files files' sink sink' (Err halted)
    → Plays content cfg source source' sink sink' files files' (status_by (Err halted))
stopped_plays content cfg source source' bytes held number player files files' sink sink' (halt.Script line) read few
    same was = (line_stopped content cfg line source source' bytes sink sink' read few same was.0, was.1)
stopped_plays content cfg source source' bytes held number player files files' sink sink' halt.Memory read few same was
    = (part (part_stopped content cfg source source' bytes sink sink' read few same was.0), was.1.1, was.1.0)
stopped_plays content cfg source source' bytes held number player files files' sink sink' halt.Write read few same was
    = (part_stopped content cfg source source' bytes sink sink' read few same was.0, was.1.1, was.1.0)
stopped_plays content cfg source source' bytes held number player files files' sink sink' halt.File read few same was
    = (part_stopped content cfg source source' bytes sink sink' read few same was.0, was.1.1, was.1.0)
stopped_plays content cfg source source' bytes held number player files files' sink sink' halt.Read read few same was
    = absurd was.1
stopped_plays content cfg source source' bytes held number player files files' sink sink' halt.Long read few same was
    = absurd was.1

pub reached_stopped : (content told : Option (List ℕ → List ℕ)) (cfg : Sections) (source source' source'' : SourceSeen)
    (sink sink' sink'' : SinkSeen) (files files' files'' : ℕ) (player next : Player) (held held' piece : List ℕ)
    (number number' count : ℕ) (halted : Halt)
    → Reached content cfg source source' sink sink' files files' player held number count
    → GavePiece source' source'' piece → told ≡ content
    → PlaysPiece told piece held held' number number' player next files' files'' sink' sink'' (Err halted)
    → count + length piece < input_limit
    → Plays content cfg source source'' sink sink'' files files'' (status_by (Err halted))
reached_stopped content told cfg source source' source'' sink sink' sink'' files files' files'' player next held held'
    piece
    number number' count halted was gave same plays short =
    stopped_plays content cfg source source'' (was.bytes ++ piece) held' number' next files files'' sink sink'' halted
    (piece_read content cfg source source' source'' sink sink' files files' player held piece number count was gave
    (omega (arith, short)))
    (piece_few content cfg source source' sink sink' files files' player held piece number count was short)
    (gave.unfailed ∙ was.unfailed) (piece_of content told piece held held' number number' player next files' files''
    sink' sink'' (Err halted) same plays
    cfg was.bytes files sink was.came)

-- ---- the limit

-- what was given is no more than what was left
pub left_from : (left left' : Option (List ℕ)) (bytes : List ℕ) (limit : ℕ) → Shrinks left left' bytes
    → length bytes ≡ limit → AreLeftFrom left limit
left_from None left' bytes limit shrinks is = tt
left_from (Some was) None bytes limit shrinks is = absurd shrinks
left_from (Some was) (Some now) bytes limit shrinks is =
    omega (arith, ap (length {A = ℕ}) shrinks, length-append bytes now, is)

-- the limit is reached with a piece that isn't played
pub piece_limit : (content : Option (List ℕ → List ℕ)) (cfg : Sections) (source source' source'' : SourceSeen)
    (sink sink' : SinkSeen) (files files' : ℕ) (player : Player) (held piece : List ℕ) (number count : ℕ)
    → Reached content cfg source source' sink sink' files files' player held number count
    → GavePiece source' source'' piece → length piece ≤ read_limit → count + length piece ≡ input_limit
    → Plays content cfg source source'' sink sink' files files' status.InputLong
piece_limit content cfg source source' source'' sink sink' files files' player held piece number count was gave few is =
    let full : length (was.bytes ++ piece) ≡ input_limit =
    omega (arith, length-append was.bytes piece, was.count_is, is) in
    let read = piece_read content cfg source source' source'' sink sink' files files' player held piece number count was
    gave (omega (arith, is)) in (
      record {
        last = piece;
        few = few;
        played = record {
          bytes = was.bytes;
          read = read;
          held = held;
          number = number;
          history = was.came.history;
          played = was.came.played;
          legal = was.came.stands.book.held.legal;
          taken = was.came.taken;
          same = was.came.same;
        };
        gave = record {
          full = full;
          left = left_from source.left source''.left (was.bytes ++ piece) input_limit read.left full;
          unended = gave.ended ∙ was.ended;
          same = gave.unfailed ∙ was.unfailed;
        };
      },
      was.came.unopened,
    )

-- nothing was given
pub none_gave : (source : SourceSeen) → GavePiece source source []
none_gave source = record {
  given = grows_none source.given;
  left = shrinks_none source.left;
  ended = refl;
  unfailed = refl;
}

-- the limit is reached
pub reached_limit : (content : Option (List ℕ → List ℕ)) (cfg : Sections) (source source' : SourceSeen)
    (sink sink' : SinkSeen) (files files' : ℕ) (player : Player) (held : List ℕ) (number count : ℕ)
    → Reached content cfg source source' sink sink' files files' player held number count → count ≡ input_limit
    → Plays content cfg source source' sink sink' files files' status.InputLong
reached_limit content cfg source source' sink sink' files files' player held number count was is =
    piece_limit content cfg source source' source' sink sink' files files' player held [] number count was
    (none_gave source') (omega arith) (omega (arith, is))

-- a source failed, and gave nothing in that call
pub reached_failed : (content : Option (List ℕ → List ℕ)) (cfg : Sections) (source source' source'' : SourceSeen)
    (sink sink' : SinkSeen) (files files' : ℕ) (player : Player) (held : List ℕ) (number count : ℕ)
    → Reached content cfg source source' sink sink' files files' player held number count → count < input_limit
    → Grows source'.given source''.given [] → source''.left ≡ source'.left → CountsOne source'.faults source''.faults
    → Plays content cfg source source'' sink sink' files files' status.ReadFault
reached_failed content cfg source source' source'' sink sink' files files' player held number count was short given left
    counts = (
      record {
        bytes = was.bytes;
        read = record {
          given = grows_more source.given source'.given source''.given was.bytes [] was.given given;
          left = subst (λ (all : List ℕ). Shrinks source.left source''.left all) (sym (append-nil was.bytes))
              (subst (λ (told : Option (List ℕ)). Shrinks source.left told was.bytes) (sym left) was.left);
          short = omega (arith, was.count_is, short, length-append was.bytes []);
        };
        held = held;
        number = number;
        history = was.came.history;
        played = was.came.played;
        legal = was.came.stands.book.held.legal;
        taken = was.came.taken;
        same = was.came.same;
      },
      subst (λ (before : ℕ). CountsOne before source''.faults) was.unfailed counts,
      was.came.unopened,
    )

-- ---- the end

-- where nothing more was left, all that was left was given
pub all_left : (left left' : Option (List ℕ)) (bytes : List ℕ) → Shrinks left left' bytes → AreLeft left' []
    → AreLeft left bytes
all_left None left' bytes shrinks none = tt
all_left (Some was) None bytes shrinks none = absurd shrinks
all_left (Some was) (Some now) bytes shrinks none =
    shrinks ∙ ap (λ (last : List ℕ). bytes ++ last) none ∙ append-nil bytes

-- a source has met its end, and gave nothing in that call
pub record MetEnd (source source' : SourceSeen) : Type 0 where
  pub given : Grows source.given source'.given []
  pub left : source'.left ≡ source.left
  pub none : AreLeft source.left []
  pub ended : source'.ended ≡ true
  pub unfailed : source'.faults ≡ source.faults

end_read : (content : Option (List ℕ → List ℕ)) (cfg : Sections) (source source' source'' : SourceSeen)
    (sink sink' : SinkSeen) (files files' : ℕ) (player : Player) (held : List ℕ) (number count : ℕ)
    → (was : Reached content cfg source source' sink sink' files files' player held number count)
    → MetEnd source' source'' → count < input_limit → ReadWhole source source'' was.bytes
end_read content cfg source source' source'' sink sink' files files' player held number count was met short = record {
  given = subst (λ (all : List ℕ). Grows source.given source''.given all) (append-nil was.bytes)
      (grows_more source.given source'.given source''.given was.bytes [] was.given met.given);
  left = subst (λ (told : Option (List ℕ)). Shrinks source.left told was.bytes) (sym met.left) was.left;
  whole = all_left source.left source'.left was.bytes was.left met.none;
  short = omega (arith, was.count_is, short);
  ended = met.ended;
  same = met.unfailed ∙ was.unfailed;
}

part_of : (source source' : SourceSeen) (bytes : List ℕ) → ReadWhole source source' bytes
    → ReadPart source source' bytes
part_of source source' bytes read =
    record { given = read.given; left = read.left; short = omega (arith, read.short) }

part_ended : (content : Option (List ℕ → List ℕ)) (cfg : Sections) (source source' : SourceSeen) (bytes : List ℕ)
    (sink sink' : SinkSeen) → ReadWhole source source' bytes → StoppedIn (IsPlayPart content bytes) cfg sink sink'
    → PlayedPart content cfg source source' sink sink'
part_ended content cfg source source' bytes sink sink' read was = record {
  bytes = bytes;
  read = part_of source source' bytes read;
  few = read.short;
  stopped = was;
  closed = inr (read.whole, read.ended);
  same = read.same;
}

line_ended : (content : Option (List ℕ → List ℕ)) (cfg : Sections) (line : ℕ) (source source' : SourceSeen)
    (bytes : List ℕ) (sink sink' : SinkSeen) → ReadWhole source source' bytes
    → RefusedBy (IsRefusedAt content bytes line) cfg sink sink'
    → PlayedToLine content cfg line source source' sink sink'
line_ended content cfg line source source' bytes sink sink' read was = record {
  bytes = bytes;
  read = part_of source source' bytes read;
  few = read.short;
  history = was.history;
  refused = was.refused;
  closed = inr (read.whole, read.ended);
  legal = was.legal;
  taken = was.taken;
  same = read.same;
  unfailed = was.same;
}

ended_plays : (content : Option (List ℕ → List ℕ)) (cfg : Sections) (source source' : SourceSeen) (bytes : List ℕ)
    (files files' : ℕ) (sink sink' : SinkSeen) (result : Result (Unit {0}) Halt) → ReadWhole source source' bytes
    → Finishes content cfg bytes files files' sink sink' result
    → Plays content cfg source source' sink sink' files files' (status_by result)
ended_plays content cfg source source' bytes files files' sink sink' (Ok done) read was = (
  record {
    bytes = bytes;
    read = read;
    history = was.0.history;
    played = was.0.played;
    legal = was.0.legal;
    taken = was.0.taken;
    same = was.0.same;
  },
  was.1,
)
ended_plays content cfg source source' bytes files files' sink sink' (Err (halt.Script line)) read was =
    (line_ended content cfg line source source' bytes sink sink' read was.0, was.1)
ended_plays content cfg source source' bytes files files' sink sink' (Err halt.Memory) read was =
    (part (part_ended content cfg source source' bytes sink sink' read was.0), was.1.1, was.1.0)
ended_plays content cfg source source' bytes files files' sink sink' (Err halt.Write) read was =
    (part_ended content cfg source source' bytes sink sink' read was.0, was.1.1, was.1.0)
ended_plays content cfg source source' bytes files files' sink sink' (Err halt.File) read was =
    (part_ended content cfg source source' bytes sink sink' read was.0, was.1.1, was.1.0)
ended_plays content cfg source source' bytes files files' sink sink' (Err halt.Read) read was = absurd was.1
ended_plays content cfg source source' bytes files files' sink sink' (Err halt.Long) read was = absurd was.1

-- the end came before the limit
pub reached_end : (content told : Option (List ℕ → List ℕ)) (cfg : Sections) (source source' source'' : SourceSeen)
    (sink sink' sink'' : SinkSeen) (files files' files'' : ℕ) (player : Player) (held : List ℕ) (number count : ℕ)
    (result : Result (Unit {0}) Halt)
    → Reached content cfg source source' sink sink' files files' player held number count → count < input_limit
    → MetEnd source' source'' → told ≡ content → PlaysLast told held number player files' files'' sink' sink'' result
    → Plays content cfg source source'' sink sink'' files files'' (status_by result)
reached_end content told cfg source source' source'' sink sink' sink'' files files' files'' player held number count
    result
    was short met same plays =
    ended_plays content cfg source source'' was.bytes files files'' sink sink'' result
    (end_read content cfg source source' source'' sink sink' files files' player held number count was met short)
    (subst (λ (of : Option (List ℕ → List ℕ)). PlaysLast of held number player files' files'' sink' sink'' result) same
    plays cfg was.bytes files sink was.came)

-- there was no memory for a player
pub unopened_plays : (content : Option (List ℕ → List ℕ)) (cfg : Sections) (source : SourceSeen) (sink : SinkSeen)
    (files : ℕ) → Plays content cfg source source sink sink files files status.NoMemory
unopened_plays content cfg source sink files = (unopened refl refl, refl, refl)
