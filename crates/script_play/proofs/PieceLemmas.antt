-- A piece whose lines are played one after another.
use Rattle.std.proofs.Common.{ℕ, ◌≡◌, ◌+◌, ◌<◌, ◌≤◌, List, [], ◌∷◌, ◌++◌}
use Rattle.std.proofs.Common.{length, Option, Result, Ok, Err, ap, sym, ◌∙◌, refl}
use Rattle.std.proofs.Common.{subst, arith, append_assoc, append-nil}
use Rattle.std.proofs.lemmas.List.{length-append}
use Rattle.outside.specs.Seen.{SinkSeen}
use Rattle.config_model.specs.Sections.{Sections}
use Rattle.script_grammar.specs.Reading.{max_script_line}
use Rattle.text_history.specs.Plays.{IsPlayPart, IsRefusedAt}
use Rattle.script_play.specs.declared.halt.Halt.{Halt}
use Rattle.script_play.specs.declared.halt.Halt.TheVariants as halt
use Rattle.script_play.specs.declared.player.Player.{Player}
use Rattle.script_play.specs.Streams.{CameTo, GoesOn, HasNoFeed, PlaysPiece, RefusedBy, StayPart, StayRefused}
use Rattle.script_play.specs.Streams.{StoppedIn, ended}
use Rattle.script_play.proofs.PlayedLemmas.{long_refused, lost_piece, played_behind}

-- ---- what holds of bytes whatever follows, holds of longer ones

refused_longer : (content : Option (List ℕ → List ℕ)) (cfg : Sections) (bytes behind : List ℕ) (line : ℕ)
    (sink sink' : SinkSeen) → RefusedBy (StayRefused content bytes line) cfg sink sink'
    → RefusedBy (StayRefused content (bytes ++ behind) line) cfg sink sink'
refused_longer content cfg bytes behind line sink sink' was = record {
  history = was.history;
  refused = λ more. subst (λ (all : List ℕ). IsRefusedAt content all line was.history)
      (sym (append_assoc bytes behind more)) (was.refused (behind ++ more));
  legal = was.legal;
  taken = was.taken;
  same = was.same;
}

stopped_longer : (content : Option (List ℕ → List ℕ)) (cfg : Sections) (bytes behind : List ℕ)
    (sink sink' : SinkSeen) → StoppedIn (StayPart content bytes) cfg sink sink'
    → StoppedIn (StayPart content (bytes ++ behind)) cfg sink sink'
stopped_longer content cfg bytes behind sink sink' was = record {
  history = was.history;
  played = λ more. subst (λ (all : List ℕ). IsPlayPart content all was.history)
      (sym (append_assoc bytes behind more)) (was.played (behind ++ more));
  legal = was.legal;
  part = was.part;
  rest = was.rest;
  text_is = was.text_is;
  taken = was.taken;
}

longer : (content : Option (List ℕ → List ℕ)) (cfg : Sections) (bytes behind held last : List ℕ)
    (number place : ℕ) (player next : Player) (files files' : ℕ) (sink sink' : SinkSeen) (halted : Halt)
    → GoesOn content cfg bytes held number player files files' sink sink' (Err halted)
    → GoesOn content cfg (bytes ++ behind) last place next files files' sink sink' (Err halted)
longer content cfg bytes behind held last number place player next files files' sink sink' (halt.Script line) was =
    (refused_longer content cfg bytes behind line sink sink' was.0, was.1)
longer content cfg bytes behind held last number place player next files files' sink sink' halt.Memory was =
    (stopped_longer content cfg bytes behind sink sink' was.0, was.1)
longer content cfg bytes behind held last number place player next files files' sink sink' halt.Write was =
    (stopped_longer content cfg bytes behind sink sink' was.0, was.1)
longer content cfg bytes behind held last number place player next files files' sink sink' halt.File was =
    (stopped_longer content cfg bytes behind sink sink' was.0, was.1)
longer content cfg bytes behind held last number place player next files files' sink sink' halt.Read was =
    absurd was.1
longer content cfg bytes behind held last number place player next files files' sink sink' halt.Long was =
    absurd was.1

-- ---- pieces one behind the other

-- the files tell the same as before
pub piece_of : (content told : Option (List ℕ → List ℕ)) (piece held held' : List ℕ) (number number' : ℕ)
    (was player : Player) (files files' : ℕ) (sink sink' : SinkSeen) (result : Result (Unit {0}) Halt)
    → told ≡ content → PlaysPiece told piece held held' number number' was player files files' sink sink' result
    → PlaysPiece content piece held held' number number' was player files files' sink sink' result
piece_of content told piece held held' number number' was player files files' sink sink' result same plays =
    subst (λ (of : Option (List ℕ → List ℕ)). PlaysPiece of piece held held' number number' was player files files'
    sink sink' result) same plays

-- the front of a piece was played, and this rest of it is left
pub record PlayedFront (content : Option (List ℕ → List ℕ)) (piece rest held held' : List ℕ) (number number' : ℕ)
    (was player : Player) (files files' : ℕ) (sink sink' : SinkSeen) : Type 0 where
  pub front : List ℕ
  pub piece_is : piece ≡ front ++ rest
  pub plays : PlaysPiece content front held held' number number' was player files files' sink sink' (Ok tt)
  pub few : number' ≤ number + length front

pub front_none : (content : Option (List ℕ → List ℕ)) (piece held : List ℕ) (number : ℕ) (player : Player)
    (files : ℕ) (sink : SinkSeen)
    → PlayedFront content piece piece held held number number player player files files sink sink
front_none content piece held number player files sink = record {
  front = [];
  piece_is = refl;
  plays = λ cfg bytes opened start came.
      subst (λ (all : List ℕ). CameTo content cfg all held number player opened files start sink)
      (sym (append-nil bytes)) came;
  few = omega arith;
}

-- a line's end lies behind the front
line_behind : (piece front rest part behind : List ℕ) → piece ≡ front ++ rest → rest ≡ part ++ 10 ∷ behind
    → piece ≡ front ++ (ended part ++ behind)
line_behind piece front rest part behind piece_is rest_is =
    piece_is ∙ ap (λ (last : List ℕ). front ++ last) (rest_is ∙ sym (append_assoc part (10 ∷ []) behind))

pub front_more : (content told : Option (List ℕ → List ℕ)) (piece rest part behind held held' held'' : List ℕ)
    (number number' number'' : ℕ) (was player next : Player) (files files' files'' : ℕ)
    (sink sink' sink'' : SinkSeen)
    → PlayedFront content piece rest held held' number number' was player files files' sink sink'
    → rest ≡ part ++ 10 ∷ behind → number'' ≡ number' + 1 → told ≡ content
    → PlaysPiece told (ended part) held' held'' number' number'' player next files' files'' sink' sink'' (Ok tt)
    → PlayedFront content piece behind held held'' number number'' was next files files'' sink sink''
front_more content told piece rest part behind held held' held'' number number' number'' was player next files files'
    files''
    sink sink' sink'' played rest_is next_is same plays = record {
      front = played.front ++ ended part;
      piece_is = line_behind piece played.front rest part behind played.piece_is rest_is
          ∙ sym (append_assoc played.front (ended part) behind);
      plays = λ cfg bytes opened start came.
          subst (λ (all : List ℕ). CameTo content cfg all held'' number'' next opened files'' start sink'')
          (append_assoc bytes played.front (ended part))
          (piece_of content told (ended part) held' held'' number' number'' player next files' files'' sink' sink''
          (Ok tt) same plays cfg (bytes ++ played.front) opened start (played.plays cfg bytes opened start came));
      few = omega (arith, played.few, next_is, length-append played.front (ended part), length-append part (10 ∷ []));
    }

-- there is a number for one line more
pub front_few : (content : Option (List ℕ → List ℕ)) (piece rest part behind held held' : List ℕ) (number number' : ℕ)
    (was player : Player) (files files' : ℕ) (sink sink' : SinkSeen)
    → PlayedFront content piece rest held held' number number' was player files files' sink sink'
    → rest ≡ part ++ 10 ∷ behind → number' + 1 ≤ number + length piece
front_few content piece rest part behind held held' number number' was player files files' sink sink' played rest_is =
    let all : length piece ≡ length played.front + length (ended part ++ behind) =
    ap (length {A = ℕ}) (line_behind piece played.front rest part behind played.piece_is rest_is)
    ∙ length-append played.front (ended part ++ behind) in
    omega (arith, played.few, all, length-append (ended part) behind, length-append part (10 ∷ []))

-- the call stopped in a line behind the front
pub front_stopped : (content told : Option (List ℕ → List ℕ)) (piece rest part behind held held' held'' last : List ℕ)
    (number number' number'' place : ℕ) (was player next other : Player) (files files' files'' : ℕ)
    (sink sink' sink'' : SinkSeen) (halted : Halt)
    → PlayedFront content piece rest held held' number number' was player files files' sink sink'
    → rest ≡ part ++ 10 ∷ behind → told ≡ content
    → PlaysPiece told (ended part) held' held'' number' number'' player next files' files'' sink' sink'' (Err halted)
    → PlaysPiece content piece held last number place was other files files'' sink sink'' (Err halted)
front_stopped content told piece rest part behind held held' held'' last number number' number'' place was player next
    other
    files files' files'' sink sink' sink'' halted played rest_is same plays cfg bytes opened start came =
    let bytes_are : ((bytes ++ played.front) ++ ended part) ++ behind ≡ bytes ++ piece =
    append_assoc (bytes ++ played.front) (ended part) behind
    ∙ append_assoc bytes played.front (ended part ++ behind)
    ∙ ap (λ (all : List ℕ). bytes ++ all)
    (sym (line_behind piece played.front rest part behind played.piece_is rest_is)) in
    subst (λ (all : List ℕ). GoesOn content cfg all last place other opened files'' start sink'' (Err halted)) bytes_are
    (longer content cfg ((bytes ++ played.front) ++ ended part) behind held'' last number'' place next other opened
    files'' start sink'' halted
    (piece_of content told (ended part) held' held'' number' number'' player next files' files'' sink' sink''
    (Err halted) same plays cfg (bytes ++ played.front) opened start (played.plays cfg bytes opened start came)))

-- ---- what is left of a piece is the front of a line

rest_came : (content : Option (List ℕ → List ℕ)) (cfg : Sections) (bytes rest held : List ℕ) (number : ℕ)
    (player : Player) (opened files : ℕ) (start sink : SinkSeen) → HasNoFeed rest
    → CameTo content cfg bytes held number player opened files start sink
    → CameTo content cfg (bytes ++ rest) (held ++ rest) number player opened files start sink
rest_came content cfg bytes rest held number player opened files start sink no_feed came = record {
  history = came.history;
  played = played_behind content bytes held rest number came.history came.played no_feed;
  stands = came.stands;
  taken = came.taken;
  same = came.same;
  unopened = came.unopened;
}

pub front_all : (content : Option (List ℕ → List ℕ)) (piece rest held held' held'' : List ℕ) (number number' : ℕ)
    (was player : Player) (files files' : ℕ) (sink sink' : SinkSeen)
    → PlayedFront content piece rest held held' number number' was player files files' sink sink'
    → HasNoFeed rest → held'' ≡ held' ++ rest
    → PlaysPiece content piece held held'' number number' was player files files' sink sink' (Ok tt)
front_all content piece rest held held' held'' number number' was player files files' sink sink' played no_feed held_is
    cfg bytes opened start came =
    subst (λ (last : List ℕ). CameTo content cfg (bytes ++ piece) last number' player opened files' start sink')
    (sym held_is)
    (subst (λ (all : List ℕ). CameTo content cfg all (held' ++ rest) number' player opened files' start sink')
    (append_assoc bytes played.front rest ∙ ap (λ (all : List ℕ). bytes ++ all) (sym played.piece_is))
    (rest_came content cfg (bytes ++ played.front) rest held' number' player opened files' start sink' no_feed
    (played.plays cfg bytes opened start came)))

pub front_lost : (content : Option (List ℕ → List ℕ)) (piece rest held held' last : List ℕ)
    (number number' place : ℕ) (was player other : Player) (files files' : ℕ) (sink sink' : SinkSeen)
    → PlayedFront content piece rest held held' number number' was player files files' sink sink'
    → PlaysPiece content piece held last number place was other files files' sink sink' (Err halt.Memory)
front_lost content piece rest held held' last number number' place was player other files files' sink sink' played cfg
    bytes opened start came =
    subst (λ (all : List ℕ). GoesOn content cfg all last place other opened files' start sink' (Err halt.Memory))
    (append_assoc bytes played.front rest ∙ ap (λ (all : List ℕ). bytes ++ all) (sym played.piece_is))
    (lost_piece content cfg (bytes ++ played.front) held' rest last number' place player other opened files' start sink'
    (played.plays cfg bytes opened start came))

-- it is longer than a line may be
pub front_long : (content : Option (List ℕ → List ℕ)) (piece held held' last : List ℕ) (number number' place : ℕ)
    (was player other : Player) (files files' : ℕ) (sink sink' : SinkSeen)
    → PlaysPiece content piece held held' number number' was player files files' sink sink' (Ok tt)
    → max_script_line < length held'
    → PlaysPiece content piece held last number place was other files files' sink sink'
    (Err (halt.Script (number' + 1)))
front_long content piece held held' last number number' place was player other files files' sink sink' plays long cfg
    bytes opened start came =
    long_refused content cfg (bytes ++ piece) held' number' player other last place opened files' start sink'
    (plays cfg bytes opened start came) long

pub front_short : (content : Option (List ℕ → List ℕ)) (piece rest held held' : List ℕ) (number number' : ℕ)
    (was player : Player) (files files' : ℕ) (sink sink' : SinkSeen)
    → PlayedFront content piece rest held held' number number' was player files files' sink sink'
    → number' ≤ number + length piece
front_short content piece rest held held' number number' was player files files' sink sink' played =
    omega (arith, played.few, ap (length {A = ℕ}) played.piece_is, length-append played.front rest)
