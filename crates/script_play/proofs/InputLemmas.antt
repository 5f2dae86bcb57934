-- An input that is read piece by piece and answered as it comes.
use Rattle.std.proofs.Common.{ℕ, ◌≡◌, ◌+◌, ◌<◌, ◌≤◌, List, [], ◌++◌, length, Option, None, Ok, Err}
use Rattle.std.proofs.Common.{sym, ◌∙◌, refl, subst, arith, append-nil, length-append}
use Rattle.outside.specs.Seen.{SourceSeen, SinkSeen}
use Rattle.outside.specs.Told.{CountsOne, Grows, Shrinks}
use Rattle.outside.proofs.ToldLemmas.{grows_more, shrinks_more}
use Rattle.text_forms.specs.Lines.{Line, lines}
use Rattle.line_cutter.specs.Chunking.{HasCut}
use Rattle.line_cutter.specs.Cutting.{Cutting, fresh, standing}
use Rattle.line_cutter.proofs.ChunkingLemmas.{cut_begins, cut_ends}
use Rattle.config_model.specs.Sections.{Sections}
use Rattle.book_history.specs.Entries.{History}
use Rattle.text_history.specs.Encodes.{AddsAnswer}
use Rattle.script_play.specs.declared.halt.Halt.{Halt}
use Rattle.script_play.specs.declared.halt.Halt.TheVariants as halt
use Rattle.script_play.specs.declared.player.Player.{Player}
use Rattle.script_play.specs.Player.{PlayerStands}
use Rattle.script_play.specs.Streams.{ReadPart, input_limit, read_limit}
use Rattle.script_play.specs.Encoding.{Added, AddedBy, AnsweredPart, AnswersPiece}
use Rattle.script_play.specs.Encoding.{AnswersSource, FrontAdded, StopsWriting}
use Rattle.script_play.proofs.AddedLemmas.{added_both, added_none, front_both, writes_later}
use Rattle.script_play.proofs.PlayedLemmas.{grows_none}
use Rattle.script_play.proofs.StreamLemmas.{GavePiece, MetEnd, all_left, left_from, none_gave, shrinks_none}

-- so many bytes were read, and the lines that end in them were answered
pub record InputSoFar (cfg : Sections) (H : History) (held : Cutting) (player : Player) (source source' : SourceSeen)
    (sink sink' : SinkSeen) (count : ℕ) : Type 0 where
  pub bytes : List ℕ
  pub given : Grows source.given source'.given bytes
  pub left : Shrinks source.left source'.left bytes
  pub ended : source'.ended ≡ source.ended
  pub unfailed : source'.faults ≡ source.faults
  pub count_is : length bytes ≡ count
  pub cut : HasCut bytes (lines bytes) held
  pub answered : Added (AddedBy AddsAnswer H (lines bytes)) cfg H player sink sink'

pub input_none : (cfg : Sections) (H : History) (held : Cutting) (player : Player) (source : SourceSeen)
    (sink : SinkSeen)
    → held ≡ fresh → PlayerStands cfg H player → InputSoFar cfg H held player source source sink sink 0
input_none cfg H held player source sink new stands = record {
  bytes = [];
  given = grows_none source.given;
  left = shrinks_none source.left;
  ended = refl;
  unfailed = refl;
  count_is = refl;
  cut = subst (λ (now : Cutting). HasCut [] [] now) (sym new) cut_begins;
  answered = added_none AddsAnswer cfg H player sink stands;
}

pub input_more : (cfg : Sections) (H : History) (held held' : Cutting) (between player : Player)
    (source source' source'' : SourceSeen) (sink sink' sink'' : SinkSeen) (piece : List ℕ) (count count' : ℕ)
    → InputSoFar cfg H held between source source' sink sink' count → GavePiece source' source'' piece
    → AnswersPiece piece held held' between player sink' sink'' (Ok tt) → standing held' ≡ None
    → count' ≡ count + length piece → InputSoFar cfg H held' player source source'' sink sink'' count'
input_more cfg H held held' between player source source' source'' sink sink' sink'' piece count count' was gave answers
    none is =
    let next = answers cfg was.bytes (lines was.bytes) (was.answered.added ++ H) was.cut was.answered.stands in
    let all : lines (was.bytes ++ piece) ≡ lines was.bytes ++ next.more =
    cut_ends (was.bytes ++ piece) (lines was.bytes ++ next.more) held' next.cut none in
    record {
      bytes = was.bytes ++ piece;
      given = grows_more source.given source'.given source''.given was.bytes piece was.given gave.given;
      left = shrinks_more source.left source'.left source''.left was.bytes piece was.left gave.left;
      ended = gave.ended ∙ was.ended;
      unfailed = gave.unfailed ∙ was.unfailed;
      count_is = omega (arith, length-append was.bytes piece, was.count_is, is);
      cut = subst (λ (passed : List Line). HasCut (was.bytes ++ piece) passed held') (sym all) next.cut;
      answered =
          subst (λ (items : List Line). Added (AddedBy AddsAnswer H items) cfg H player sink sink'') (sym all)
          (added_both AddsAnswer cfg H (lines was.bytes) next.more between player sink sink' sink'' was.answered
          next.answered);
    }

-- the lines of a piece weren't answered whole
pub input_part : (cfg : Sections) (H : History) (held held' : Cutting) (between now : Player)
    (source source' source'' : SourceSeen) (sink sink' sink'' : SinkSeen) (piece : List ℕ) (count : ℕ) (halted : Halt)
    → InputSoFar cfg H held between source source' sink sink' count → GavePiece source' source'' piece
    → AnswersPiece piece held held' between now sink' sink'' (Err halted) → count + length piece < input_limit
    → AnsweredPart cfg H source source'' sink sink'' × StopsWriting sink sink'' halted
input_part cfg H held held' between now source source' source'' sink sink' sink'' piece count halted was gave answers
    short
    =
    let next = answers cfg was.bytes (lines was.bytes) (was.answered.added ++ H) was.cut was.answered.stands in
    let few : length (was.bytes ++ piece) < input_limit =
    omega (arith, length-append was.bytes piece, was.count_is, short) in (
      record {
        bytes = was.bytes ++ piece;
        read =
            record {
              given = grows_more source.given source'.given source''.given was.bytes piece was.given gave.given;
              left = shrinks_more source.left source'.left source''.left was.bytes piece was.left gave.left;
              short = omega (arith, few);
            };
        few = few;
        same = gave.unfailed ∙ was.unfailed;
        answered =
            subst (λ (items : List Line). FrontAdded AddsAnswer items cfg H sink sink'') (sym next.0.lines_are)
            (front_both AddsAnswer cfg H (lines was.bytes) next.0.more between sink sink' sink'' was.answered
            next.0.answered);
      },
      writes_later sink sink' sink'' halted was.answered.wrote.same next.1,
    )

-- a call that stopped in a piece stopped for want of memory or at a write
source_stops : (cfg : Sections) (H : History) (now : Player) (source source' : SourceSeen) (sink sink' : SinkSeen)
    (halted : Halt) → AnsweredPart cfg H source source' sink sink' → StopsWriting sink sink' halted
    → AnswersSource cfg H now source source' sink sink' (Err halted)
source_stops cfg H now source source' sink sink' halt.Memory part stops = (part, stops)
source_stops cfg H now source source' sink sink' halt.Write part stops = (part, stops)
source_stops cfg H now source source' sink sink' halt.Read part stops = absurd stops
source_stops cfg H now source source' sink sink' halt.Long part stops = absurd stops
source_stops cfg H now source source' sink sink' halt.File part stops = absurd stops
source_stops cfg H now source source' sink sink' (halt.Script line) part stops = absurd stops

pub input_stopped : (cfg : Sections) (H : History) (held held' : Cutting) (between now : Player)
    (source source' source'' : SourceSeen) (sink sink' sink'' : SinkSeen) (piece : List ℕ) (count : ℕ) (halted : Halt)
    → InputSoFar cfg H held between source source' sink sink' count → GavePiece source' source'' piece
    → AnswersPiece piece held held' between now sink' sink'' (Err halted) → count + length piece < input_limit
    → AnswersSource cfg H now source source'' sink sink'' (Err halted)
input_stopped cfg H held held' between now source source' source'' sink sink' sink'' piece count halted was gave answers
    short =
    let part = input_part cfg H held held' between now source source' source'' sink sink' sink'' piece count halted was
    gave answers short in
    source_stops cfg H now source source'' sink sink'' halted part.0 part.1

-- the limit is reached with a piece that isn't answered
pub input_long : (cfg : Sections) (H : History) (held : Cutting) (player : Player)
    (source source' source'' : SourceSeen) (sink sink' : SinkSeen) (piece : List ℕ) (count : ℕ)
    → InputSoFar cfg H held player source source' sink sink' count → GavePiece source' source'' piece
    → count + length piece ≡ input_limit → length piece ≤ read_limit
    → AnswersSource cfg H player source source'' sink sink' (Err halt.Long)
input_long cfg H held player source source' source'' sink sink' piece count was gave is few =
    let full : length (was.bytes ++ piece) ≡ input_limit =
    omega (arith, length-append was.bytes piece, was.count_is, is) in
    let shrunk = shrinks_more source.left source'.left source''.left was.bytes piece was.left gave.left in
    let grown = grows_more source.given source'.given source''.given was.bytes piece was.given gave.given in
    record {
      last = piece;
      few = few;
      so_far =
          record {
            bytes = was.bytes;
            read = record { given = grown; left = shrunk; short = omega (arith, full) };
            answered = was.answered;
          };
      gave =
          record {
            full = full;
            left = left_from source.left source''.left (was.bytes ++ piece) input_limit shrunk full;
            unended = gave.ended ∙ was.ended;
            same = gave.unfailed ∙ was.unfailed;
          };
    }

-- the limit is reached
pub input_full : (cfg : Sections) (H : History) (held : Cutting) (player : Player) (source source' : SourceSeen)
    (sink sink' : SinkSeen) (count : ℕ) → InputSoFar cfg H held player source source' sink sink' count
    → count ≡ input_limit → AnswersSource cfg H player source source' sink sink' (Err halt.Long)
input_full cfg H held player source source' sink sink' count was is =
    input_long cfg H held player source source' source' sink sink' [] count was (none_gave source') (omega (arith, is))
    (omega arith)

-- nothing more was given
given_still : (given given' given'' : Option (List ℕ)) (bytes : List ℕ) → Grows given given' bytes
    → Grows given' given'' [] → Grows given given'' bytes
given_still given given' given'' bytes grows still =
    subst (λ (all : List ℕ). Grows given given'' all) (append-nil bytes)
    (grows_more given given' given'' bytes [] grows still)

-- a source failed, and gave nothing in that call
pub input_failed : (cfg : Sections) (H : History) (held : Cutting) (player : Player)
    (source source' source'' : SourceSeen) (sink sink' : SinkSeen) (count : ℕ)
    → InputSoFar cfg H held player source source' sink sink' count → count < input_limit
    → Grows source'.given source''.given [] → source''.left ≡ source'.left → CountsOne source'.faults source''.faults
    → AnswersSource cfg H player source source'' sink sink' (Err halt.Read)
input_failed cfg H held player source source' source'' sink sink' count was short given left counts =
    let none : was.bytes ≡ was.bytes ++ [] = sym (append-nil was.bytes) in (
      record {
        bytes = was.bytes;
        read =
            subst (λ (all : List ℕ). ReadPart source source'' all) none
            (record {
              given = given_still source.given source'.given source''.given was.bytes was.given given;
              left = subst (λ (told : Option (List ℕ)). Shrinks source.left told was.bytes) (sym left) was.left;
              short = omega (arith, was.count_is, short);
            });
        answered = was.answered;
      },
      subst (λ (before : ℕ). CountsOne before source''.faults) was.unfailed counts,
    )

pub input_ended : (cfg : Sections) (H : History) (held : Cutting) (player : Player)
    (source source' source'' : SourceSeen) (sink sink' : SinkSeen) (count : ℕ)
    → InputSoFar cfg H held player source source' sink sink' count → count < input_limit → MetEnd source' source''
    → AnswersSource cfg H player source source'' sink sink' (Ok tt)
input_ended cfg H held player source source' source'' sink sink' count was short met = record {
  bytes = was.bytes;
  read =
      record {
        given = given_still source.given source'.given source''.given was.bytes was.given met.given;
        left = subst (λ (told : Option (List ℕ)). Shrinks source.left told was.bytes) (sym met.left) was.left;
        whole = all_left source.left source'.left was.bytes was.left met.none;
        short = omega (arith, was.count_is, short);
        ended = met.ended;
        same = met.unfailed ∙ was.unfailed;
      };
  answered = was.answered;
}
