-- An input that is read piece by piece, and whose lines are told as they come.
use Rattle.std.proofs.Common.{ℕ, ◌≡◌, ◌+◌, ◌<◌, ◌≤◌, List, [], ◌++◌, length, Option, Err}
use Rattle.std.proofs.Common.{sym, ◌∙◌, refl, subst, arith, append_assoc, append-nil, length-append, ap}
use Rattle.outside.specs.Seen.{SourceSeen, SinkSeen}
use Rattle.outside.specs.Told.{CountsOne, Grows, Shrinks}
use Rattle.outside.proofs.ToldLemmas.{grows_more, shrinks_more}
use Rattle.text_forms.specs.Lines.{lines}
use Rattle.line_cutter.specs.Chunking.{HasCut}
use Rattle.line_cutter.specs.Cutting.{Cutting, fresh}
use Rattle.line_cutter.proofs.ChunkingLemmas.{cut_begins}
use Rattle.script_play.specs.Streams.{read_limit}
use Rattle.script_play.specs.declared.status.Status.{Status}
use Rattle.script_play.specs.declared.status.Status.TheVariants as status
use Rattle.script_play.proofs.StreamLemmas.{GavePiece, MetEnd, all_left, left_from, none_gave, shrinks_none}
use Rattle.exa_top.specs.Parses.{AreTold, ParsedPart, ParsedSoFar, Parses, PieceTold, TellsPiece}
use Rattle.exa_top.specs.Top.{ReadPart, input_limit}
use Rattle.exa_top.proofs.AnsweredLemmas.{grows_none}
use Rattle.exa_top.proofs.PieceLemmas.{parsing_more}

-- so many bytes were read, and the lines that end in them were told
pub record ToldSoFar (held : Cutting) (source source' : SourceSeen) (sink sink' : SinkSeen) (count : ℕ) : Type 0 where
  pub bytes : List ℕ
  pub given : Grows source.given source'.given bytes
  pub left : Shrinks source.left source'.left bytes
  pub ended : source'.ended ≡ source.ended
  pub unfailed : source'.faults ≡ source.faults
  pub count_is : length bytes ≡ count
  pub cut : HasCut bytes (lines bytes) held
  pub told : AreTold bytes sink sink'

told_nothing : (sink : SinkSeen) → AreTold [] sink sink
told_nothing sink = record {
  text = [];
  parsing = record { readings = []; read = tt; text = refl };
  taken = grows_none sink.taken;
  same = refl;
}

pub told_none : (held : Cutting) (source : SourceSeen) (sink : SinkSeen) → held ≡ fresh
    → ToldSoFar held source source sink sink 0
told_none held source sink new = record {
  bytes = [];
  given = grows_none source.given;
  left = shrinks_none source.left;
  ended = refl;
  unfailed = refl;
  count_is = refl;
  cut = subst (λ (now : Cutting). HasCut [] [] now) (sym new) cut_begins;
  told = told_nothing sink;
}

-- one piece more was told
pub told_more : (held next : Cutting) (source source' source'' : SourceSeen) (sink sink' sink'' : SinkSeen)
    (piece : List ℕ) (count count' : ℕ) → ToldSoFar held source source' sink sink' count
    → GavePiece source' source'' piece → PieceTold piece held next sink' sink'' status.Ok
    → count' ≡ count + length piece → ToldSoFar next source source'' sink sink'' count'
told_more held next source source' source'' sink sink' sink'' piece count count' was gave one is =
    let both =
    parsing_more was.bytes piece was.told.text one.text held next was.told.parsing was.cut one.put one.none in
    record {
      bytes = was.bytes ++ piece;
      given = grows_more source.given source'.given source''.given was.bytes piece was.given gave.given;
      left = shrinks_more source.left source'.left source''.left was.bytes piece was.left gave.left;
      ended = gave.ended ∙ was.ended;
      unfailed = gave.unfailed ∙ was.unfailed;
      count_is = omega (arith, length-append was.bytes piece, was.count_is, is);
      cut = both.1;
      told =
          record {
            text = was.told.text ++ one.text;
            parsing = both.0;
            taken = grows_more sink.taken sink'.taken sink''.taken was.told.text one.text was.told.taken one.wrote.0;
            same = one.wrote.1 ∙ was.told.same;
          };
    }

-- a piece was read whose lines weren't all told
abbrev so_far : (held : Cutting) (source source' source'' : SourceSeen) (sink sink' : SinkSeen) (piece : List ℕ)
    (count : ℕ) → ToldSoFar held source source' sink sink' count → GavePiece source' source'' piece
    → count + length piece ≤ input_limit → length piece ≤ read_limit → ParsedSoFar piece source source'' sink sink'
so_far held source source' source'' sink sink' piece count was gave short few = record {
  bytes = was.bytes;
  few = few;
  read =
      record {
        given = grows_more source.given source'.given source''.given was.bytes piece was.given gave.given;
        left = shrinks_more source.left source'.left source''.left was.bytes piece was.left gave.left;
        short = omega (arith, length-append was.bytes piece, was.count_is, short);
      };
  told = was.told;
}

-- of what its lines give a front part was written
part_told : (held next : Cutting) (source source' source'' : SourceSeen) (sink sink' sink'' : SinkSeen)
    (piece : List ℕ) (count : ℕ) → ToldSoFar held source source' sink sink' count → GavePiece source' source'' piece
    → count + length piece < input_limit → PieceTold piece held next sink' sink'' status.WriteFault
    → ParsedPart source source'' sink sink''
part_told held next source source' source'' sink sink' sink'' piece count was gave short one =
    let part : List ℕ = one.wrote.0.0 in
    let rest : List ℕ = one.wrote.0.1 in
    let few : length (was.bytes ++ piece) < input_limit =
    omega (arith, length-append was.bytes piece, was.count_is, short) in
    record {
      bytes = was.bytes ++ piece;
      read =
          record {
            given = grows_more source.given source'.given source''.given was.bytes piece was.given gave.given;
            left = shrinks_more source.left source'.left source''.left was.bytes piece was.left gave.left;
            short = omega (arith, few);
          };
      few = few;
      text = was.told.text ++ one.text;
      parsing =
          (parsing_more was.bytes piece was.told.text one.text held next was.told.parsing was.cut one.put one.none).0;
      taken = (
        was.told.text ++ part,
        rest,
        ap (λ (text : List ℕ). was.told.text ++ text) one.wrote.0.2 ∙ sym (append_assoc was.told.text part rest),
        grows_more sink.taken sink'.taken sink''.taken was.told.text part was.told.taken one.wrote.0.3,
      );
    }

-- what a piece leaves whose lines weren't all told
pub piece_stopped : (held next : Cutting) (source source' source'' : SourceSeen) (sink sink' sink'' : SinkSeen)
    (piece : List ℕ) (count : ℕ) (ends : Status) → ToldSoFar held source source' sink sink' count
    → GavePiece source' source'' piece → count + length piece < input_limit → length piece ≤ read_limit
    → TellsPiece piece held next sink' sink'' (Err ends) → Parses source source'' sink sink'' ends
piece_stopped held next source source' source'' sink sink' sink'' piece count status.NoMemory was gave short few tells =
    let before = so_far held source source' source'' sink sink' piece count was gave (omega (arith, short)) few in
    let same = sym tells in (
      (piece, subst (λ (now : SinkSeen). ParsedSoFar piece source source'' sink now) same before),
      gave.unfailed ∙ was.unfailed,
    )
piece_stopped held next source source' source'' sink sink' sink'' piece count status.WriteFault was gave short few tells
    = (
      part_told held next source source' source'' sink sink' sink'' piece count was gave short tells,
      gave.unfailed ∙ was.unfailed,
      subst (λ (before : ℕ). CountsOne before sink''.faults) was.told.same tells.wrote.1,
    )
piece_stopped held next source source' source'' sink sink' sink'' piece count status.Ok was gave short few tells =
    absurd tells
piece_stopped held next source source' source'' sink sink' sink'' piece count status.Usage was gave short few tells =
    absurd tells
piece_stopped held next source source' source'' sink sink' sink'' piece count status.ConfigRead was gave short few tells
    = absurd tells
piece_stopped held next source source' source'' sink sink' sink'' piece count (status.ConfigRefused fault) was gave
    short few tells = absurd tells
piece_stopped held next source source' source'' sink sink' sink'' piece count (status.ScriptRefused line) was gave short
    few tells = absurd tells
piece_stopped held next source source' source'' sink sink' sink'' piece count status.ReadFault was gave short few tells
    = absurd tells
piece_stopped held next source source' source'' sink sink' sink'' piece count status.NoCrew was gave short few tells =
    absurd tells
piece_stopped held next source source' source'' sink sink' sink'' piece count status.InputLong was gave short few tells
    = absurd tells

-- memory was wanting before anything was read
pub never_begun : (source : SourceSeen) (sink : SinkSeen) → Parses source source sink sink status.NoMemory
never_begun source sink = (
  (
    [],
    record {
      bytes = [];
      few = omega arith;
      read =
          record { given = grows_none source.given; left = shrinks_none source.left; short = omega arith };
      told = told_nothing sink;
    },
  ),
  refl,
)

-- the limit is reached with a piece that isn't told
pub piece_long : (held : Cutting) (source source' source'' : SourceSeen) (sink sink' : SinkSeen) (piece : List ℕ)
    (count : ℕ) → ToldSoFar held source source' sink sink' count → GavePiece source' source'' piece
    → count + length piece ≡ input_limit → length piece ≤ read_limit
    → Parses source source'' sink sink' status.InputLong
piece_long held source source' source'' sink sink' piece count was gave is few =
    let full : length (was.bytes ++ piece) ≡ input_limit =
    omega (arith, length-append was.bytes piece, was.count_is, is) in
    let before = so_far held source source' source'' sink sink' piece count was gave (omega (arith, is)) few in (
      (piece, before),
      gave.unfailed ∙ was.unfailed,
      record {
        bytes = was.bytes ++ piece;
        given = before.read.given;
        full = full;
        left = left_from source.left source''.left (was.bytes ++ piece) input_limit before.read.left full;
        unended = gave.ended ∙ was.ended;
      },
    )

-- the limit is reached
pub input_long : (held : Cutting) (source source' : SourceSeen) (sink sink' : SinkSeen) (count : ℕ)
    → ToldSoFar held source source' sink sink' count → count ≡ input_limit
    → Parses source source' sink sink' status.InputLong
input_long held source source' sink sink' count was is =
    piece_long held source source' source' sink sink' [] count was (none_gave source') (omega (arith, is)) (omega arith)

-- nothing more was given
given_still : (given given' given'' : Option (List ℕ)) (bytes : List ℕ) → Grows given given' bytes
    → Grows given' given'' [] → Grows given given'' bytes
given_still given given' given'' bytes grows still =
    subst (λ (all : List ℕ). Grows given given'' all) (append-nil bytes)
    (grows_more given given' given'' bytes [] grows still)

-- a source failed, and gave nothing in that call
pub read_failed : (held : Cutting) (source source' source'' : SourceSeen) (sink sink' : SinkSeen) (count : ℕ)
    → ToldSoFar held source source' sink sink' count → count < input_limit → Grows source'.given source''.given []
    → source''.left ≡ source'.left → CountsOne source'.faults source''.faults
    → Parses source source'' sink sink' status.ReadFault
read_failed held source source' source'' sink sink' count was short given left counts =
    let none : was.bytes ≡ was.bytes ++ [] = sym (append-nil was.bytes) in (
      record {
        bytes = was.bytes;
        few = omega arith;
        read =
            subst (λ (all : List ℕ). ReadPart source source'' all) none
            (record {
              given = given_still source.given source'.given source''.given was.bytes was.given given;
              left = subst (λ (told : Option (List ℕ)). Shrinks source.left told was.bytes) (sym left) was.left;
              short = omega (arith, was.count_is, short);
            });
        told = was.told;
      },
      subst (λ (before : ℕ). CountsOne before source''.faults) was.unfailed counts,
    )

-- a source has met its end
pub input_ended : (held : Cutting) (source source' source'' : SourceSeen) (sink sink' : SinkSeen) (count : ℕ)
    → ToldSoFar held source source' sink sink' count → count < input_limit → MetEnd source' source''
    → Parses source source'' sink sink' status.Ok
input_ended held source source' source'' sink sink' count was short met = (
  record {
    bytes = was.bytes;
    read =
        record {
          given = given_still source.given source'.given source''.given was.bytes was.given met.given;
          left = subst (λ (told : Option (List ℕ)). Shrinks source.left told was.bytes) (sym met.left) was.left;
          whole = all_left source.left source'.left was.bytes was.left met.none;
          short = omega (arith, was.count_is, short);
          ended = met.ended;
        };
    told = was.told;
  },
  met.unfailed ∙ was.unfailed,
)
