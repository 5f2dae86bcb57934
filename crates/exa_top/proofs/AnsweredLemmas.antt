-- What a command that was run shows of its devices, by how it ended.
use Rattle.std.proofs.Common.{ℕ, ◌≡◌, ◌<◌, List, [], ◌++◌, length, Option, Some, None, refl, sym}
use Rattle.std.proofs.Common.{ap, subst, arith, append-nil, length-append, inr}
use Rattle.outside.specs.Seen.{SourceSeen, SinkSeen}
use Rattle.outside.specs.Told.{Grows}
use Rattle.script_grammar.specs.Scripts.{script_lines}
use Rattle.text_history.specs.Plays.{IsPlayPart}
use Rattle.script_play.specs.declared.status.Status.{Status}
use Rattle.script_play.specs.declared.status.Status.TheVariants as status
use Rattle.exa_top.specs.declared.words.TextCommand.{TextCommand}
use Rattle.exa_top.specs.declared.words.TextCommand.TheVariants.{Encode, EncodePlain, Check, Play, Load, Parse, Decode}
use Rattle.exa_top.specs.declared.words.TextCommand.TheVariants.{Help, Version}
use Rattle.exa_top.specs.Encoded.{plain_of}
use Rattle.exa_top.specs.Played.{IsPlayed, IsShown}
use Rattle.exa_top.specs.Top.{input_limit, IsOutput, IsPartOutput, ReadsWhole, ReadNothing}
use Rattle.exa_top.specs.Top.{ReadsPart, IsConfigured, Broke, GaveFrom, Answered, Wrote}
use Rattle.exa_top.proofs.OutputLemmas.{encoded_is_part}

-- what isn't touched has grown by nothing
pub grows_none : (told : Option (List ℕ)) → Grows told told []
grows_none None = tt
grows_none (Some bytes) = sym (append-nil bytes)

-- what isn't touched gave nothing
pub read_none : (source : SourceSeen) → ReadNothing source source []
read_none source = record { same = refl; none = refl }

-- fewer bytes than a limit don't reach it
pub few_given : (limit : ℕ) (given given' : Option (List ℕ)) (bytes : List ℕ) → Grows given given' bytes
    → length bytes < limit → GaveFrom limit given given' → ⊥
few_given limit None now bytes grows few from = from
few_given limit (Some was) None bytes grows few from = from
few_given limit (Some was) (Some now) bytes grows few from = absurd
    (omega (arith, from, few, ap length grows, length-append was bytes))

-- what is left as it was gave fewer bytes than the limit
pub untouched_is_few : (source source' : SourceSeen) (bytes : List ℕ) → ReadNothing source source' bytes
    → GaveFrom input_limit source.given source'.given → ⊥
untouched_is_few source source' bytes whole from =
    let Gave : SourceSeen → Type 0 = λ seen. GaveFrom input_limit source.given seen.given in
    few_given input_limit source.given source.given [] (grows_none source.given) (omega arith)
    (subst Gave whole.same from)

-- a command that ended well was given fewer bytes than the limit
pub whole_is_few : (content : Option (List ℕ → List ℕ)) (command : TextCommand) (source source' : SourceSeen)
    (bytes : List ℕ) → ReadsWhole content command source source' bytes
    → GaveFrom input_limit source.given source'.given → ⊥
whole_is_few content (Encode path) source source' bytes whole = few_given input_limit source.given source'.given bytes
    whole.0.given whole.0.short
whole_is_few content (EncodePlain ends) source source' bytes whole = few_given input_limit source.given source'.given
    bytes whole.given whole.short
whole_is_few content (Check path) source source' bytes whole = untouched_is_few source source' bytes whole.0
whole_is_few content (Play path) source source' bytes whole = few_given input_limit source.given source'.given bytes
    whole.0.given whole.0.short
whole_is_few content (Load count) source source' bytes whole = untouched_is_few source source' bytes whole
whole_is_few content Parse source source' bytes whole = few_given input_limit source.given source'.given bytes
    whole.given whole.short
whole_is_few content (Decode caps) source source' bytes whole = few_given input_limit source.given source'.given bytes
    whole.given whole.short
whole_is_few content Help source source' bytes whole = untouched_is_few source source' bytes whole
whole_is_few content Version source source' bytes whole = untouched_is_few source source' bytes whole

-- a script that was played to its end was played so far
pub played_is_part : (content : Option (List ℕ → List ℕ)) (path script output : List ℕ)
    → IsPlayed content path script output → IsShown content path (IsPlayPart content script) output
played_is_part content path script output played = record {
  slots = played.slots;
  slots_are = played.slots_are;
  config = played.config;
  configured = played.configured;
  history = played.history;
  events = record {
    lines = script_lines script;
    behind = [];
    lines_are = sym (append-nil (script_lines script));
    more = [];
    played = played.events;
  };
  legal = played.legal;
  output_is = played.output_is;
}

-- what ended well had its configuration
pub whole_is_configured : (content : Option (List ℕ → List ℕ)) (command : TextCommand) (source source' : SourceSeen)
    (bytes : List ℕ) → ReadsWhole content command source source' bytes → IsConfigured content command
whole_is_configured content (Encode path) source source' bytes whole = whole.1
whole_is_configured content (EncodePlain ends) source source' bytes whole = tt
whole_is_configured content (Check path) source source' bytes whole = whole.1
whole_is_configured content (Play path) source source' bytes whole = whole.1
whole_is_configured content (Load count) source source' bytes whole = tt
whole_is_configured content Parse source source' bytes whole = tt
whole_is_configured content (Decode caps) source source' bytes whole = tt
whole_is_configured content Help source source' bytes whole = tt
whole_is_configured content Version source source' bytes whole = tt

-- the output of a command that came to its end is one of a command that didn't have to
pub whole_is_part : (content : Option (List ℕ → List ℕ)) (command : TextCommand) (input early late : List ℕ)
    → IsOutput content command input early late → IsPartOutput content command input early late
whole_is_part content (Encode path) input early late outcome =
    inr (outcome.0, outcome.1, encoded_is_part outcome.0 input early late outcome.2)
whole_is_part content (EncodePlain ends) input early late outcome =
    inr (encoded_is_part (plain_of ends) input early late outcome)
whole_is_part content (Check path) input early late outcome = outcome
whole_is_part content (Play path) input early late outcome =
    (inr (played_is_part content path.now input early outcome.0), outcome.1)
whole_is_part content (Load count) input early late outcome = (outcome.0, inr outcome.1)
whole_is_part content Parse input early late outcome = outcome
whole_is_part content (Decode caps) input early late outcome = outcome
whole_is_part content Help input early late outcome = outcome
whole_is_part content Version input early late outcome = outcome

-- a command that read what it had to and then wrote
pub written : (content : Option (List ℕ → List ℕ)) (command : TextCommand) (source source' : SourceSeen)
    (sink sink' : SinkSeen) (input early late : List ℕ) (ends : Status)
    → ReadsWhole content command source source' input → ReadsPart command source source' input
    → IsOutput content command input early late → source'.faults ≡ source.faults → Wrote (early ++ late) sink sink' ends
    → Answered content command source source' sink sink' ends
written content command source source' sink sink' input early late status.Ok whole part outcome same wrote = record {
  spelled = λ is. absurd (cc);
  crew = λ is. absurd (cc);
  ok = λ is. record { input = input; early = early; late = late; read = whole; outcome = outcome; written = wrote.0 };
  broke = λ other. absurd (other refl);
  unread = λ is. absurd (cc);
  refused = λ fault is. absurd (cc);
  bad = λ line is. absurd (cc);
  read = λ is. absurd (cc);
  read_same = λ other. same;
  write = λ is. absurd (cc);
  write_same = λ other. wrote.1;
  late = λ is. absurd is;
  reads = λ is. absurd (cc);
  long = λ is. absurd (cc);
  over = λ from. absurd (whole_is_few content command source source' input whole from);
}
written content command source source' sink sink' input early late status.WriteFault whole part outcome same wrote =
    record {
      spelled = λ is. absurd (cc);
      crew = λ is. absurd (cc);
      ok = λ is. absurd (cc);
      broke = λ other. record {
        input = input;
        early = early;
        late = late;
        part = wrote.0.0;
        read = part;
        outcome = whole_is_part content command input early late outcome;
        front = (wrote.0.1, wrote.0.2);
        written = wrote.0.3;
        past = λ longer. whole;
      };
      unread = λ is. absurd (cc);
      refused = λ fault is. absurd (cc);
      bad = λ line is. absurd (cc);
      read = λ is. absurd (cc);
      read_same = λ other. same;
      write = λ is. wrote.1;
      write_same = λ other. absurd (other refl);
      late = λ is. whole_is_configured content command source source' input whole;
      reads = λ is. absurd (cc);
      long = λ is. absurd (cc);
      over = λ from. absurd (whole_is_few content command source source' input whole from);
    }
written content command source source' sink sink' input early late status.Usage whole part outcome same wrote =
    absurd wrote
written content command source source' sink sink' input early late status.ConfigRead whole part outcome same wrote =
    absurd wrote
written content command source source' sink sink' input early late (status.ConfigRefused fault) whole part outcome same
    wrote = absurd wrote
written content command source source' sink sink' input early late (status.ScriptRefused line) whole part outcome same
    wrote = absurd wrote
written content command source source' sink sink' input early late status.NoCrew whole part outcome same wrote =
    absurd wrote
written content command source source' sink sink' input early late status.ReadFault whole part outcome same wrote =
    absurd wrote
written content command source source' sink sink' input early late status.NoMemory whole part outcome same wrote =
    absurd wrote
written content command source source' sink sink' input early late status.InputLong whole part outcome same wrote =
    absurd wrote

-- a command that writes a text of its own
pub text_written : (content : Option (List ℕ → List ℕ)) (command : TextCommand) (source : SourceSeen)
    (sink sink' : SinkSeen) (text : List ℕ) (ends : Status) → ReadsWhole content command source source []
    → ReadsPart command source source [] → IsOutput content command [] text [] → Wrote text sink sink' ends
    → Answered content command source source sink sink' ends
text_written content command source sink sink' text ends whole part outcome wrote =
    let Of : List ℕ → Type 0 = λ all. Wrote all sink sink' ends in
    written content command source source sink sink' [] text [] ends whole part outcome refl
    (subst Of (sym (append-nil text)) wrote)

-- a command that wrote nothing
pub nothing_written : (content : Option (List ℕ → List ℕ)) (command : TextCommand) (source source' : SourceSeen)
    (sink : SinkSeen) (input early late : List ℕ) → ReadsPart command source source' input
    → IsPartOutput content command input early late → Broke content command source source' sink sink
nothing_written content command source source' sink input early late part outcome = record {
  input = input;
  early = early;
  late = late;
  part = [];
  read = part;
  outcome = outcome;
  front = (early ++ late, refl);
  written = grows_none sink.taken;
  past = λ longer. absurd (omega (arith, longer));
}

-- a command that found no memory before it wrote
pub starved : (content : Option (List ℕ → List ℕ)) (command : TextCommand) (source source' : SourceSeen)
    (sink : SinkSeen) (input early late : List ℕ) → ReadsPart command source source' input
    → IsPartOutput content command input early late → source'.faults ≡ source.faults
    → Answered content command source source' sink sink status.NoMemory
starved content command source source' sink input early late part outcome same = record {
  spelled = λ is. absurd (cc);
  crew = λ is. absurd (cc);
  ok = λ is. absurd (cc);
  broke = λ other. nothing_written content command source source' sink input early late part outcome;
  unread = λ is. absurd (cc);
  refused = λ fault is. absurd (cc);
  bad = λ line is. absurd (cc);
  read = λ is. absurd (cc);
  read_same = λ other. same;
  write = λ is. absurd (cc);
  write_same = λ other. refl;
  late = λ is. absurd is;
  reads = λ is. absurd (cc);
  long = λ is. absurd (cc);
  over = λ from. inr (inr refl);
}
