-- What `parse` shows of its devices, by how it ended.
use Rattle.std.proofs.Common.{ℕ, ◌≡◌, codes, List, [], ◌∷◌, ◌++◌, length, Option, ap, sym, ◌∙◌, refl, subst, arith}
use Rattle.std.proofs.Common.{append-nil, length-append, inl, inr}
use Rattle.outside.specs.Seen.{SourceSeen, SinkSeen}
use Rattle.outside.specs.Told.{Grows}
use Rattle.script_play.specs.declared.status.Status.{Status}
use Rattle.script_play.specs.declared.status.Status.TheVariants as status
use Rattle.exa_top.specs.declared.words.TextCommand.{TextCommand}
use Rattle.exa_top.specs.declared.words.TextCommand.TheVariants.{Encode, EncodePlain, Check, Play, Load, Parse, Decode}
use Rattle.exa_top.specs.declared.words.TextCommand.TheVariants.{Help, Version}
use Rattle.exa_top.specs.Parses.{ParsedPart, ParsedSoFar, ParsedWhole, Parses, ParsesIts}
use Rattle.exa_top.specs.Top.{input_limit, Answered, Broke, EndsAtOnce, Ran}
use Rattle.exa_top.specs.Words.{IsCommand}
use Rattle.exa_top.proofs.AnsweredLemmas.{few_given}
use Rattle.exa_top.proofs.OutputLemmas.{parsing_on}
use Rattle.exa_top.proofs.WordLemmas.{first_letter}

-- the whole input was read, and its lines were told
whole_ran : (content : Option (List ℕ → List ℕ)) (source source' : SourceSeen) (sink sink' : SinkSeen)
    → ParsedWhole source source' sink sink' → Ran content Parse source source' sink sink'
whole_ran content source source' sink sink' whole = record {
  input = whole.bytes;
  early = whole.told.text;
  late = [];
  read = whole.read;
  outcome = (whole.told.parsing, refl);
  written =
      subst (λ (text : List ℕ). Grows sink.taken sink'.taken text) (sym (append-nil whole.told.text)) whole.told.taken;
}

-- the lines before the last read were told
front_broke : (content : Option (List ℕ → List ℕ)) (last : List ℕ) (source source' : SourceSeen) (sink sink' : SinkSeen)
    → ParsedSoFar last source source' sink sink' → Broke content Parse source source' sink sink'
front_broke content last source source' sink sink' is =
    let on = parsing_on is.bytes last is.told.text is.told.parsing in
    record {
      input = is.bytes ++ last;
      early = is.told.text ++ on.0;
      late = [];
      part = is.told.text;
      read = is.read;
      outcome = (on.1, refl);
      front = (on.0, append-nil (is.told.text ++ on.0));
      written = is.told.taken;
      past = λ longer. absurd (omega (arith, longer, length-append is.told.text on.0));
    }

-- of what the lines give a front part was written
part_broke : (content : Option (List ℕ → List ℕ)) (source source' : SourceSeen) (sink sink' : SinkSeen)
    → ParsedPart source source' sink sink' → Broke content Parse source source' sink sink'
part_broke content source source' sink sink' is = record {
  input = is.bytes;
  early = is.text;
  late = [];
  part = is.taken.0;
  read = is.read;
  outcome = (is.parsing, refl);
  front = (is.taken.1, append-nil is.text ∙ is.taken.2);
  written = is.taken.3;
  past = λ longer. absurd
      (omega (arith, longer, ap (length {A = ℕ}) is.taken.2, length-append is.taken.0 is.taken.1));
}

pub parsed_answered : (content : Option (List ℕ → List ℕ)) (source source' : SourceSeen) (sink sink' : SinkSeen)
    (ends : Status) → Parses source source' sink sink' ends → Answered content Parse source source' sink sink' ends
parsed_answered content source source' sink sink' status.Ok is = record {
  spelled = λ ends. absurd (cc);
  crew = λ ends. absurd (cc);
  ok = λ ends. whole_ran content source source' sink sink' is.0;
  broke = λ other. absurd (other refl);
  unread = λ ends. absurd (cc);
  refused = λ fault ends. absurd (cc);
  bad = λ line ends. absurd (cc);
  read = λ ends. absurd (cc);
  read_same = λ other. is.1;
  write = λ ends. absurd (cc);
  write_same = λ other. is.0.told.same;
  late = λ ends. absurd ends;
  reads = λ ends. absurd (cc);
  long = λ ends. absurd (cc);
  over = λ from.
      absurd (few_given input_limit source.given source'.given is.0.bytes is.0.read.given is.0.read.short from);
}
parsed_answered content source source' sink sink' status.ReadFault is = record {
  spelled = λ ends. absurd (cc);
  crew = λ ends. absurd (cc);
  ok = λ ends. absurd (cc);
  broke = λ other. front_broke content [] source source' sink sink' is.0;
  unread = λ ends. absurd (cc);
  refused = λ fault ends. absurd (cc);
  bad = λ line ends. absurd (cc);
  read = λ ends. is.1;
  read_same = λ other. absurd (other refl);
  write = λ ends. absurd (cc);
  write_same = λ other. is.0.told.same;
  late = λ ends. tt;
  reads = λ ends. tt;
  long = λ ends. absurd (cc);
  over = λ from. inr (inl refl);
}
parsed_answered content source source' sink sink' status.InputLong is = record {
  spelled = λ ends. absurd (cc);
  crew = λ ends. absurd (cc);
  ok = λ ends. absurd (cc);
  broke = λ other. front_broke content is.0.0 source source' sink sink' is.0.1;
  unread = λ ends. absurd (cc);
  refused = λ fault ends. absurd (cc);
  bad = λ line ends. absurd (cc);
  read = λ ends. absurd (cc);
  read_same = λ other. is.1;
  write = λ ends. absurd (cc);
  write_same = λ other. is.0.1.told.same;
  late = λ ends. tt;
  reads = λ ends. tt;
  long = λ ends. is.2;
  over = λ from. inl refl;
}
parsed_answered content source source' sink sink' status.NoMemory is = record {
  spelled = λ ends. absurd (cc);
  crew = λ ends. absurd (cc);
  ok = λ ends. absurd (cc);
  broke = λ other. front_broke content is.0.0 source source' sink sink' is.0.1;
  unread = λ ends. absurd (cc);
  refused = λ fault ends. absurd (cc);
  bad = λ line ends. absurd (cc);
  read = λ ends. absurd (cc);
  read_same = λ other. is.1;
  write = λ ends. absurd (cc);
  write_same = λ other. is.0.1.told.same;
  late = λ ends. absurd ends;
  reads = λ ends. absurd (cc);
  long = λ ends. absurd (cc);
  over = λ from. inr (inr refl);
}
parsed_answered content source source' sink sink' status.WriteFault is = record {
  spelled = λ ends. absurd (cc);
  crew = λ ends. absurd (cc);
  ok = λ ends. absurd (cc);
  broke = λ other. part_broke content source source' sink sink' is.0;
  unread = λ ends. absurd (cc);
  refused = λ fault ends. absurd (cc);
  bad = λ line ends. absurd (cc);
  read = λ ends. absurd (cc);
  read_same = λ other. is.1;
  write = λ ends. is.2;
  write_same = λ other. absurd (other refl);
  late = λ ends. tt;
  reads = λ ends. absurd (cc);
  long = λ ends. absurd (cc);
  over = λ from. absurd (few_given input_limit source.given source'.given is.0.bytes is.0.read.given is.0.few from);
}
parsed_answered content source source' sink sink' status.Usage is = absurd is
parsed_answered content source source' sink sink' status.ConfigRead is = absurd is
parsed_answered content source source' sink sink' (status.ConfigRefused fault) is = absurd is
parsed_answered content source source' sink sink' (status.ScriptRefused line) is = absurd is
parsed_answered content source source' sink sink' status.NoCrew is = absurd is

-- no command ends so that parses
pub parses_later : (source source' : SourceSeen) (sink sink' : SinkSeen) (ends : Status)
    → Parses source source' sink sink' ends → EndsAtOnce ends → ⊥
parses_later source source' sink sink' status.Usage is at_once = is
parses_later source source' sink sink' (status.ConfigRefused fault) is at_once = is
parses_later source source' sink sink' status.Ok is at_once = at_once
parses_later source source' sink sink' status.ConfigRead is at_once = at_once
parses_later source source' sink sink' (status.ScriptRefused line) is at_once = at_once
parses_later source source' sink sink' status.ReadFault is at_once = at_once
parses_later source source' sink sink' status.WriteFault is at_once = at_once
parses_later source source' sink sink' status.NoCrew is at_once = at_once
parses_later source source' sink sink' status.NoMemory is at_once = at_once
parses_later source source' sink sink' status.InputLong is at_once = at_once

pub parses_read : (source source' : SourceSeen) (sink sink' : SinkSeen) (ends : Status)
    → Parses source source' sink sink' ends → ends ≡ status.ConfigRead → ⊥
parses_read source source' sink sink' ends is read =
    subst (λ (now : Status). Parses source source' sink sink' now) read is

-- the command that `parse` spells parses
pub parses_named : (words : List (List ℕ)) (command : TextCommand) (source source' : SourceSeen) (sink sink' : SinkSeen)
    (ends : Status) → IsCommand words command → words ≡ codes "parse" ∷ []
    → ParsesIts command source source' sink sink' ends → Parses source source' sink sink' ends
parses_named words Parse source source' sink sink' ends is named parses = parses
parses_named words (Encode path) source source' sink sink' ends is named parses =
    let longer : 2 ≡ 1 = ap length (sym is ∙ named) in absurd (omega (arith, longer))
parses_named words (EncodePlain session) source source' sink sink' ends is named parses =
    let longer : 4 ≡ 1 = ap length (sym is.words_are ∙ named) in absurd (omega (arith, longer))
parses_named words (Check path) source source' sink sink' ends is named parses =
    let longer : 2 ≡ 1 = ap length (sym is ∙ named) in absurd (omega (arith, longer))
parses_named words (Play path) source source' sink sink' ends is named parses =
    let longer : 2 ≡ 1 = ap length (sym is ∙ named) in absurd (omega (arith, longer))
parses_named words (Load count) source source' sink sink' ends is named parses =
    let letter : 108 ≡ 112 = first_letter _ _ (sym is.0 ∙ named) in absurd (omega (arith, letter))
parses_named words (Decode caps) source source' sink sink' ends is named parses =
    let letter : 100 ≡ 112 = first_letter _ _ (sym is.1 ∙ named) in absurd (omega (arith, letter))
parses_named words Help source source' sink sink' ends is named parses =
    let letter : 45 ≡ 112 = first_letter _ _ (sym is ∙ named) in absurd (omega (arith, letter))
parses_named words Version source source' sink sink' ends is named parses =
    let letter : 45 ≡ 112 = first_letter _ _ (sym is ∙ named) in absurd (omega (arith, letter))
