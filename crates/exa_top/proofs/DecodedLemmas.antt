-- What `decode` shows of its devices, by how it ended.
use Rattle.std.proofs.Common.{ℕ, ◌≡◌, List, [], ◌++◌, Option, refl, sym}
use Rattle.std.proofs.Common.{subst}
use Rattle.std.proofs.Common.{arith, append-nil, length-append, inl, inr}
use Rattle.outside.specs.Seen.{SourceSeen, SinkSeen}
use Rattle.outside.specs.Told.{Grows}
use Rattle.route_values.specs.Caps.{Caps}
use Rattle.message_decoder.specs.declared.halt.Halt.{Halt}
use Rattle.message_decoder.specs.declared.halt.Halt.TheVariants as halt
use Rattle.message_decoder.specs.Streams.{DecodedPart, DecodedWhole}
use Rattle.script_play.specs.declared.status.Status.{Status}
use Rattle.script_play.specs.declared.status.Status.TheVariants as status
use Rattle.exa_top.specs.declared.words.TextCommand.TheVariants.{Decode}
use Rattle.exa_top.specs.Decoded.{status_halted}
use Rattle.exa_top.specs.Top.{input_limit, Answered, Broke, Ran}
use Rattle.exa_top.proofs.AnsweredLemmas.{few_given}

-- the whole input was read and told
whole_ran : (content : Option (List ℕ → List ℕ)) (caps : Caps) (source source' : SourceSeen) (sink sink' : SinkSeen)
    → DecodedWhole input_limit caps source source' sink sink' → Ran content (Decode caps) source source' sink sink'
whole_ran content caps source source' sink sink' whole = record {
  input = whole.bytes;
  early = whole.written.text;
  late = [];
  read = record {
    given = whole.read.given;
    left = whole.read.left;
    whole = whole.read.whole;
    short = whole.read.short;
    ended = whole.read.ended;
  };
  outcome = (whole.written.fits, refl);
  written = subst (λ (text : List ℕ). Grows sink.taken sink'.taken text) (sym (append-nil whole.written.text))
      whole.written.taken;
}

-- a part of the input was told
part_broke : (content : Option (List ℕ → List ℕ)) (caps : Caps) (source source' : SourceSeen) (sink sink' : SinkSeen)
    (halted : Halt) → DecodedPart input_limit caps source source' sink sink' halted
    → Broke content (Decode caps) source source' sink sink'
part_broke content caps source source' sink sink' halted is = record {
  input = is.decoded.front;
  early = is.part ++ is.decoded.rest;
  late = [];
  part = is.part;
  read = record {
    bytes = is.bytes;
    behind = is.decoded.behind;
    bytes_are = is.decoded.bytes_are;
    closed = is.decoded.closed;
    read = record { given = is.read.given; left = is.read.left; short = is.read.short };
  };
  outcome = (is.decoded.decoding, refl);
  front = (is.decoded.rest, append-nil (is.part ++ is.decoded.rest));
  written = is.taken;
  past = λ longer. absurd (omega (arith, longer, length-append is.part is.decoded.rest));
}

-- how `decode` is answered where decoding halted
halted_is : (content : Option (List ℕ → List ℕ)) (caps : Caps) (source source' : SourceSeen) (sink sink' : SinkSeen)
    (halted : Halt) → DecodedPart input_limit caps source source' sink sink' halted
    → Answered content (Decode caps) source source' sink sink' (status_halted halted)
halted_is content caps source source' sink sink' halt.Memory is = record {
  spelled = λ ends. absurd (cc);
  crew = λ ends. absurd (cc);
  ok = λ ends. absurd (cc);
  broke = λ other. part_broke content caps source source' sink sink' halt.Memory is;
  unread = λ ends. absurd (cc);
  refused = λ fault ends. absurd (cc);
  bad = λ line ends. absurd (cc);
  read = λ ends. absurd (cc);
  read_same = λ other. is.stops.0;
  write = λ ends. absurd (cc);
  write_same = λ other. is.stops.1;
  late = λ ends. tt;
  reads = λ ends. tt;
  long = λ ends. absurd (cc);
  over = λ from. inr (inr refl);
}
halted_is content caps source source' sink sink' halt.Read is = record {
  spelled = λ ends. absurd (cc);
  crew = λ ends. absurd (cc);
  ok = λ ends. absurd (cc);
  broke = λ other. part_broke content caps source source' sink sink' halt.Read is;
  unread = λ ends. absurd (cc);
  refused = λ fault ends. absurd (cc);
  bad = λ line ends. absurd (cc);
  read = λ ends. is.stops.0;
  read_same = λ other. absurd (other refl);
  write = λ ends. absurd (cc);
  write_same = λ other. is.stops.1;
  late = λ ends. tt;
  reads = λ ends. tt;
  long = λ ends. absurd (cc);
  over = λ from. inr (inl refl);
}
halted_is content caps source source' sink sink' halt.Write is = record {
  spelled = λ ends. absurd (cc);
  crew = λ ends. absurd (cc);
  ok = λ ends. absurd (cc);
  broke = λ other. part_broke content caps source source' sink sink' halt.Write is;
  unread = λ ends. absurd (cc);
  refused = λ fault ends. absurd (cc);
  bad = λ line ends. absurd (cc);
  read = λ ends. absurd (cc);
  read_same = λ other. is.stops.0;
  write = λ ends. is.stops.1;
  write_same = λ other. absurd (other refl);
  late = λ ends. tt;
  reads = λ ends. tt;
  long = λ ends. absurd (cc);
  over = λ from. absurd (few_given input_limit source.given source'.given is.bytes is.read.given is.stops.2 from);
}
halted_is content caps source source' sink sink' halt.Long is = record {
  spelled = λ ends. absurd (cc);
  crew = λ ends. absurd (cc);
  ok = λ ends. absurd (cc);
  broke = λ other. part_broke content caps source source' sink sink' halt.Long is;
  unread = λ ends. absurd (cc);
  refused = λ fault ends. absurd (cc);
  bad = λ line ends. absurd (cc);
  read = λ ends. absurd (cc);
  read_same = λ other. is.stops.0;
  write = λ ends. absurd (cc);
  write_same = λ other. is.stops.1;
  late = λ ends. tt;
  reads = λ ends. tt;
  long = λ ends. record {
    bytes = is.bytes;
    given = is.read.given;
    full = is.stops.2;
    left = is.stops.3;
    unended = is.stops.4;
  };
  over = λ from. inl refl;
}

pub halted_answered : (content : Option (List ℕ → List ℕ)) (caps : Caps) (source source' : SourceSeen)
    (sink sink' : SinkSeen) (halted : Halt) (ends : Status) → ends ≡ status_halted halted
    → DecodedPart input_limit caps source source' sink sink' halted
    → Answered content (Decode caps) source source' sink sink' ends
halted_answered content caps source source' sink sink' halted ends is part =
    subst (Answered content (Decode caps) source source' sink sink') (sym is)
    (halted_is content caps source source' sink sink' halted part)

pub whole_answered : (content : Option (List ℕ → List ℕ)) (caps : Caps) (source source' : SourceSeen)
    (sink sink' : SinkSeen) → DecodedWhole input_limit caps source source' sink sink'
    → Answered content (Decode caps) source source' sink sink' status.Ok
whole_answered content caps source source' sink sink' whole = record {
  spelled = λ is. absurd (cc);
  crew = λ is. absurd (cc);
  ok = λ is. whole_ran content caps source source' sink sink' whole;
  broke = λ other. absurd (other refl);
  unread = λ is. absurd (cc);
  refused = λ fault is. absurd (cc);
  bad = λ line is. absurd (cc);
  read = λ is. absurd (cc);
  read_same = λ other. whole.read.same;
  write = λ is. absurd (cc);
  write_same = λ other. whole.written.same;
  late = λ is. absurd is;
  reads = λ is. absurd (cc);
  long = λ is. absurd (cc);
  over = λ from. absurd (few_given input_limit source.given source'.given whole.bytes whole.read.given whole.read.short
      from);
}
