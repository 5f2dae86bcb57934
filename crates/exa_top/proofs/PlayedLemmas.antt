-- What `play` shows of its devices, by how it ended.
use Rattle.std.proofs.Common.{ℕ, ◌≡◌, ◌⊎◌, List, [], ◌∷◌, ◌++◌, length, Option, Some, None, refl, sym, ◌∙◌, ap, subst}
use Rattle.std.proofs.Common.{inl, inr, arith, append-nil, length-append, codes, get_or, map, suc}
use Rattle.std.specs.Borrow.{Bor}
use Rattle.outside.specs.Seen.{SourceSeen, SinkSeen}
use Rattle.outside.specs.Told.{AreLeft, CountsOne, Grows, Shrinks}
use Rattle.config_model.specs.declared.slots.Slots.{Slots}
use Rattle.config_model.specs.Sections.{Sections}
use Rattle.book_history.specs.Entries.{History}
use Rattle.book_history.specs.Legal.{IsLegal}
use Rattle.answer_texts.specs.Shown.{all_of, shown}
use Rattle.text_history.specs.Configured.{AreTextSlots, IsConfigAt}
use Rattle.text_history.specs.Plays.{IsPlayPart, IsRefusedAt}
use Rattle.script_grammar.specs.Scripts.{script_lines}
use Rattle.script_play.specs.declared.status.Status.{Status}
use Rattle.script_play.specs.declared.status.Status.TheVariants as status
use Rattle.script_play.specs.Status.{IsUnread}
use Rattle.script_play.specs.Streams.{ArePlayed, PlayedAtMost, PlayedPart, PlayedSoFar, PlayedToLine, PlayedWhole}
use Rattle.script_play.specs.Streams.{Plays, StayRefused}
use Rattle.script_play.specs.Streams.{ReadPart as GavePart}
use Rattle.script_play.specs.Streams.{part as in_part, unopened}
use Rattle.script_play.proofs.ScriptLemmas.{lines_front}
use Rattle.exa_top.specs.declared.words.TextCommand.{TextCommand}
use Rattle.exa_top.specs.declared.words.TextCommand.TheVariants.{Encode, EncodePlain, Check, Play, Load, Parse, Decode}
use Rattle.exa_top.specs.declared.words.TextCommand.TheVariants.{Help, Version}
use Rattle.exa_top.specs.Words.{IsCommand}
use Rattle.exa_top.specs.Played.{CountsUnread, IsBadScript, IsLeftRefused}
use Rattle.exa_top.specs.Played.{PlaysFile}
use Rattle.exa_top.specs.Top.{input_limit, Answered, Broke, HasBadLine, PlaysIts, PlaysScript, ReadPart, Ran}
use Rattle.exa_top.proofs.AnsweredLemmas.{few_given, grows_none}
use Rattle.exa_top.proofs.CheckedLemmas.{unread_stopped}

-- a part of the input, in the words of the other commands
pub read_part : (source source' : SourceSeen) (bytes : List ℕ) → GavePart source source' bytes
    → ReadPart source source' bytes
read_part source source' bytes is = record { given = is.given; left = is.left; short = is.short }

shrinks_none : (left : Option (List ℕ)) → Shrinks left left []
shrinks_none None = tt
shrinks_none (Some rest) = refl

pub read_nothing : (source : SourceSeen) → ReadPart source source []
read_nothing source = record {
  given = grows_none source.given;
  left = shrinks_none source.left;
  short = omega arith;
}

-- the events of the lines that had ended begin those of all that was read
so_far_is_part : (content : Option (List ℕ → List ℕ)) (bytes last held : List ℕ) (number : ℕ) (history : History)
    → ArePlayed content bytes held number history → IsPlayPart content (bytes ++ last) history
so_far_is_part content bytes last held number history is = record {
  lines = is.lines;
  behind = script_lines (held ++ (last ++ []));
  lines_are = ap script_lines (sym (append-nil (bytes ++ last)))
      ∙ lines_front is.lines bytes held last [] is.no_feeds is.bytes_are;
  more = [];
  played = is.played;
}

-- those of the lines before one that is none begin those of a script
to_line_is_part : (content : Option (List ℕ → List ℕ)) (bytes : List ℕ) (line : ℕ) (history : History)
    → IsRefusedAt content bytes line history → IsPlayPart content bytes history
to_line_is_part content bytes line history is = record {
  lines = is.before;
  behind = is.line ∷ is.behind;
  lines_are = is.lines_are;
  more = [];
  played = is.played;
}

-- a part of a script was played over a configuration, and a front part of its output written
broke_over : (content : Option (List ℕ → List ℕ)) (path : Bor (List ℕ)) (source source' : SourceSeen)
    (sink sink' : SinkSeen) (slots : Slots) (config : Sections) (bytes : List ℕ) (history : History)
    (part rest : List ℕ) → AreTextSlots slots → IsConfigAt content path.now slots config
    → GavePart source source' bytes → IsPlayPart content bytes history → IsLegal config history
    → all_of shown history ≡ part ++ rest → Grows sink.taken sink'.taken part
    → Broke content (Play path) source source' sink sink'
broke_over content path source source' sink sink' slots config bytes history part rest are at read events legal text_is
    taken = record {
      input = bytes;
      early = all_of shown history;
      late = [];
      part = part;
      read = read_part source source' bytes read;
      outcome = (
        inr (record {
          slots = slots;
          slots_are = are;
          config = config;
          configured = at;
          history = history;
          events = events;
          legal = legal;
          output_is = refl;
        }),
        refl,
      );
      front = (rest, append-nil (all_of shown history) ∙ text_is);
      written = taken;
      past = λ longer. absurd (omega (arith, longer, ap length text_is, length-append part rest));
    }

-- the same where all of the output was written
broke_behind : (content : Option (List ℕ → List ℕ)) (path : Bor (List ℕ)) (source source' : SourceSeen)
    (sink sink' : SinkSeen) (slots : Slots) (config : Sections) (bytes : List ℕ) (history : History)
    → AreTextSlots slots → IsConfigAt content path.now slots config → GavePart source source' bytes
    → IsPlayPart content bytes history → IsLegal config history → Grows sink.taken sink'.taken (all_of shown history)
    → Broke content (Play path) source source' sink sink'
broke_behind content path source source' sink sink' slots config bytes history are at read events legal taken =
    broke_over content path source source' sink sink' slots config bytes history (all_of shown history) [] are at read
    events legal (sym (append-nil (all_of shown history))) taken

part_broke : (content : Option (List ℕ → List ℕ)) (path : Bor (List ℕ)) (source source' : SourceSeen)
    (sink sink' : SinkSeen) (slots : Slots) (config : Sections) → AreTextSlots slots
    → IsConfigAt content path.now slots config → PlayedPart content config source source' sink sink'
    → Broke content (Play path) source source' sink sink'
part_broke content path source source' sink sink' slots config are at is =
    broke_over content path source source' sink sink' slots config is.bytes is.stopped.history is.stopped.part
    is.stopped.rest are at is.read is.stopped.played is.stopped.legal is.stopped.text_is is.stopped.taken

so_far_broke : (content : Option (List ℕ → List ℕ)) (path : Bor (List ℕ)) (source source' : SourceSeen)
    (sink sink' : SinkSeen) (slots : Slots) (config : Sections) (last : List ℕ) → AreTextSlots slots
    → IsConfigAt content path.now slots config → PlayedSoFar content config last source source' sink sink'
    → Broke content (Play path) source source' sink sink'
so_far_broke content path source source' sink sink' slots config last are at is =
    broke_behind content path source source' sink sink' slots config (is.bytes ++ last) is.history are at is.read
    (so_far_is_part content is.bytes last is.held is.number is.history is.played) is.legal is.taken

to_line_broke : (content : Option (List ℕ → List ℕ)) (path : Bor (List ℕ)) (source source' : SourceSeen)
    (sink sink' : SinkSeen) (slots : Slots) (config : Sections) (line : ℕ) → AreTextSlots slots
    → IsConfigAt content path.now slots config → PlayedToLine content config line source source' sink sink'
    → Broke content (Play path) source source' sink sink'
to_line_broke content path source source' sink sink' slots config line are at is =
    broke_behind content path source source' sink sink' slots config is.bytes is.history are at is.read
    (to_line_is_part content is.bytes line is.history is.refused) is.legal is.taken

-- what a source had left is refused at a line that ended, or at the last line
left_refused : (content : Option (List ℕ → List ℕ)) (left left' : Option (List ℕ)) (bytes : List ℕ) (line : ℕ)
    (history : History) (Over : Type 0) → Shrinks left left' bytes → IsRefusedAt content bytes line history
    → StayRefused content bytes line history ⊎ (AreLeft left bytes × Over) → IsLeftRefused content left line history
left_refused content None left' bytes line history Over shrinks refused closed = tt
left_refused content (Some rest) None bytes line history Over shrinks refused closed = absurd shrinks
left_refused content (Some rest) (Some now) bytes line history Over shrinks refused (inl stays) =
    subst (λ (script : List ℕ). IsRefusedAt content script line history) (sym shrinks) (stays now)
left_refused content (Some rest) (Some now) bytes line history Over shrinks refused (inr over) =
    subst (λ (script : List ℕ). IsRefusedAt content script line history) (sym over.0) refused

to_line_bad : (content : Option (List ℕ → List ℕ)) (path : List ℕ) (source source' : SourceSeen)
    (sink sink' : SinkSeen) (slots : Slots) (config : Sections) (line : ℕ) → AreTextSlots slots
    → IsConfigAt content path slots config → PlayedToLine content config line source source' sink sink'
    → IsBadScript content path source.left
to_line_bad content path source source' sink sink' slots config line are at is = record {
  slots = slots;
  slots_are = are;
  config = config;
  configured = at;
  number = line;
  history = is.history;
  legal = is.legal;
  refused = left_refused content source.left source'.left is.bytes line is.history _ is.read.left is.refused is.closed;
}

-- a whole script was played over a configuration
whole_ran : (content : Option (List ℕ → List ℕ)) (path : Bor (List ℕ)) (source source' : SourceSeen)
    (sink sink' : SinkSeen) (slots : Slots) (config : Sections) → AreTextSlots slots
    → IsConfigAt content path.now slots config → PlayedWhole content config source source' sink sink'
    → Ran content (Play path) source source' sink sink'
whole_ran content path source source' sink sink' slots config are at is = record {
  input = is.bytes;
  early = all_of shown is.history;
  late = [];
  read = (
    record {
      given = is.read.given;
      left = is.read.left;
      whole = is.read.whole;
      short = is.read.short;
      ended = is.read.ended;
    },
    (slots, are, config, at),
  );
  outcome = (
    record {
      slots = slots;
      slots_are = are;
      config = config;
      configured = at;
      history = is.history;
      events = is.played;
      legal = is.legal;
      output_is = refl;
    },
    refl,
  );
  written = subst (λ (text : List ℕ). Grows sink.taken sink'.taken text) (sym (append-nil (all_of shown is.history)))
      is.taken;
}

-- memory was wanting while a part was played, or before
most_answered : (content : Option (List ℕ → List ℕ)) (path : Bor (List ℕ)) (source source' : SourceSeen)
    (sink sink' : SinkSeen) (slots : Slots) (config : Sections) → AreTextSlots slots
    → IsConfigAt content path.now slots config → PlayedAtMost content config source source' sink sink'
    → sink'.faults ≡ sink.faults → Answered content (Play path) source source' sink sink' status.NoMemory
most_answered content path source source' sink sink' slots config are at (in_part is) same = record {
  spelled = λ ends. absurd (cc);
  crew = λ ends. absurd (cc);
  ok = λ ends. absurd (cc);
  broke = λ other. part_broke content path source source' sink sink' slots config are at is;
  unread = λ ends. absurd (cc);
  refused = λ fault ends. absurd (cc);
  bad = λ line ends. absurd (cc);
  read = λ ends. absurd (cc);
  read_same = λ other. is.same;
  write = λ ends. absurd (cc);
  write_same = λ other. same;
  late = λ ends. absurd ends;
  reads = λ ends. tt;
  long = λ ends. absurd (cc);
  over = λ from. inr (inr refl);
}
most_answered content path source source' sink sink' slots config are at (unopened unread unwritten) same =
    subst (λ (seen : SinkSeen). Answered content (Play path) source source' sink seen status.NoMemory) (sym unwritten)
    (subst (λ (seen : SourceSeen). Answered content (Play path) source seen sink sink status.NoMemory) (sym unread)
    (unread_stopped content (Play path) source sink [] path.now slots status.NoMemory tt (read_nothing source)
    (inl refl, refl) (λ fault first. (slots, are, first)) tt))

-- a script was played over a configuration, and ended with this status
over_answered : (content : Option (List ℕ → List ℕ)) (path : Bor (List ℕ)) (source source' : SourceSeen)
    (sink sink' : SinkSeen) (files files' : ℕ) (slots : Slots) (config : Sections) (ends : Status) → AreTextSlots slots
    → IsConfigAt content path.now slots config → Plays content config source source' sink sink' files files' ends
    → Answered content (Play path) source source' sink sink' ends
over_answered content path source source' sink sink' files files' slots config status.Ok are at plays = record {
  spelled = λ is. absurd (cc);
  crew = λ is. absurd (cc);
  ok = λ is. whole_ran content path source source' sink sink' slots config are at plays.0;
  broke = λ other. absurd (other refl);
  unread = λ is. absurd (cc);
  refused = λ fault is. absurd (cc);
  bad = λ line is. absurd (cc);
  read = λ is. absurd (cc);
  read_same = λ other. plays.0.read.same;
  write = λ is. absurd (cc);
  write_same = λ other. plays.0.same;
  late = λ is. absurd is;
  reads = λ is. tt;
  long = λ is. absurd (cc);
  over = λ from. absurd (few_given input_limit source.given source'.given plays.0.bytes plays.0.read.given
      plays.0.read.short from);
}
over_answered content path source source' sink sink' files files' slots config (status.ScriptRefused line) are at
    plays =
    record {
      spelled = λ is. absurd (cc);
      crew = λ is. absurd (cc);
      ok = λ is. absurd (cc);
      broke = λ other. to_line_broke content path source source' sink sink' slots config line are at plays.0;
      unread = λ is. absurd (cc);
      refused = λ fault is. absurd (cc);
      bad = λ number is. to_line_bad content path.now source source' sink sink' slots config line are at plays.0;
      read = λ is. absurd (cc);
      read_same = λ other. plays.0.same;
      write = λ is. absurd (cc);
      write_same = λ other. plays.0.unfailed;
      late = λ is. (slots, are, config, at);
      reads = λ is. tt;
      long = λ is. absurd (cc);
      over = λ from. absurd (few_given input_limit source.given source'.given plays.0.bytes plays.0.read.given
          plays.0.few from);
    }
over_answered content path source source' sink sink' files files' slots config status.ReadFault are at plays = record {
  spelled = λ is. absurd (cc);
  crew = λ is. absurd (cc);
  ok = λ is. absurd (cc);
  broke = λ other. so_far_broke content path source source' sink sink' slots config [] are at plays.0;
  unread = λ is. absurd (cc);
  refused = λ fault is. absurd (cc);
  bad = λ line is. absurd (cc);
  read = λ is. plays.1;
  read_same = λ other. absurd (other refl);
  write = λ is. absurd (cc);
  write_same = λ other. plays.0.same;
  late = λ is. (slots, are, config, at);
  reads = λ is. tt;
  long = λ is. absurd (cc);
  over = λ from. inr (inl refl);
}
over_answered content path source source' sink sink' files files' slots config status.InputLong are at plays = record {
  spelled = λ is. absurd (cc);
  crew = λ is. absurd (cc);
  ok = λ is. absurd (cc);
  broke = λ other. so_far_broke content path source source' sink sink' slots config plays.0.last are at plays.0.played;
  unread = λ is. absurd (cc);
  refused = λ fault is. absurd (cc);
  bad = λ line is. absurd (cc);
  read = λ is. absurd (cc);
  read_same = λ other. plays.0.gave.same;
  write = λ is. absurd (cc);
  write_same = λ other. plays.0.played.same;
  late = λ is. (slots, are, config, at);
  reads = λ is. tt;
  long = λ is. record {
    bytes = plays.0.played.bytes ++ plays.0.last;
    given = plays.0.played.read.given;
    full = plays.0.gave.full;
    left = plays.0.gave.left;
    unended = plays.0.gave.unended;
  };
  over = λ from. inl refl;
}
over_answered content path source source' sink sink' files files' slots config status.WriteFault are at plays = record {
  spelled = λ is. absurd (cc);
  crew = λ is. absurd (cc);
  ok = λ is. absurd (cc);
  broke = λ other. part_broke content path source source' sink sink' slots config are at plays.0;
  unread = λ is. absurd (cc);
  refused = λ fault is. absurd (cc);
  bad = λ line is. absurd (cc);
  read = λ is. absurd (cc);
  read_same = λ other. plays.0.same;
  write = λ is. plays.1;
  write_same = λ other. absurd (other refl);
  late = λ is. (slots, are, config, at);
  reads = λ is. tt;
  long = λ is. absurd (cc);
  over = λ from. absurd (few_given input_limit source.given source'.given plays.0.bytes plays.0.read.given plays.0.few
      from);
}
over_answered content path source source' sink sink' files files' slots config status.ConfigRead are at plays = record {
  spelled = λ is. absurd (cc);
  crew = λ is. absurd (cc);
  ok = λ is. absurd (cc);
  broke = λ other. part_broke content path source source' sink sink' slots config are at plays.0;
  unread = λ is. tt;
  refused = λ fault is. absurd (cc);
  bad = λ line is. absurd (cc);
  read = λ is. absurd (cc);
  read_same = λ other. plays.0.same;
  write = λ is. absurd (cc);
  write_same = λ other. plays.1;
  late = λ is. absurd is;
  reads = λ is. tt;
  long = λ is. absurd (cc);
  over = λ from. absurd (few_given input_limit source.given source'.given plays.0.bytes plays.0.read.given plays.0.few
      from);
}
over_answered content path source source' sink sink' files files' slots config status.NoMemory are at plays =
    most_answered content path source source' sink sink' slots config are at plays.0 plays.1
over_answered content path source source' sink sink' files files' slots config status.Usage are at plays = absurd plays
over_answered content path source source' sink sink' files files' slots config (status.ConfigRefused fault) are at
    plays = absurd plays
over_answered content path source source' sink sink' files files' slots config status.NoCrew are at plays = absurd plays

-- what `play` shows, by how it ended
pub played_answered : (content : Option (List ℕ → List ℕ)) (path : Bor (List ℕ)) (source source' : SourceSeen)
    (sink sink' : SinkSeen) (files files' : ℕ) (ends : Status)
    → PlaysFile content path.now source source' sink sink' files files' ends
    → Answered content (Play path) source source' sink sink' ends
played_answered content path source source' sink sink' files files' ends (inl is) =
    subst (λ (seen : SinkSeen). Answered content (Play path) source source' sink seen ends) (sym is.sink_same)
    (subst (λ (seen : SourceSeen). Answered content (Play path) source seen sink sink ends) (sym is.source_same)
    (unread_stopped content (Play path) source sink [] path.now is.slots ends tt (read_nothing source) (inl refl, refl)
    (λ fault at. (is.slots, is.slots_are, at)) is.unread))
played_answered content path source source' sink sink' files files' ends (inr is) =
    over_answered content path source source' sink sink' files files' is.slots is.config ends is.slots_are is.configured
    is.plays

-- the count of files' faults behind a file that gave no configuration
pub counts_unread : (files files' : ℕ) (ends : Status) → (ends ≡ status.ConfigRead → CountsOne files files')
    → (¬ (ends ≡ status.ConfigRead) → files' ≡ files) → CountsUnread files files' ends
counts_unread files files' status.ConfigRead counts same = counts refl
counts_unread files files' status.Ok counts same = same (λ is. absurd (cc))
counts_unread files files' status.Usage counts same = same (λ is. absurd (cc))
counts_unread files files' (status.ConfigRefused fault) counts same = same (λ is. absurd (cc))
counts_unread files files' (status.ScriptRefused line) counts same = same (λ is. absurd (cc))
counts_unread files files' status.ReadFault counts same = same (λ is. absurd (cc))
counts_unread files files' status.WriteFault counts same = same (λ is. absurd (cc))
counts_unread files files' status.NoCrew counts same = same (λ is. absurd (cc))
counts_unread files files' status.NoMemory counts same = same (λ is. absurd (cc))
counts_unread files files' status.InputLong counts same = same (λ is. absurd (cc))

-- a file that gave no configuration, by the status
pub unplayed : (content : Option (List ℕ → List ℕ)) (path : List ℕ) (source : SourceSeen) (sink : SinkSeen)
    (files files' : ℕ) (slots : Slots) (ends : Status) → AreTextSlots slots → IsUnread content path slots ends
    → (ends ≡ status.ConfigRead → CountsOne files files') → (¬ (ends ≡ status.ConfigRead) → files' ≡ files)
    → PlaysFile content path source source sink sink files files' ends
unplayed content path source sink files files' slots ends are unread counts same = inl (record {
  slots = slots;
  slots_are = are;
  unread = unread;
  source_same = refl;
  sink_same = refl;
  counts = counts_unread files files' ends counts same;
})

-- a script that was played over the configuration of a file
pub played_over : (content content' : Option (List ℕ → List ℕ)) (path : List ℕ) (source source' : SourceSeen)
    (sink sink' : SinkSeen) (files between files' : ℕ) (slots : Slots) (config : Sections) (ends : Status)
    → AreTextSlots slots → IsConfigAt content path slots config → content' ≡ content → between ≡ files
    → Plays content' config source source' sink sink' between files' ends
    → PlaysFile content path source source' sink sink' files files' ends
played_over content content' path source source' sink sink' files between files' slots config ends are at content_is
    files_are plays = inr (record {
      slots = slots;
      slots_are = are;
      config = config;
      configured = at;
      plays = subst (λ (now : Option (List ℕ → List ℕ)). Plays now config source source' sink sink' files files' ends)
          content_is
          (subst (λ (now : ℕ). Plays content' config source source' sink sink' now files' ends) files_are plays);
    })

-- words that are the same begin with the same letter
pub same_letter : (words others : List (List ℕ)) → words ≡ others
    → get_or (get_or words 0 []) 0 0 ≡ get_or (get_or others 0 []) 0 0
same_letter words others same = ap (λ all. get_or (get_or all 0 []) 0 0) same

same_path : (one other : List ℕ) → codes "play" ∷ one ∷ [] ≡ codes "play" ∷ other ∷ [] → one ≡ other
same_path one other same = cc

-- the command that is spelled plays what the words name
pub plays_named : (content : Option (List ℕ → List ℕ)) (words : List (List ℕ)) (command : TextCommand)
    (path : List ℕ) (source source' : SourceSeen) (sink sink' : SinkSeen) (files files' : ℕ) (ends : Status)
    → IsCommand words command → words ≡ codes "play" ∷ path ∷ []
    → PlaysIts content command source source' sink sink' files files' ends
    → PlaysFile content path source source' sink sink' files files' ends
plays_named content words (Encode p) path source source' sink sink' files files' ends is named plays =
    let letter : 101 ≡ 112 = same_letter _ _ (sym is ∙ named) in absurd (omega (arith, letter))
plays_named content words (EncodePlain e) path source source' sink sink' files files' ends is named plays =
    let letter : 101 ≡ 112 = same_letter _ _ (sym is.words_are ∙ named) in absurd (omega (arith, letter))
plays_named content words (Check p) path source source' sink sink' files files' ends is named plays =
    let letter : 99 ≡ 112 = same_letter _ _ (sym is ∙ named) in absurd (omega (arith, letter))
plays_named content words (Play p) path source source' sink sink' files files' ends is named plays =
    subst (λ (at : List ℕ). PlaysFile content at source source' sink sink' files files' ends)
    (same_path p.now path (sym is ∙ named)) plays
plays_named content words (Load count) path source source' sink sink' files files' ends is named plays =
    let letter : 108 ≡ 112 = same_letter _ _ (sym is.0 ∙ named) in absurd (omega (arith, letter))
plays_named content words Parse path source source' sink sink' files files' ends is named plays =
    let longer : 1 ≡ 2 = ap length (sym is ∙ named) in absurd (omega (arith, longer))
plays_named content words (Decode caps) path source source' sink sink' files files' ends is named plays =
    let letter : 100 ≡ 112 = same_letter _ _ (sym is.1 ∙ named) in absurd (omega (arith, letter))
plays_named content words Help path source source' sink sink' files files' ends is named plays =
    let longer : 1 ≡ 2 = ap length (sym is ∙ named) in absurd (omega (arith, longer))
plays_named content words Version path source source' sink sink' files files' ends is named plays =
    let longer : 1 ≡ 2 = ap length (sym is ∙ named) in absurd (omega (arith, longer))

-- a script that is refused was played
pub refused_plays : (content : Option (List ℕ → List ℕ)) (command : TextCommand) (left : Option (List ℕ))
    → HasBadLine content command left → PlaysScript command
refused_plays content (Encode p) left bad = bad
refused_plays content (EncodePlain e) left bad = bad
refused_plays content (Check p) left bad = bad
refused_plays content (Play p) left bad = tt
refused_plays content (Load count) left bad = bad
refused_plays content Parse left bad = bad
refused_plays content (Decode caps) left bad = bad
refused_plays content Help left bad = bad
refused_plays content Version left bad = bad

-- words that spell the playing of a script spell a command
pub play_spelled : (words : List (Bor (List ℕ))) (path : List ℕ)
    → map (λ w. w.now) words ≡ codes "play" ∷ path ∷ []
    → (command : TextCommand) × IsCommand (map (λ w. w.now) words) command
play_spelled [] path named = let longer : 0 ≡ 2 = ap length named in absurd (omega (arith, longer))
play_spelled (name ∷ []) path named = let longer : 1 ≡ 2 = ap length named in absurd (omega (arith, longer))
play_spelled (name ∷ operand ∷ []) path named = (Play operand, cc)
play_spelled (name ∷ operand ∷ other ∷ more) path named =
    let longer : suc (suc (suc (length (map (λ w. w.now) more)))) ≡ 2 = ap length named in
    absurd (omega (arith, longer))
