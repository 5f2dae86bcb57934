-- What `encode` shows of its devices, by how it ended.
use Rattle.std.proofs.Common.{ℕ, ◌≡◌, ◌⊎◌, List, [], ◌∷◌, ◌++◌, length, Option, refl, sym, ◌∙◌, ap, subst, inl, inr}
use Rattle.std.proofs.Common.{arith, append-nil, append_assoc, length-append, codes, map, suc}
use Rattle.std.specs.Borrow.{Bor}
use Rattle.outside.specs.Seen.{SourceSeen, SinkSeen}
use Rattle.outside.specs.Told.{CountsOne, Grows}
use Rattle.text_forms.specs.Lines.{lines}
use Rattle.text_forms.proofs.AddressLemmas.{ipv4_one}
use Rattle.text_forms.proofs.AsnLemmas.{asn_one}
use Rattle.text_forms.specs.Addresses.{IsIpv4}
use Rattle.text_forms.specs.Numbers.{IsAsn}
use Rattle.line_cutter.proofs.UnfinishedLemmas.{lines_stay}
use Rattle.config_model.specs.declared.fault.ConfigFault.{ConfigFault}
use Rattle.config_model.specs.declared.sections.Neighbor.{Neighbor}
use Rattle.config_model.specs.declared.slots.Slots.{Slots}
use Rattle.config_model.specs.Sections.{Sections}
use Rattle.book_history.specs.Entries.{History}
use Rattle.book_history.specs.Legal.{IsLegal}
use Rattle.answer_texts.specs.Shown.{all_of, encoded}
use Rattle.text_history.specs.Adding.{Adding}
use Rattle.text_history.specs.Configured.{AreTextSlots, IsConfigAt}
use Rattle.text_history.specs.Encodes.{AddsCuts, IsEncodePart, numbered}
use Rattle.script_play.specs.declared.status.Status.{Status}
use Rattle.script_play.specs.declared.status.Status.TheVariants as status
use Rattle.script_play.specs.Encoding.{Encodes, EncodedAtMost, EncodedPart, EncodedSoFar, EncodedWhole}
use Rattle.script_play.specs.Encoding.{part as in_part, unopened}
use Rattle.script_play.specs.Status.{IsUnread}
use Rattle.script_play.specs.Streams.{ReadPart as GavePart, ReadWhole as GaveWhole}
use Rattle.script_play.proofs.AddedLemmas.{all_both}
use Rattle.exa_top.specs.declared.words.Ends.{Ends}
use Rattle.exa_top.specs.declared.words.TextCommand.{TextCommand}
use Rattle.exa_top.specs.declared.words.TextCommand.TheVariants.{Encode, EncodePlain, Check, Play, Load, Parse, Decode}
use Rattle.exa_top.specs.declared.words.TextCommand.TheVariants.{Help, Version}
use Rattle.exa_top.specs.Encoded.{EncodesFile, EncodesHeard, IsEncoded, IsEncodedPart, IsHeardAt}
use Rattle.exa_top.specs.Encoded.{IsUnheardAt, IsWithin, no_process, plain_of}
use Rattle.exa_top.specs.Plain.{plain_sections}
use Rattle.exa_top.specs.Top.{input_limit, Answered, Broke, EncodesIts, EndsAtOnce}
use Rattle.exa_top.specs.Top.{IsConfigured, IsOutput, IsPartOutput}
use Rattle.exa_top.specs.Top.{Ran, ReadPart, ReadToEnd, ReadsInput, ReadsPart, ReadsWhole}
use Rattle.exa_top.specs.Words.{IsCommand, IsEncode}
use Rattle.exa_top.proofs.AnsweredLemmas.{few_given, nothing_written, read_none, starved, untouched_is_few}
use Rattle.exa_top.proofs.CheckedLemmas.{unread_stopped}
use Rattle.exa_top.proofs.PlayedLemmas.{counts_unread, read_nothing, read_part, same_letter}
use Rattle.exa_top.proofs.WordLemmas.{local_as_is, local_is, peer_as_is}

-- ---- histories

-- what items add stands behind what was there
adding_behind : {A : Type 0} (Adds : History → A → History → Type 0) (start : History) (items : List A) (H : History)
    → Adding Adds start items H → (added : History) × (H ≡ added ++ start)
adding_behind Adds start [] H is = ([], is)
adding_behind Adds start (item ∷ items) H (added, adds, rest) =
    let more = adding_behind Adds (added ++ start) items H rest in
    (more.0 ++ added, more.1 ∙ sym (append_assoc more.0 added start))

-- of two histories that begin one, the one is within the other or goes on behind it
parted_at : (more history cuts answered : History) → more ++ history ≡ cuts ++ answered
    → IsWithin history answered ⊎ ((after : History) × (history ≡ after ++ answered))
parted_at [] history cuts answered is = inr (cuts, is)
parted_at (one ∷ more) history [] answered is = inl (one ∷ more, sym is)
parted_at (one ∷ more) history (cut ∷ cuts) answered is =
    let rest : more ++ history ≡ cuts ++ answered = cc in
    parted_at more history cuts answered rest

-- where no slot's turn came, a history is within that of the lines
no_slots : (config : Sections) (bytes : List ℕ) (history : History) (begins : IsEncodePart config bytes history)
    → begins.slots ≡ [] → IsWithin history begins.answered
no_slots config bytes history begins none =
    let cuts : begins.more ++ history ≡ begins.answered =
    subst (λ (slots : List (ℕ × Neighbor)). Adding AddsCuts begins.answered slots (begins.more ++ history)) none
    begins.cuts in
    (begins.more, sym cuts)

-- ---- commands

-- What a command asks for that encodes over a configuration.
pub record IsEncoder (content : Option (List ℕ → List ℕ)) (command : TextCommand) (config : Sections) : Type 0 where
  pub whole : (source source' : SourceSeen) (bytes : List ℕ) → ReadToEnd source source' bytes
      → ReadsWhole content command source source' bytes
  pub begun : (source source' : SourceSeen) (bytes : List ℕ) → ReadPart source source' bytes
      → ReadsPart command source source' bytes
  pub output : (input early late : List ℕ) → IsEncoded config input early late
      → IsOutput content command input early late
  pub front : (input early late : List ℕ) → IsEncodedPart config input early late
      → IsPartOutput content command input early late
  pub none : IsPartOutput content command [] [] []
  pub reads : ReadsInput command
  pub good : IsConfigured content command

file_encoder : (content : Option (List ℕ → List ℕ)) (path : Bor (List ℕ)) (config : Sections)
    → IsHeardAt content path.now config → IsEncoder content (Encode path) config
file_encoder content path config at = record {
  whole = λ source source' bytes read. (read, (config, at));
  begun = λ source source' bytes read. read;
  output = λ input early late is. (config, at, is);
  front = λ input early late is. inr (config, at, is);
  none = inl (refl, refl);
  reads = tt;
  good = (config, at);
}

plain_encoder : (content : Option (List ℕ → List ℕ)) (ends : Ends)
    → IsEncoder content (EncodePlain ends) (plain_of ends)
plain_encoder content ends = record {
  whole = λ source source' bytes read. read;
  begun = λ source source' bytes read. read;
  output = λ input early late is. is;
  front = λ input early late is. inr is;
  none = inl (refl, refl);
  reads = tt;
  good = tt;
}

-- a whole input, in the words of the other commands
read_whole : (source source' : SourceSeen) (bytes : List ℕ) → GaveWhole source source' bytes
    → ReadToEnd source source' bytes
read_whole source source' bytes is = record {
  given = is.given;
  left = is.left;
  whole = is.whole;
  short = is.short;
  ended = is.ended;
}

module _ (content : Option (List ℕ → List ℕ)) (command : TextCommand) (config : Sections)
    (encoder : IsEncoder content command config) (source source' : SourceSeen) (sink sink' : SinkSeen) where
  -- a front part was written of what lines were answered
  lines_broke : (bytes : List ℕ) (history : History) (begins : IsEncodePart config bytes history)
      (part rest : List ℕ) → GavePart source source' bytes → IsLegal config history
      → IsWithin history begins.answered → all_of encoded history ≡ part ++ rest
      → Grows sink.taken sink'.taken part → Broke content command source source' sink sink'
  lines_broke bytes history begins part rest read legal within text_is taken = record {
    input = bytes;
    early = all_of encoded history;
    late = [];
    part = part;
    read = encoder.begun source source' bytes (read_part source source' bytes read);
    outcome =
        encoder.front bytes (all_of encoded history) []
        (record {
          history = history;
          begins = begins;
          legal = legal;
          output_is = sym (append-nil (all_of encoded history));
          parted = inl (within, refl);
        });
    front = (rest, append-nil (all_of encoded history) ∙ text_is);
    written = taken;
    past = λ longer. absurd (omega (arith, longer, ap length text_is, length-append part rest));
  }

  -- a front part was written of that and of messages, behind the whole input
  messages_broke : (bytes : List ℕ) (history after : History) (begins : IsEncodePart config bytes history)
      (part rest : List ℕ) → GavePart source source' bytes → GaveWhole source source' bytes → IsLegal config history
      → history ≡ after ++ begins.answered → all_of encoded history ≡ part ++ rest
      → Grows sink.taken sink'.taken part → Broke content command source source' sink sink'
  messages_broke bytes history after begins part rest read whole legal behind text_is taken =
      let texts : all_of encoded history ≡ all_of encoded begins.answered ++ all_of encoded after =
      ap (λ (now : History). all_of encoded now) behind ∙ all_both encoded after begins.answered in
      record {
        input = bytes;
        early = all_of encoded begins.answered;
        late = all_of encoded after;
        part = part;
        read = encoder.begun source source' bytes (read_part source source' bytes read);
        outcome =
            encoder.front bytes (all_of encoded begins.answered) (all_of encoded after)
            (record { history = history; begins = begins; legal = legal; output_is = texts; parted = inr refl });
        front = (rest, sym texts ∙ text_is);
        written = taken;
        past = λ longer. encoder.whole source source' bytes (read_whole source source' bytes whole);
      }

  -- a part of an input, by how far its history came
  whole_broke : (is : EncodedPart config source source' sink sink') → GaveWhole source source' is.bytes
      → IsWithin is.history is.encodes.answered ⊎ ((after : History) × (is.history ≡ after ++ is.encodes.answered))
      → Broke content command source source' sink sink'
  whole_broke is whole (inl within) =
      lines_broke is.bytes is.history is.encodes is.wrote.part is.wrote.rest is.read is.legal within is.wrote.text_is
      is.wrote.taken
  whole_broke is whole (inr (after, behind)) =
      messages_broke is.bytes is.history after is.encodes is.wrote.part is.wrote.rest is.read whole is.legal behind
      is.wrote.text_is is.wrote.taken

  late_broke : (is : EncodedPart config source source' sink sink')
      → (is.encodes.slots ≡ []) ⊎ GaveWhole source source' is.bytes → Broke content command source source' sink sink'
  late_broke is (inl none) =
      lines_broke is.bytes is.history is.encodes is.wrote.part is.wrote.rest is.read is.legal
      (no_slots config is.bytes is.history is.encodes none) is.wrote.text_is is.wrote.taken
  late_broke is (inr whole) =
      let cuts = adding_behind AddsCuts is.encodes.answered is.encodes.slots (is.encodes.more ++ is.history)
      is.encodes.cuts in
      whole_broke is whole (parted_at is.encodes.more is.history cuts.0 is.encodes.answered cuts.1)

  part_broke : EncodedPart config source source' sink sink' → Broke content command source source' sink sink'
  part_broke is = late_broke is is.late

  -- all lines were answered that had ended before the last bytes came
  so_far_broke : (last : List ℕ) → EncodedSoFar config last source source' sink sink'
      → Broke content command source source' sink sink'
  so_far_broke last is =
      let stay = lines_stay is.bytes last in
      lines_broke (is.bytes ++ last) is.history
      (record {
        started = is.answered.started;
        raised = is.answered.raised;
        answered = is.history;
        more = [];
        front = lines is.bytes;
        behind = stay.0;
        lines_are = stay.1;
        slots = [];
        others = numbered 0 config.neighbors;
        slots_are = refl;
        late = inl refl;
        ups = is.answered.ups;
        answers = is.answered.answers;
        cuts = refl;
      })
      (all_of encoded is.history) [] is.read is.legal ([], refl) (sym (append-nil (all_of encoded is.history)))
      is.wrote.taken

  whole_ran : EncodedWhole config source source' sink sink' → Ran content command source source' sink sink'
  whole_ran is =
      let cuts = adding_behind AddsCuts is.encodes.answered (numbered 0 config.neighbors) is.history is.encodes.cuts in
      let texts : all_of encoded is.history ≡ all_of encoded is.encodes.answered ++ all_of encoded cuts.0 =
      ap (λ (now : History). all_of encoded now) cuts.1 ∙ all_both encoded cuts.0 is.encodes.answered in
      record {
        input = is.bytes;
        early = all_of encoded is.encodes.answered;
        late = all_of encoded cuts.0;
        read = encoder.whole source source' is.bytes (read_whole source source' is.bytes is.read);
        outcome =
            encoder.output is.bytes (all_of encoded is.encodes.answered) (all_of encoded cuts.0)
            (record {
              history = is.history;
              encodes = is.encodes;
              legal = is.legal;
              served = is.served;
              early_is = refl;
              output_is = texts;
            });
        written = subst (λ (text : List ℕ). Grows sink.taken sink'.taken text) texts is.wrote.taken;
      }

  -- memory was wanting while a part was encoded, or before
  most_answered : EncodedAtMost config source source' sink sink' → sink'.faults ≡ sink.faults
      → Answered content command source source' sink sink' status.NoMemory
  most_answered (in_part is) same = record {
    spelled = λ ends. absurd (cc);
    crew = λ ends. absurd (cc);
    ok = λ ends. absurd (cc);
    broke = λ other. part_broke is;
    unread = λ ends. absurd (cc);
    refused = λ fault ends. absurd (cc);
    bad = λ line ends. absurd (cc);
    read = λ ends. absurd (cc);
    read_same = λ other. is.same;
    write = λ ends. absurd (cc);
    write_same = λ other. same;
    late = λ ends. absurd ends;
    reads = λ ends. encoder.reads;
    long = λ ends. absurd (cc);
    over = λ from. inr (inr refl);
  }
  most_answered (unopened unread unwritten) same =
      subst (λ (seen : SinkSeen). Answered content command source source' sink seen status.NoMemory) (sym unwritten)
      (subst (λ (seen : SourceSeen). Answered content command source seen sink sink status.NoMemory) (sym unread)
      (starved content command source source sink [] [] [] (encoder.begun source source [] (read_nothing source))
      encoder.none refl))

  -- lines were encoded over a configuration, by the status
  encoder_answered : (ends : Status) → Encodes config source source' sink sink' ends
      → Answered content command source source' sink sink' ends
  encoder_answered status.Ok encodes = record {
    spelled = λ is. absurd (cc);
    crew = λ is. absurd (cc);
    ok = λ is. whole_ran encodes;
    broke = λ other. absurd (other refl);
    unread = λ is. absurd (cc);
    refused = λ fault is. absurd (cc);
    bad = λ line is. absurd (cc);
    read = λ is. absurd (cc);
    read_same = λ other. encodes.read.same;
    write = λ is. absurd (cc);
    write_same = λ other. encodes.wrote.same;
    late = λ is. absurd is;
    reads = λ is. absurd (cc);
    long = λ is. absurd (cc);
    over = λ from. absurd (few_given input_limit source.given source'.given encodes.bytes encodes.read.given
        encodes.read.short from);
  }
  encoder_answered status.ReadFault encodes = record {
    spelled = λ is. absurd (cc);
    crew = λ is. absurd (cc);
    ok = λ is. absurd (cc);
    broke = λ other. so_far_broke [] encodes.0;
    unread = λ is. absurd (cc);
    refused = λ fault is. absurd (cc);
    bad = λ line is. absurd (cc);
    read = λ is. encodes.1;
    read_same = λ other. absurd (other refl);
    write = λ is. absurd (cc);
    write_same = λ other. encodes.0.wrote.same;
    late = λ is. encoder.good;
    reads = λ is. absurd (cc);
    long = λ is. absurd (cc);
    over = λ from. inr (inl refl);
  }
  encoder_answered status.InputLong encodes = record {
    spelled = λ is. absurd (cc);
    crew = λ is. absurd (cc);
    ok = λ is. absurd (cc);
    broke = λ other. so_far_broke encodes.last encodes.so_far;
    unread = λ is. absurd (cc);
    refused = λ fault is. absurd (cc);
    bad = λ line is. absurd (cc);
    read = λ is. absurd (cc);
    read_same = λ other. encodes.gave.same;
    write = λ is. absurd (cc);
    write_same = λ other. encodes.so_far.wrote.same;
    late = λ is. encoder.good;
    reads = λ is. encoder.reads;
    long = λ is. record {
      bytes = encodes.so_far.bytes ++ encodes.last;
      given = encodes.so_far.read.given;
      full = encodes.gave.full;
      left = encodes.gave.left;
      unended = encodes.gave.unended;
    };
    over = λ from. inl refl;
  }
  encoder_answered status.WriteFault encodes = record {
    spelled = λ is. absurd (cc);
    crew = λ is. absurd (cc);
    ok = λ is. absurd (cc);
    broke = λ other. part_broke encodes.0;
    unread = λ is. absurd (cc);
    refused = λ fault is. absurd (cc);
    bad = λ line is. absurd (cc);
    read = λ is. absurd (cc);
    read_same = λ other. encodes.0.same;
    write = λ is. encodes.1;
    write_same = λ other. absurd (other refl);
    late = λ is. encoder.good;
    reads = λ is. absurd (cc);
    long = λ is. absurd (cc);
    over = λ from. absurd (few_given input_limit source.given source'.given encodes.0.bytes encodes.0.read.given
        encodes.0.few from);
  }
  encoder_answered status.NoMemory encodes = most_answered encodes.0 encodes.1
  encoder_answered status.Usage encodes = absurd encodes
  encoder_answered status.ConfigRead encodes = absurd encodes
  encoder_answered (status.ConfigRefused fault) encodes = absurd encodes
  encoder_answered (status.ScriptRefused line) encodes = absurd encodes
  encoder_answered status.NoCrew encodes = absurd encodes

-- ---- the two commands

-- `encode` with the ends of a session, by how it ended
pub plain_answered : (content : Option (List ℕ → List ℕ)) (ends_of : Ends) (source source' : SourceSeen)
    (sink sink' : SinkSeen) (ends : Status) → Encodes (plain_of ends_of) source source' sink sink' ends
    → Answered content (EncodePlain ends_of) source source' sink sink' ends
plain_answered content ends_of source source' sink sink' ends encodes =
    encoder_answered content (EncodePlain ends_of) (plain_of ends_of) (plain_encoder content ends_of) source source'
    sink
    sink' ends encodes

-- a file that is a configuration without a process
unheard_answered : (content : Option (List ℕ → List ℕ)) (path : Bor (List ℕ)) (source : SourceSeen) (sink : SinkSeen)
    (slots : Slots) (first : ConfigFault) → AreTextSlots slots → IsUnheardAt content path.now slots
    → first ≡ no_process → Answered content (Encode path) source source sink sink (status.ConfigRefused first)
unheard_answered content path source sink slots first are none first_is = record {
  spelled = λ is. absurd (cc);
  crew = λ is. absurd (cc);
  ok = λ is. absurd (cc);
  broke = λ other. nothing_written content (Encode path) source source sink [] [] [] (read_nothing source)
      (inl (refl, refl));
  unread = λ is. absurd (cc);
  refused = λ fault is.
      let same : first ≡ fault = cc in
      (slots, are, inr (none, sym same ∙ first_is));
  bad = λ line is. absurd (cc);
  read = λ is. absurd (cc);
  read_same = λ other. refl;
  write = λ is. absurd (cc);
  write_same = λ other. refl;
  late = λ is. absurd is;
  reads = λ is. absurd (cc);
  long = λ is. absurd (cc);
  over = λ from. absurd (untouched_is_few source source [] (read_none source) from);
}

unencoded : (content : Option (List ℕ → List ℕ)) (path : Bor (List ℕ)) (source : SourceSeen) (sink : SinkSeen)
    (slots : Slots) (ends : Status) → AreTextSlots slots
    → IsUnread content path.now slots ends
    ⊎ (IsUnheardAt content path.now slots × (ends ≡ status.ConfigRefused no_process))
    → Answered content (Encode path) source source sink sink ends
unencoded content path source sink slots ends are (inl unread) =
    unread_stopped content (Encode path) source sink [] path.now slots ends tt (read_nothing source) (inl (refl, refl))
    (λ fault at. (slots, are, inl at)) unread
unencoded content path source sink slots ends are (inr (none, is)) =
    subst (λ (now : Status). Answered content (Encode path) source source sink sink now) (sym is)
    (unheard_answered content path source sink slots no_process are none refl)

-- `encode` with a file, by how it ended
pub file_answered : (content : Option (List ℕ → List ℕ)) (path : Bor (List ℕ)) (source source' : SourceSeen)
    (sink sink' : SinkSeen) (files files' : ℕ) (ends : Status)
    → EncodesFile content path.now source source' sink sink' files files' ends
    → Answered content (Encode path) source source' sink sink' ends
file_answered content path source source' sink sink' files files' ends (inl is) =
    subst (λ (seen : SinkSeen). Answered content (Encode path) source source' sink seen ends) (sym is.sink_same)
    (subst (λ (seen : SourceSeen). Answered content (Encode path) source seen sink sink ends) (sym is.source_same)
    (unencoded content path source sink is.slots ends is.slots_are is.unread))
file_answered content path source source' sink sink' files files' ends (inr is) =
    encoder_answered content (Encode path) is.config (file_encoder content path is.config is.heard) source source' sink
    sink' ends is.encodes

-- encoding over a configuration is no end before the input is read
pub encodes_later : (config : Sections) (source source' : SourceSeen) (sink sink' : SinkSeen) (ends : Status)
    → Encodes config source source' sink sink' ends → EndsAtOnce ends → ⊥
encodes_later config source source' sink sink' status.Usage encodes at_once = encodes
encodes_later config source source' sink sink' (status.ConfigRefused fault) encodes at_once = encodes
encodes_later config source source' sink sink' status.ConfigRead encodes at_once = at_once
encodes_later config source source' sink sink' (status.ScriptRefused line) encodes at_once = at_once
encodes_later config source source' sink sink' status.NoCrew encodes at_once = at_once
encodes_later config source source' sink sink' status.Ok encodes at_once = at_once
encodes_later config source source' sink sink' status.ReadFault encodes at_once = at_once
encodes_later config source source' sink sink' status.WriteFault encodes at_once = at_once
encodes_later config source source' sink sink' status.NoMemory encodes at_once = at_once
encodes_later config source source' sink sink' status.InputLong encodes at_once = at_once

-- nor is it one of a file that isn't read
pub encodes_read : (config : Sections) (source source' : SourceSeen) (sink sink' : SinkSeen) (ends : Status)
    → Encodes config source source' sink sink' ends → ends ≡ status.ConfigRead → ⊥
encodes_read config source source' sink sink' ends encodes is =
    subst (λ (now : Status). Encodes config source source' sink sink' now) is encodes

pub heard_read : (config : Sections) (source source' : SourceSeen) (sink sink' : SinkSeen) (ends : Status)
    → EncodesHeard config source source' sink sink' ends → ends ≡ status.ConfigRead → ⊥
heard_read config source source' sink sink' ends (inl (none, refused, unread, unwritten)) is =
    let apart : status.ConfigRefused no_process ≡ status.ConfigRead = sym refused ∙ is in absurd (cc)
heard_read config source source' sink sink' ends (inr (heard, encodes)) is =
    encodes_read config source source' sink sink' ends encodes is

-- a file that gave no configuration, by the status
pub unread_encodes : (content : Option (List ℕ → List ℕ)) (path : List ℕ) (source : SourceSeen) (sink : SinkSeen)
    (files files' : ℕ) (slots : Slots) (ends : Status) → AreTextSlots slots → IsUnread content path slots ends
    → (ends ≡ status.ConfigRead → CountsOne files files') → (¬ (ends ≡ status.ConfigRead) → files' ≡ files)
    → EncodesFile content path source source sink sink files files' ends
unread_encodes content path source sink files files' slots ends are unread counts same = inl (record {
  slots = slots;
  slots_are = are;
  unread = inl unread;
  source_same = refl;
  sink_same = refl;
  counts = counts_unread files files' ends counts same;
})

-- lines that were encoded over the configuration of a file, if it has a process
pub heard_encodes : (content : Option (List ℕ → List ℕ)) (path : List ℕ) (source source' : SourceSeen)
    (sink sink' : SinkSeen) (files files' : ℕ) (slots : Slots) (config : Sections) (ends : Status) → AreTextSlots slots
    → IsConfigAt content path slots config → files' ≡ files → EncodesHeard config source source' sink sink' ends
    → EncodesFile content path source source' sink sink' files files' ends
heard_encodes content path source source' sink sink' files files' slots config ends are at same
    (inl (none, refused, unread, unwritten)) = inl (record {
      slots = slots;
      slots_are = are;
      unread = inr ((config, at, none), refused);
      source_same = unread;
      sink_same = unwritten;
      counts = counts_unread files files' ends
          (λ is. absurd (heard_read config source source' sink sink' ends (inl (none, refused, unread, unwritten)) is))
          (λ other. same);
    })
heard_encodes content path source source' sink sink' files files' slots config ends are at same (inr (heard, encodes)) =
    inr (record { config = config; heard = (slots, are, at, heard); encodes = encodes; unopened = same })

-- ---- what words spell

same_path : (one other : List ℕ) → codes "encode" ∷ one ∷ [] ≡ codes "encode" ∷ other ∷ [] → one ≡ other
same_path one other same = cc

-- the command that is spelled encodes over what the words name
pub encodes_named : (content : Option (List ℕ → List ℕ)) (words : List (List ℕ)) (command : TextCommand)
    (path : List ℕ) (source source' : SourceSeen) (sink sink' : SinkSeen) (files files' : ℕ) (ends : Status)
    → IsCommand words command → words ≡ codes "encode" ∷ path ∷ []
    → EncodesIts content command source source' sink sink' files files' ends
    → EncodesFile content path source source' sink sink' files files' ends
encodes_named content words (Encode p) path source source' sink sink' files files' ends is named encodes =
    subst (λ (at : List ℕ). EncodesFile content at source source' sink sink' files files' ends)
    (same_path p.now path (sym is ∙ named)) encodes
encodes_named content words (EncodePlain e) path source source' sink sink' files files' ends is named encodes =
    let longer : 4 ≡ 2 = ap length (sym is.words_are ∙ named) in absurd (omega (arith, longer))
encodes_named content words (Check p) path source source' sink sink' files files' ends is named encodes =
    let letter : 99 ≡ 101 = same_letter _ _ (sym is ∙ named) in absurd (omega (arith, letter))
encodes_named content words (Play p) path source source' sink sink' files files' ends is named encodes =
    let letter : 112 ≡ 101 = same_letter _ _ (sym is ∙ named) in absurd (omega (arith, letter))
encodes_named content words (Load count) path source source' sink sink' files files' ends is named encodes =
    let letter : 108 ≡ 101 = same_letter _ _ (sym is.0 ∙ named) in absurd (omega (arith, letter))
encodes_named content words Parse path source source' sink sink' files files' ends is named encodes =
    let longer : 1 ≡ 2 = ap length (sym is ∙ named) in absurd (omega (arith, longer))
encodes_named content words (Decode caps) path source source' sink sink' files files' ends is named encodes =
    let letter : 100 ≡ 101 = same_letter _ _ (sym is.1 ∙ named) in absurd (omega (arith, letter))
encodes_named content words Help path source source' sink sink' files files' ends is named encodes =
    let longer : 1 ≡ 2 = ap length (sym is ∙ named) in absurd (omega (arith, longer))
encodes_named content words Version path source source' sink sink' files files' ends is named encodes =
    let longer : 1 ≡ 2 = ap length (sym is ∙ named) in absurd (omega (arith, longer))

-- words spell one session
asn_same : (text text' : List ℕ) (one other : ℕ) → text ≡ text' → IsAsn text one → IsAsn text' other → one ≡ other
asn_same text text' one other same is is' =
    asn_one text one other is (subst (λ (now : List ℕ). IsAsn now other) (sym same) is')

ipv4_same : (text text' : List ℕ) (one other : ℕ) → text ≡ text' → IsIpv4 text one → IsIpv4 text' other → one ≡ other
ipv4_same text text' one other same is is' =
    ipv4_one text one other is (subst (λ (now : List ℕ). IsIpv4 now other) (sym same) is')

plain_same : (a b c a' b' c' : ℕ) → a ≡ a' → b ≡ b' → c ≡ c' → plain_sections a b c ≡ plain_sections a' b' c'
plain_same a b c a' b' c' first second third = cc

session_same : (words : List (List ℕ)) (one other : Ends) → IsEncode words one → IsEncode words other
    → plain_of one ≡ plain_of other
session_same words one other is is' =
    let same = sym is.words_are ∙ is'.words_are in
    plain_same one.local_as one.peer_as one.local other.local_as other.peer_as other.local
    (asn_same is.local_as is'.local_as one.local_as other.local_as (local_as_is _ _ _ _ _ _ same) is.local_as_is
    is'.local_as_is)
    (asn_same is.peer_as is'.peer_as one.peer_as other.peer_as (peer_as_is _ _ _ _ _ _ same) is.peer_as_is
    is'.peer_as_is)
    (ipv4_same is.local is'.local one.local other.local (local_is _ _ _ _ _ _ same) is.local_is is'.local_is)

-- the command that is spelled encodes for the session that the words spell
pub encodes_spelled : (content : Option (List ℕ → List ℕ)) (words : List (List ℕ)) (command : TextCommand)
    (session : Ends) (source source' : SourceSeen) (sink sink' : SinkSeen) (files files' : ℕ) (ends : Status)
    → IsCommand words command → IsEncode words session
    → EncodesIts content command source source' sink sink' files files' ends
    → Encodes (plain_of session) source source' sink sink' ends
encodes_spelled content words (EncodePlain e) session source source' sink sink' files files' ends is spells encodes =
    subst (λ (now : Sections). Encodes now source source' sink sink' ends) (session_same words e session is spells)
    encodes
encodes_spelled content words (Encode p) session source source' sink sink' files files' ends is spells encodes =
    let longer : 2 ≡ 4 = ap length (sym is ∙ spells.words_are) in absurd (omega (arith, longer))
encodes_spelled content words (Check p) session source source' sink sink' files files' ends is spells encodes =
    let longer : 2 ≡ 4 = ap length (sym is ∙ spells.words_are) in absurd (omega (arith, longer))
encodes_spelled content words (Play p) session source source' sink sink' files files' ends is spells encodes =
    let longer : 2 ≡ 4 = ap length (sym is ∙ spells.words_are) in absurd (omega (arith, longer))
encodes_spelled content words (Load count) session source source' sink sink' files files' ends is spells encodes =
    let longer : 2 ≡ 4 = ap length (sym is.0 ∙ spells.words_are) in absurd (omega (arith, longer))
encodes_spelled content words Parse session source source' sink sink' files files' ends is spells encodes =
    let longer : 1 ≡ 4 = ap length (sym is ∙ spells.words_are) in absurd (omega (arith, longer))
encodes_spelled content words (Decode caps) session source source' sink sink' files files' ends is spells encodes =
    let letter : 100 ≡ 101 = same_letter _ _ (sym is.1 ∙ spells.words_are) in absurd (omega (arith, letter))
encodes_spelled content words Help session source source' sink sink' files files' ends is spells encodes =
    let longer : 1 ≡ 4 = ap length (sym is ∙ spells.words_are) in absurd (omega (arith, longer))
encodes_spelled content words Version session source source' sink sink' files files' ends is spells encodes =
    let longer : 1 ≡ 4 = ap length (sym is ∙ spells.words_are) in absurd (omega (arith, longer))

-- words that spell `encode` with a path spell a command
pub encode_named : (words : List (Bor (List ℕ))) (path : List ℕ)
    → map (λ w. w.now) words ≡ codes "encode" ∷ path ∷ []
    → (command : TextCommand) × IsCommand (map (λ w. w.now) words) command
encode_named [] path named = let longer : 0 ≡ 2 = ap length named in absurd (omega (arith, longer))
encode_named (name ∷ []) path named = let longer : 1 ≡ 2 = ap length named in absurd (omega (arith, longer))
encode_named (name ∷ operand ∷ []) path named = (Encode operand, cc)
encode_named (name ∷ operand ∷ other ∷ more) path named =
    let longer : suc (suc (suc (length (map (λ w. w.now) more)))) ≡ 2 = ap length named in
    absurd (omega (arith, longer))
