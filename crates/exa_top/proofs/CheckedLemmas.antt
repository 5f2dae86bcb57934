-- What `check` shows of its devices, by how it ended.
use Rattle.std.proofs.Common.{ℕ, ◌≡◌, List, [], Option, refl, subst}
use Rattle.config_model.specs.declared.fault.ConfigFault.{ConfigFault}
use Rattle.config_model.specs.declared.slots.Slots.{Slots}
use Rattle.outside.specs.Seen.{SourceSeen, SinkSeen}
use Rattle.script_play.specs.declared.status.Status.{Status}
use Rattle.script_play.specs.declared.status.Status.TheVariants as status
use Rattle.exa_top.specs.declared.words.TextCommand.{TextCommand}
use Rattle.text_history.specs.Configured.{IsFaultAt}
use Rattle.script_play.specs.Status.{IsUnread}
use Rattle.exa_top.specs.declared.words.TextCommand.TheVariants.{Encode, EncodePlain, Check, Play, Load, Parse, Decode}
use Rattle.exa_top.specs.declared.words.TextCommand.TheVariants.{Help, Version}
use Rattle.exa_top.specs.Top.{Answered, EndsAtOnce, IsPartOutput, IsRefusedFor, NamesFile, ReadsPart}
use Rattle.exa_top.proofs.AnsweredLemmas.{nothing_written, read_none, untouched_is_few}

-- a command whose file gave no configuration
pub unread_stopped : (content : Option (List ℕ → List ℕ)) (command : TextCommand) (source : SourceSeen)
    (sink : SinkSeen) (late path : List ℕ) (slots : Slots) (ends : Status) → NamesFile command
    → ReadsPart command source source [] → IsPartOutput content command [] [] late
    → ((fault : ConfigFault) → IsFaultAt content path slots fault → IsRefusedFor content command fault)
    → IsUnread content path slots ends → Answered content command source source sink sink ends
unread_stopped content command source sink late path slots status.ConfigRead names part outcome refuses unread =
    record {
      spelled = λ is. absurd (cc);
      crew = λ is. absurd (cc);
      ok = λ is. absurd (cc);
      broke = λ other. nothing_written content command source source sink [] [] late part outcome;
      unread = λ is. names;
      refused = λ fault is. absurd (cc);
      bad = λ line is. absurd (cc);
      read = λ is. absurd (cc);
      read_same = λ other. refl;
      write = λ is. absurd (cc);
      write_same = λ other. refl;
      late = λ is. absurd is;
      reads = λ is. absurd (cc);
      long = λ is. absurd (cc);
      over = λ from. absurd (untouched_is_few source source [] (read_none source) from);
    }
unread_stopped content command source sink late path slots (status.ConfigRefused first) names part outcome refuses
    unread =
    record {
      spelled = λ is. absurd (cc);
      crew = λ is. absurd (cc);
      ok = λ is. absurd (cc);
      broke = λ other. nothing_written content command source source sink [] [] late part outcome;
      unread = λ is. absurd (cc);
      refused = λ fault is.
          let same : first ≡ fault = cc in
          refuses fault (subst (IsFaultAt content path slots) same unread);
      bad = λ line is. absurd (cc);
      read = λ is. absurd (cc);
      read_same = λ other. refl;
      write = λ is. absurd (cc);
      write_same = λ other. refl;
      late = λ is. absurd is;
      reads = λ is. absurd (cc);
      long = λ is. absurd (cc);
      over = λ from. absurd (untouched_is_few source source [] (read_none source) from);
    }
unread_stopped content command source sink late path slots status.NoMemory names part outcome refuses unread =
    record {
      spelled = λ is. absurd (cc);
      crew = λ is. absurd (cc);
      ok = λ is. absurd (cc);
      broke = λ other. nothing_written content command source source sink [] [] late part outcome;
      unread = λ is. absurd (cc);
      refused = λ fault is. absurd (cc);
      bad = λ line is. absurd (cc);
      read = λ is. absurd (cc);
      read_same = λ other. refl;
      write = λ is. absurd (cc);
      write_same = λ other. refl;
      late = λ is. absurd is;
      reads = λ is. absurd (cc);
      long = λ is. absurd (cc);
      over = λ from. absurd (untouched_is_few source source [] (read_none source) from);
    }
unread_stopped content command source sink late path slots status.Ok names part outcome refuses unread = absurd unread
unread_stopped content command source sink late path slots status.Usage names part outcome refuses unread =
    absurd unread
unread_stopped content command source sink late path slots (status.ScriptRefused line) names part outcome refuses
    unread = absurd unread
unread_stopped content command source sink late path slots status.NoCrew names part outcome refuses unread =
    absurd unread
unread_stopped content command source sink late path slots status.ReadFault names part outcome refuses unread =
    absurd unread
unread_stopped content command source sink late path slots status.WriteFault names part outcome refuses unread =
    absurd unread
unread_stopped content command source sink late path slots status.InputLong names part outcome refuses unread =
    absurd unread

-- a command that a fault is told of names a file
pub refused_names : (content : Option (List ℕ → List ℕ)) (command : TextCommand) (fault : ConfigFault)
    → IsRefusedFor content command fault → NamesFile command
refused_names content (Encode path) fault refused = tt
refused_names content (EncodePlain ends) fault refused = refused
refused_names content (Check path) fault refused = tt
refused_names content (Play path) fault refused = tt
refused_names content (Load count) fault refused = refused
refused_names content Parse fault refused = refused
refused_names content (Decode caps) fault refused = refused
refused_names content Help fault refused = refused
refused_names content Version fault refused = refused

-- a command that names no file reads its input or writes
pub ends_later : (content : Option (List ℕ → List ℕ)) (command : TextCommand) (source source' : SourceSeen)
    (sink sink' : SinkSeen) (ends : Status) → Answered content command source source' sink sink' ends
    → (NamesFile command → ⊥) → EndsAtOnce ends → ⊥
ends_later content command source source' sink sink' status.Usage answered nameless at_once = answered.spelled refl
ends_later content command source source' sink sink' (status.ConfigRefused fault) answered nameless at_once =
    nameless (refused_names content command fault (answered.refused fault refl))
ends_later content command source source' sink sink' status.ConfigRead answered nameless at_once = at_once
ends_later content command source source' sink sink' (status.ScriptRefused line) answered nameless at_once = at_once
ends_later content command source source' sink sink' status.NoCrew answered nameless at_once = at_once
ends_later content command source source' sink sink' status.Ok answered nameless at_once = at_once
ends_later content command source source' sink sink' status.ReadFault answered nameless at_once = at_once
ends_later content command source source' sink sink' status.WriteFault answered nameless at_once = at_once
ends_later content command source source' sink sink' status.NoMemory answered nameless at_once = at_once
ends_later content command source source' sink sink' status.InputLong answered nameless at_once = at_once
