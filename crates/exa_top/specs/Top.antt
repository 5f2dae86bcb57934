-- What a text command does to its input and its output, and what it takes from files. Each device is seen before a call
-- and after it; what is seen after the call has a prime. Of files the content by path is seen, where it is told.
use Rattle.std.specs.Prelude.{ℕ, ◌≡◌, ◌⊎◌, ◌+◌, ◌^◌, ◌<◌, ◌≤◌, codes, true, List, [], ◌++◌, length, ⊤}
use Rattle.std.specs.declared.option.Option.{Option}
use Rattle.std.specs.declared.option.Option.TheVariants.{Some, None}
use Rattle.outside.specs.Seen.{SourceSeen, SinkSeen}
use Rattle.config_model.specs.declared.fault.ConfigFault.{ConfigFault}
use Rattle.config_model.specs.declared.slots.Slots.{Slots}
use Rattle.config_model.specs.Sections.{Sections}
use Rattle.config_reader.specs.Files.{Configures, IsFirstFault}
use Rattle.outside.specs.Told.{Grows, Shrinks, AreLeft, AreLeftFrom, CountsOne}
use Rattle.script_play.specs.Encoding.{Encodes}
use Rattle.script_play.specs.Loads.{max_routes}
use Rattle.script_play.specs.declared.status.Status.{Status}
use Rattle.script_play.specs.declared.status.Status.TheVariants as status
use Rattle.exa_top.specs.declared.words.TextCommand.{TextCommand}
use Rattle.exa_top.specs.declared.words.TextCommand.TheVariants.{Encode, EncodePlain, Check, Play, Load, Parse, Decode}
use Rattle.exa_top.specs.declared.words.TextCommand.TheVariants.{Help, Version}
use Rattle.text_history.specs.Configured.{AreTextSlots, IsConfigAt, IsFaultAt}
use Rattle.exa_top.specs.Encoded.{EncodesFile, IsEncoded, IsEncodedAtMost, IsEncodedPart, IsHeardAt, IsToldHeard}
use Rattle.exa_top.specs.Encoded.{IsToldUnheard, IsUnheardAt, no_process, plain_of}
use Rattle.exa_top.specs.Loaded.{IsLoaded}
use Rattle.exa_top.specs.Parsing.{IsParsing}
use Rattle.exa_top.specs.Played.{IsBadScript, IsPlayed, IsPlayedPart, IsToldScript, PlaysFile}
use Rattle.exa_top.specs.Words.{IsCommand}
use Rattle.message_decoder.specs.Decoding.{IsDecoding}
use Rattle.message_decoder.specs.Streams.{AreEnded}

-- how many bytes of input are too many
abbrev pub input_limit : ℕ
input_limit = 2 ^ 40

-- what `--version` writes
abbrev pub version_text : List ℕ
version_text = codes "exabgpd 0.1.0\n"

-- what `check` writes
abbrev pub checked_text : List ℕ
checked_text = codes "ok\n"

-- what `--help` writes
abbrev pub help_text : List ℕ
help_text =
    codes "usage: exabgpd run CONFIG\n" ++ codes "           runs the daemon\n"
    ++ codes "       exabgpd encode CONFIG\n" ++ codes "       exabgpd encode LOCAL_AS PEER_AS LOCAL_IP\n"
    ++ codes "           reads a helper's lines, writes replies, and UPDATE messages at their end\n"
    ++ codes "       exabgpd check CONFIG\n"
    ++ codes "           reads a configuration file, writes ok or says what its first fault is\n"
    ++ codes "       exabgpd play CONFIG\n"
    ++ codes "           reads a script of events, writes what each is answered\n"
    ++ codes "       exabgpd load COUNT\n"
    ++ codes "           announces so many routes, withdraws each second one, writes nine counts\n"
    ++ codes "       exabgpd parse\n"
    ++ codes "           reads command lines, writes for each whether it reads or where its first fault is\n"
    ++ codes "       exabgpd decode CAP ..\n"
    ++ codes "           reads UPDATE messages in hexadecimal, writes command lines that say the same\n"
    ++ codes "       exabgpd healthcheck FILE\n"
    ++ codes "           as a helper, announces prefixes while a check program succeeds\n"
    ++ codes "       exabgpd --help\n" ++ codes "           writes this text\n"
    ++ codes "       exabgpd --version\n" ++ codes "           writes the name and the version\n"

-- The output that belongs to a command and what it read: what may be written while that is read, and what only after
-- its end. Replies to lines come early, and the messages late, and so do the line of `check` and the counts of `load`.
-- What `decode` and `play` write comes as early as the lines that it belongs to.
abbrev pub IsOutput : Option (List ℕ → List ℕ) → TextCommand → List ℕ → List ℕ → List ℕ → Type 0
IsOutput content (Encode path) input early late =
    (config : Sections) × IsHeardAt content path.now config × IsEncoded config input early late
IsOutput content (EncodePlain ends) input early late = IsEncoded (plain_of ends) input early late
IsOutput content (Check path) input early late = (early ≡ []) × (late ≡ checked_text)
IsOutput content (Play path) input early late = IsPlayed content path.now input early × (late ≡ [])
IsOutput content (Load count) input early late = (early ≡ []) × IsLoaded count late
IsOutput content Parse input early late = IsParsing input early × (late ≡ [])
IsOutput content (Decode caps) input early late = IsDecoding caps input early × (late ≡ [])
IsOutput content Help input early late = (early ≡ help_text) × (late ≡ [])
IsOutput content Version input early late = (early ≡ version_text) × (late ≡ [])

-- The output of a command that didn't come to its end. A script may be refused at a line, and then no output belongs to
-- the whole of it; a load may find no memory, and then nothing is told of it; of a helper's lines the front may have
-- been answered, or nothing, where the book isn't opened.
abbrev pub IsPartOutput : Option (List ℕ → List ℕ) → TextCommand → List ℕ → List ℕ → List ℕ → Type 0
IsPartOutput content (Encode path) input early late =
    ((early ≡ []) × (late ≡ []))
    ⊎ ((config : Sections) × IsHeardAt content path.now config × IsEncodedPart config input early late)
IsPartOutput content (EncodePlain ends) input early late = IsEncodedAtMost (plain_of ends) input early late
IsPartOutput content (Play path) input early late = IsPlayedPart content path.now input early × (late ≡ [])
IsPartOutput content (Load count) input early late = (early ≡ []) × ((late ≡ []) ⊎ IsLoaded count late)
IsPartOutput content command input early late = IsOutput content command input early late

-- the file that a command names, if it names one, is a configuration for the slots of a text command; that of `encode`
-- has a process
abbrev pub IsConfigured : Option (List ℕ → List ℕ) → TextCommand → Type 0
IsConfigured content (Encode path) = (config : Sections) × IsHeardAt content path.now config
IsConfigured content (Check path) =
    (slots : Slots) × AreTextSlots slots × (config : Sections) × IsConfigAt content path.now slots config
IsConfigured content (Play path) =
    (slots : Slots) × AreTextSlots slots × (config : Sections) × IsConfigAt content path.now slots config
IsConfigured content _ = ⊤

-- a command names a file, whose bytes have this first fault; or it is `encode`, and they are a configuration without a
-- process
abbrev pub IsRefusedFor : Option (List ℕ → List ℕ) → TextCommand → ConfigFault → Type 0
IsRefusedFor content (Encode path) fault =
    (slots : Slots) × AreTextSlots slots
    × (IsFaultAt content path.now slots fault ⊎ (IsUnheardAt content path.now slots × (fault ≡ no_process)))
IsRefusedFor content (Check path) fault =
    (slots : Slots) × AreTextSlots slots × IsFaultAt content path.now slots fault
IsRefusedFor content (Play path) fault =
    (slots : Slots) × AreTextSlots slots × IsFaultAt content path.now slots fault
IsRefusedFor content _ fault = ⊥

-- the content of a path is told, and is a configuration for the slots of a text command
abbrev pub IsToldConfig : Option (List ℕ → List ℕ) → List ℕ → Type 0
IsToldConfig None path = ⊥
IsToldConfig (Some content) path =
    (slots : Slots) → AreTextSlots slots → (config : Sections) × Configures (content path) slots config

-- the same of the file that a command names, if it names one
abbrev pub HasConfig : Option (List ℕ → List ℕ) → TextCommand → Type 0
HasConfig content (Encode path) = IsToldHeard content path.now
HasConfig content (Check path) = IsToldConfig content path.now
HasConfig content (Play path) = IsToldConfig content path.now
HasConfig content _ = ⊤

-- the content of a path is told, and has this first fault
abbrev pub IsToldFault : Option (List ℕ → List ℕ) → List ℕ → ConfigFault → Type 0
IsToldFault None path fault = ⊥
IsToldFault (Some content) path fault =
    (slots : Slots) → AreTextSlots slots → IsFirstFault (content path) slots fault

-- the same of the file that a command names
abbrev pub HasFault : Option (List ℕ → List ℕ) → TextCommand → ConfigFault → Type 0
HasFault content (Encode path) fault =
    IsToldFault content path.now fault ⊎ (IsToldUnheard content path.now × (fault ≡ no_process))
HasFault content (Check path) fault = IsToldFault content path.now fault
HasFault content (Play path) fault = IsToldFault content path.now fault
HasFault content _ fault = ⊥

-- a command names a file
abbrev pub NamesFile : TextCommand → Type 0
NamesFile (Encode path) = ⊤
NamesFile (Check path) = ⊤
NamesFile (Play path) = ⊤
NamesFile _ = ⊥

-- a command reads its input
abbrev pub ReadsInput : TextCommand → Type 0
ReadsInput (Encode path) = ⊤
ReadsInput (EncodePlain ends) = ⊤
ReadsInput (Play path) = ⊤
ReadsInput Parse = ⊤
ReadsInput (Decode caps) = ⊤
ReadsInput _ = ⊥

-- a command plays a script
abbrev pub PlaysScript : TextCommand → Type 0
PlaysScript (Play path) = ⊤
PlaysScript _ = ⊥

-- what a source has left is a script with a line that is none
abbrev pub HasBadLine : Option (List ℕ → List ℕ) → TextCommand → Option (List ℕ) → Type 0
HasBadLine content (Play path) left = IsBadScript content path.now left
HasBadLine content _ left = ⊥

-- the script that a command reads, if it reads one, is told and has no such line
abbrev pub HasScript : Option (List ℕ → List ℕ) → TextCommand → Option (List ℕ) → Type 0
HasScript content (Play path) left = IsToldScript content path.now left
HasScript content _ left = ⊤

-- A source was read to its end, which came before the limit. Where it told what it had left, this was all of it.
pub record ReadToEnd (source source' : SourceSeen) (bytes : List ℕ) : Type 0 where
  pub given : Grows source.given source'.given bytes
  pub left : Shrinks source.left source'.left bytes
  pub whole : AreLeft source.left bytes
  pub short : length bytes < input_limit
  pub ended : source'.ended ≡ true

-- a source gave some bytes, no more than the limit
pub record ReadPart (source source' : SourceSeen) (bytes : List ℕ) : Type 0 where
  pub given : Grows source.given source'.given bytes
  pub left : Shrinks source.left source'.left bytes
  pub short : length bytes ≤ input_limit

-- A source gave some bytes, no more than the limit, and these are the front of them. They end with a line feed, unless
-- the source has met its end and they are all.
pub record ReadFront (source source' : SourceSeen) (front : List ℕ) : Type 0 where
  pub bytes : List ℕ
  pub behind : List ℕ
  pub bytes_are : bytes ≡ front ++ behind
  pub closed : AreEnded front ⊎ ((source'.ended ≡ true) × (behind ≡ []))
  pub read : ReadPart source source' bytes

-- a source was left as it was
pub record ReadNothing (source source' : SourceSeen) (bytes : List ℕ) : Type 0 where
  pub same : source' ≡ source
  pub none : bytes ≡ []

-- what a command reads that ends well: `encode`, `check` and `play` their file, and all but `check`, `load`, `--help`
-- and `--version` the whole of their input
abbrev pub ReadsWhole : Option (List ℕ → List ℕ) → TextCommand → SourceSeen → SourceSeen → List ℕ → Type 0
ReadsWhole content (Encode path) source source' bytes =
    ReadToEnd source source' bytes × IsConfigured content (Encode path)
ReadsWhole content (EncodePlain ends) source source' bytes = ReadToEnd source source' bytes
ReadsWhole content (Check path) source source' bytes =
    ReadNothing source source' bytes × IsConfigured content (Check path)
ReadsWhole content (Play path) source source' bytes =
    ReadToEnd source source' bytes × IsConfigured content (Play path)
ReadsWhole content (Load count) source source' bytes = ReadNothing source source' bytes
ReadsWhole content Parse source source' bytes = ReadToEnd source source' bytes
ReadsWhole content (Decode caps) source source' bytes = ReadToEnd source source' bytes
ReadsWhole content Help source source' bytes = ReadNothing source source' bytes
ReadsWhole content Version source source' bytes = ReadNothing source source' bytes

-- What a command may have read of its input that ends in another way. `decode` may have read more than what its output
-- belongs to: the last line isn't answered before its end is known.
abbrev pub ReadsPart : TextCommand → SourceSeen → SourceSeen → List ℕ → Type 0
ReadsPart (Encode path) source source' bytes = ReadPart source source' bytes
ReadsPart (EncodePlain ends) source source' bytes = ReadPart source source' bytes
ReadsPart (Check path) source source' bytes = ReadNothing source source' bytes
ReadsPart (Play path) source source' bytes = ReadPart source source' bytes
ReadsPart (Load count) source source' bytes = ReadNothing source source' bytes
ReadsPart Parse source source' bytes = ReadPart source source' bytes
ReadsPart (Decode caps) source source' bytes = ReadFront source source' bytes
ReadsPart Help source source' bytes = ReadNothing source source' bytes
ReadsPart Version source source' bytes = ReadNothing source source' bytes

-- a command read all that it reads and wrote the whole output that belongs to it
pub record Ran (content : Option (List ℕ → List ℕ)) (command : TextCommand) (source source' : SourceSeen)
    (sink sink' : SinkSeen) : Type 0 where
  pub input : List ℕ
  pub early : List ℕ
  pub late : List ℕ
  pub read : ReadsWhole content command source source' input
  pub outcome : IsOutput content command input early late
  pub written : Grows sink.taken sink'.taken (early ++ late)

-- A command read a part of its input and wrote a front part of the output that belongs to what it read. It wrote more
-- than what may be written early only where it read all that it reads.
pub record Broke (content : Option (List ℕ → List ℕ)) (command : TextCommand) (source source' : SourceSeen)
    (sink sink' : SinkSeen) : Type 0 where
  pub input : List ℕ
  pub early : List ℕ
  pub late : List ℕ
  pub part : List ℕ
  pub read : ReadsPart command source source' input
  pub outcome : IsPartOutput content command input early late
  pub front : (rest : List ℕ) × (early ++ late ≡ part ++ rest)
  pub written : Grows sink.taken sink'.taken part
  pub past : length early < length part → ReadsWhole content command source source' input

-- a source gave as many bytes as the limit, had as many left, and didn't end
pub record GaveLimit (limit : ℕ) (source source' : SourceSeen) : Type 0 where
  pub bytes : List ℕ
  pub given : Grows source.given source'.given bytes
  pub full : length bytes ≡ limit
  pub left : AreLeftFrom source.left limit
  pub unended : source'.ended ≡ source.ended

-- the bytes given are told, and have grown by so many or more
abbrev pub GaveFrom : ℕ → Option (List ℕ) → Option (List ℕ) → Type 0
GaveFrom limit None now = ⊥
GaveFrom limit (Some was) None = ⊥
GaveFrom limit (Some was) (Some now) = length was + limit ≤ length now

-- how a command ends that was given as many bytes as the limit
abbrev pub IsOverrun : Status → Type 0
IsOverrun ends = (ends ≡ status.InputLong) ⊎ (ends ≡ status.ReadFault) ⊎ (ends ≡ status.NoMemory)

-- a command ends so only before it reads its input and writes
abbrev pub EndsAtOnce : Status → Type 0
EndsAtOnce status.Usage = ⊤
EndsAtOnce (status.ConfigRefused fault) = ⊤
EndsAtOnce _ = ⊥

-- a command ends so only behind its file, if it names one
abbrev pub EndsLate : Status → Type 0
EndsLate (status.ScriptRefused line) = ⊤
EndsLate status.ReadFault = ⊤
EndsLate status.WriteFault = ⊤
EndsLate status.InputLong = ⊤
EndsLate _ = ⊥

-- the status of a command that was run, and what its devices then show
pub record Answered (content : Option (List ℕ → List ℕ)) (command : TextCommand) (source source' : SourceSeen)
    (sink sink' : SinkSeen) (ends : Status) : Type 0 where
  pub spelled : ¬ (ends ≡ status.Usage)
  pub crew : ¬ (ends ≡ status.NoCrew)
  pub ok : ends ≡ status.Ok → Ran content command source source' sink sink'
  pub broke : ¬ (ends ≡ status.Ok) → Broke content command source source' sink sink'
  pub unread : ends ≡ status.ConfigRead → NamesFile command
  pub refused : (fault : ConfigFault) → ends ≡ status.ConfigRefused fault → IsRefusedFor content command fault
  pub bad : (line : ℕ) → ends ≡ status.ScriptRefused line → HasBadLine content command source.left
  pub read : ends ≡ status.ReadFault → CountsOne source.faults source'.faults
  pub read_same : ¬ (ends ≡ status.ReadFault) → source'.faults ≡ source.faults
  pub write : ends ≡ status.WriteFault → CountsOne sink.faults sink'.faults
  pub write_same : ¬ (ends ≡ status.WriteFault) → sink'.faults ≡ sink.faults
  pub late : EndsLate ends → IsConfigured content command
  pub reads : ends ≡ status.InputLong → ReadsInput command
  pub long : ends ≡ status.InputLong → GaveLimit input_limit source source'
  pub over : GaveFrom input_limit source.given source'.given → IsOverrun ends

-- the words spell a command, which read all that it reads and wrote its whole output
abbrev pub Finished :
    List (List ℕ) → Option (List ℕ → List ℕ) → SourceSeen → SourceSeen → SinkSeen → SinkSeen → Type 0
Finished words content source source' sink sink' =
    (command : TextCommand) × IsCommand words command × Ran content command source source' sink sink'

-- the words spell a command, which read a part of its input and wrote a front part of its output
abbrev pub Began :
    List (List ℕ) → Option (List ℕ → List ℕ) → SourceSeen → SourceSeen → SinkSeen → SinkSeen → Type 0
Began words content source source' sink sink' =
    (command : TextCommand) × IsCommand words command × Broke content command source source' sink sink'

-- the words spell a command that names a file, whose bytes have this first fault
abbrev pub Refuses : List (List ℕ) → Option (List ℕ → List ℕ) → ConfigFault → Type 0
Refuses words content fault =
    (command : TextCommand) × IsCommand words command × IsRefusedFor content command fault

-- the words spell a command that names a file
abbrev pub NameFile : List (List ℕ) → Type 0
NameFile words = (command : TextCommand) × IsCommand words command × NamesFile command

-- the file of any command that the words spell, if it names one, is told and is a configuration
abbrev pub HaveConfig : List (List ℕ) → Option (List ℕ → List ℕ) → Type 0
HaveConfig words content = (command : TextCommand) → IsCommand words command → HasConfig content command

-- any command that the words spell names a file that is told and has this first fault
abbrev pub HaveFault : List (List ℕ) → Option (List ℕ → List ℕ) → ConfigFault → Type 0
HaveFault words content fault = (command : TextCommand) → IsCommand words command → HasFault content command fault

-- the words spell a command that reads its input
abbrev pub ReadInput : List (List ℕ) → Type 0
ReadInput words = (command : TextCommand) × IsCommand words command × ReadsInput command

-- the words spell a command whose file, if it names one, is a configuration
abbrev pub AreConfigured : List (List ℕ) → Option (List ℕ → List ℕ) → Type 0
AreConfigured words content = (command : TextCommand) × IsCommand words command × IsConfigured content command

-- the words spell a command that plays a script
abbrev pub PlayScript : List (List ℕ) → Type 0
PlayScript words = (command : TextCommand) × IsCommand words command × PlaysScript command

-- the script of any command that the words spell, if it reads one, is told and has no line that is none
abbrev pub HaveScript : List (List ℕ) → Option (List ℕ → List ℕ) → Option (List ℕ) → Type 0
HaveScript words content left = (command : TextCommand) → IsCommand words command → HasScript content command left

-- a command asks for no more routes than a load has at most
abbrev pub IsBounded : TextCommand → Type 0
IsBounded (Load count) = count ≤ max_routes
IsBounded _ = ⊤

-- what a command leaves that plays a script
abbrev pub PlaysIts : Option (List ℕ → List ℕ) → TextCommand → SourceSeen → SourceSeen → SinkSeen → SinkSeen → ℕ → ℕ
    → Status → Type 0
PlaysIts content (Play path) source source' sink sink' files files' ends =
    PlaysFile content path.now source source' sink sink' files files' ends
PlaysIts content _ source source' sink sink' files files' ends = ⊤

-- what a command leaves that encodes a helper's lines
abbrev pub EncodesIts : Option (List ℕ → List ℕ) → TextCommand → SourceSeen → SourceSeen → SinkSeen → SinkSeen → ℕ → ℕ
    → Status → Type 0
EncodesIts content (Encode path) source source' sink sink' files files' ends =
    EncodesFile content path.now source source' sink sink' files files' ends
EncodesIts content (EncodePlain ends_of) source source' sink sink' files files' ends =
    Encodes (plain_of ends_of) source source' sink sink' ends
EncodesIts content _ source source' sink sink' files files' ends = ⊤

-- a source tells what it has left, and that is fewer bytes than the limit
abbrev pub IsLeftShort : ℕ → Option (List ℕ) → Type 0
IsLeftShort limit None = ⊥
IsLeftShort limit (Some rest) = length rest < limit

-- a sink took the front of a text
abbrev pub TookPart : Option (List ℕ) → Option (List ℕ) → List ℕ → Type 0
TookPart taken taken' text = (part : List ℕ) × (rest : List ℕ) × (text ≡ part ++ rest) × Grows taken taken' part

-- a text was written whole, or its front, and then the sink failed
abbrev pub Wrote : List ℕ → SinkSeen → SinkSeen → Status → Type 0
Wrote text sink sink' status.Ok = Grows sink.taken sink'.taken text × (sink'.faults ≡ sink.faults)
Wrote text sink sink' status.WriteFault = TookPart sink.taken sink'.taken text × CountsOne sink.faults sink'.faults
Wrote text sink sink' _ = ⊥
