-- When a command ends well, if memory suffices.
use Rattle.std.proofs.Common.{ℕ, ◌≡◌, ◌⊎◌, List, Option, Some, None, refl, sym, subst, ap, inl, inr, arith}
use Rattle.std.proofs.Common.{[], ◌∙◌, length}
use Rattle.config_model.specs.declared.fault.ConfigFault.{ConfigFault}
use Rattle.config_model.specs.declared.slots.Slots.{Slots}
use Rattle.config_model.specs.Sections.{Sections}
use Rattle.config_reader.specs.Files.{Configures, IsFirstFault}
use Rattle.config_reader.specs.Outcomes.{FilesDoOne, FilesFaultOnce, FilesGiveOne}
use Rattle.outside.specs.Seen.{SourceSeen, SinkSeen}
use Rattle.outside.specs.Told.{AreLeftFrom, CountsOne, Rose}
use Rattle.script_play.specs.declared.status.Status.{Status}
use Rattle.script_play.specs.declared.status.Status.TheVariants as status
use Rattle.exa_top.specs.declared.words.TextCommand.{TextCommand}
use Rattle.exa_top.specs.declared.words.TextCommand.TheVariants.{Encode, EncodePlain, Check, Play, Load, Parse, Decode}
use Rattle.exa_top.specs.declared.words.TextCommand.TheVariants.{Help, Version}
use Rattle.text_history.specs.Configured.{AreTextSlots, IsConfigAt, IsFaultAt}
use Rattle.exa_top.specs.Top.{input_limit, Answered, HasConfig, HasFault, IsConfigured, IsLeftShort, IsRefusedFor}
use Rattle.exa_top.specs.Top.{IsToldConfig, IsToldFault, HasBadLine, HasScript, Ran, ReadsInput}
use Rattle.exa_top.specs.Encoded.{HasHelper, IsToldHeard, IsToldUnheard, IsUnheardAt}
use Rattle.exa_top.specs.Played.{IsBadScript, IsToldScript}
use Rattle.exa_top.proofs.AnsweredLemmas.{whole_is_configured}

-- what counted one fault rose
pub counts_rose : (before now : ℕ) → CountsOne before now → Rose before now
counts_rose before now counts = omega (arith, counts.0)

-- fewer bytes than a limit are left, or as many as it
left_short : (limit : ℕ) (left : Option (List ℕ)) → IsLeftShort limit left → AreLeftFrom left limit → ⊥
left_short limit None short from = short
left_short limit (Some rest) short from = absurd (omega (arith, short, from))

config_apart : FilesDoOne → (content : Option (List ℕ → List ℕ)) (path : List ℕ) (slots : Slots) (fault : ConfigFault)
    → AreTextSlots slots → IsFaultAt content path slots fault → IsToldConfig content path → ⊥
config_apart law None path slots fault are at told = told
config_apart law (Some content) path slots fault are at told =
    let First : List ℕ → Type 0 = λ bytes. IsFirstFault bytes slots fault in
    let good = told slots are in
    law (content path) slots good.0 fault good.1 (subst First (sym at.are) at.first)

-- a configuration with a process isn't one without
heard_none : (config : Sections) → HasHelper config → config.processes ≡ [] → ⊥
heard_none config heard none = absurd (omega (arith, heard, ap length none))

told_heard : (content : Option (List ℕ → List ℕ)) (path : List ℕ) → IsToldHeard content path
    → IsToldConfig content path
told_heard None path told = told
told_heard (Some content) path told = λ slots are. ((told slots are).0, (told slots are).1)

-- what is told to have a process isn't seen without one, nor the other way round
unheard_apart : FilesGiveOne → (content : Option (List ℕ → List ℕ)) (path : List ℕ) (slots : Slots)
    → AreTextSlots slots → IsUnheardAt content path slots → IsToldHeard content path → ⊥
unheard_apart law None path slots are at told = told
unheard_apart law (Some content) path slots are (config, at, none) told =
    let good = told slots are in
    let Good : List ℕ → Type 0 = λ bytes. Configures bytes slots config in
    let same : good.0 ≡ config =
    law (content path) slots good.0 config good.1 (subst Good (sym at.are) at.configures) in
    heard_none config (subst HasHelper same good.2) none

heard_apart : FilesGiveOne → (content : Option (List ℕ → List ℕ)) (path : List ℕ) (slots : Slots) (config : Sections)
    → AreTextSlots slots → IsConfigAt content path slots config → HasHelper config → IsToldUnheard content path → ⊥
heard_apart law None path slots config are at heard told = told
heard_apart law (Some content) path slots config are at heard told =
    let none = told slots are in
    let Good : List ℕ → Type 0 = λ bytes. Configures bytes slots config in
    let same : config ≡ none.0 =
    law (content path) slots config none.0 (subst Good (sym at.are) at.configures) none.1 in
    heard_none none.0 (subst HasHelper same heard) none.2

-- a file that is a configuration isn't refused
not_refused : FilesGiveOne → FilesDoOne → (content : Option (List ℕ → List ℕ)) (command : TextCommand) (fault :
    ConfigFault)
    → IsRefusedFor content command fault → HasConfig content command → ⊥
not_refused one law content (Encode path) fault (slots, are, inl at) good =
    config_apart law content path.now slots fault are at (told_heard content path.now good)
not_refused one law content (Encode path) fault (slots, are, inr none) good =
    unheard_apart one content path.now slots are none.0 good
not_refused one law content (EncodePlain ends) fault refused good = refused
not_refused one law content (Check path) fault refused good =
    config_apart law content path.now refused.0 fault refused.1 refused.2 good
not_refused one law content (Play path) fault refused good =
    config_apart law content path.now refused.0 fault refused.1 refused.2 good
not_refused one law content (Load count) fault refused good = refused
not_refused one law content Parse fault refused good = refused
not_refused one law content (Decode caps) fault refused good = refused
not_refused one law content Help fault refused good = refused
not_refused one law content Version fault refused good = refused

fault_apart : FilesDoOne → (content : Option (List ℕ → List ℕ)) (path : List ℕ) (slots : Slots) (config : Sections)
    (fault : ConfigFault) → AreTextSlots slots → IsConfigAt content path slots config → IsToldFault content path fault
    → ⊥
fault_apart law None path slots config fault are at told = told
fault_apart law (Some content) path slots config fault are at told =
    let Good : List ℕ → Type 0 = λ bytes. Configures bytes slots config in
    law (content path) slots config fault (subst Good (sym at.are) at.configures) (told slots are)

-- a file that has a fault is no configuration
not_configured : FilesGiveOne → FilesDoOne → (content : Option (List ℕ → List ℕ)) (command : TextCommand) (fault :
    ConfigFault)
    → IsConfigured content command → HasFault content command fault → ⊥
not_configured one law content (Encode path) fault (config, (slots, are, at, heard)) (inl told) =
    fault_apart law content path.now slots config fault are at told
not_configured one law content (Encode path) fault (config, (slots, are, at, heard)) (inr told) =
    heard_apart one content path.now slots config are at heard told.0
not_configured one law content (EncodePlain ends) fault good told = told
not_configured one law content (Check path) fault good told =
    fault_apart law content path.now good.0 good.2 fault good.1 good.3 told
not_configured one law content (Play path) fault good told =
    fault_apart law content path.now good.0 good.2 fault good.1 good.3 told
not_configured one law content (Load count) fault good told = told
not_configured one law content Parse fault good told = told
not_configured one law content (Decode caps) fault good told = told
not_configured one law content Help fault good told = told
not_configured one law content Version fault good told = told

fault_once : FilesFaultOnce → (content : Option (List ℕ → List ℕ)) (path : List ℕ) (slots : Slots)
    (fault other : ConfigFault) → AreTextSlots slots → IsFaultAt content path slots other
    → IsToldFault content path fault → other ≡ fault
fault_once law None path slots fault other are at told = absurd told
fault_once law (Some content) path slots fault other are at told =
    let First : List ℕ → Type 0 = λ bytes. IsFirstFault bytes slots other in
    law (content path) slots other fault (subst First (sym at.are) at.first) (told slots are)

-- what is told to have a fault isn't seen to be a configuration
unheard_fault : FilesDoOne → (content : Option (List ℕ → List ℕ)) (path : List ℕ) (slots : Slots)
    (fault : ConfigFault) → AreTextSlots slots → IsUnheardAt content path slots → IsToldFault content path fault → ⊥
unheard_fault law content path slots fault are (config, at, none) told =
    fault_apart law content path slots config fault are at told

told_unheard : (content : Option (List ℕ → List ℕ)) (path : List ℕ) → IsToldUnheard content path
    → IsToldConfig content path
told_unheard None path told = told
told_unheard (Some content) path told = λ slots are. ((told slots are).0, (told slots are).1)

-- a file is refused for its one first fault
refused_once : FilesDoOne → FilesFaultOnce → (content : Option (List ℕ → List ℕ)) (command : TextCommand) (fault other :
    ConfigFault)
    → IsRefusedFor content command other → HasFault content command fault → other ≡ fault
refused_once apart law content (Encode path) fault other (slots, are, inl at) (inl told) =
    fault_once law content path.now slots fault other are at told
refused_once apart law content (Encode path) fault other (slots, are, inl at) (inr told) =
    absurd (config_apart apart content path.now slots other are at (told_unheard content path.now told.0))
refused_once apart law content (Encode path) fault other (slots, are, inr none) (inl told) =
    absurd (unheard_fault apart content path.now slots fault are none.0 told)
refused_once apart law content (Encode path) fault other (slots, are, inr none) (inr told) = none.1 ∙ sym told.1
refused_once apart law content (EncodePlain ends) fault other refused told = absurd told
refused_once apart law content (Check path) fault other refused told =
    fault_once law content path.now refused.0 fault other refused.1 refused.2 told
refused_once apart law content (Play path) fault other refused told =
    fault_once law content path.now refused.0 fault other refused.1 refused.2 told
refused_once apart law content (Load count) fault other refused told = absurd told
refused_once apart law content Parse fault other refused told = absurd told
refused_once apart law content (Decode caps) fault other refused told = absurd told
refused_once apart law content Help fault other refused told = absurd told
refused_once apart law content Version fault other refused told = absurd told

-- a script that has a line that is none isn't one without
script_apart : (content : Option (List ℕ → List ℕ)) (path : List ℕ) (left : Option (List ℕ))
    → IsBadScript content path left → IsToldScript content path left → ⊥
script_apart content path None bad told = told
script_apart content path (Some rest) bad told =
    told bad.slots bad.config bad.number bad.history bad.slots_are bad.configured bad.legal bad.refused

line_apart : (content : Option (List ℕ → List ℕ)) (command : TextCommand) (left : Option (List ℕ))
    → HasBadLine content command left → HasScript content command left → ⊥
line_apart content (Encode path) left bad told = bad
line_apart content (EncodePlain ends) left bad told = bad
line_apart content (Check path) left bad told = bad
line_apart content (Play path) left bad told = script_apart content path.now left bad told
line_apart content (Load count) left bad told = bad
line_apart content Parse left bad told = bad
line_apart content (Decode caps) left bad told = bad
line_apart content Help left bad told = bad
line_apart content Version left bad told = bad

-- what was read to its end had its configuration
ran_configured : (content : Option (List ℕ → List ℕ)) (command : TextCommand) (source source' : SourceSeen)
    (sink sink' : SinkSeen) → Ran content command source source' sink sink' → IsConfigured content command
ran_configured content command source source' sink sink' ran =
    whole_is_configured content command source source' ran.input ran.read

-- a command whose file has a first fault, and whose files didn't fail
pub refuses_it : FilesGiveOne → FilesDoOne → FilesFaultOnce → (content : Option (List ℕ → List ℕ)) (command :
    TextCommand)
    (source source' : SourceSeen) (sink sink' : SinkSeen) (fault : ConfigFault) (ends : Status)
    → Answered content command source source' sink sink' ends → HasFault content command fault
    → ¬ (ends ≡ status.ConfigRead) → (ends ≡ status.ConfigRefused fault) ⊎ (ends ≡ status.NoMemory)
refuses_it one apart once content command source source' sink sink' fault status.Ok answered told config =
    absurd (not_configured one apart content command fault (ran_configured content command source source' sink sink'
    (answered.ok refl)) told)
refuses_it one apart once content command source source' sink sink' fault status.Usage answered told config =
    absurd (answered.spelled refl)
refuses_it one apart once content command source source' sink sink' fault status.ConfigRead answered told config =
    absurd (config refl)
refuses_it one apart once content command source source' sink sink' fault (status.ConfigRefused other) answered told
    config =
    inl (ap status.ConfigRefused (refused_once apart once content command fault other (answered.refused other refl)
    told))
refuses_it one apart once content command source source' sink sink' fault status.ReadFault answered told config =
    absurd (not_configured one apart content command fault (answered.late tt) told)
refuses_it one apart once content command source source' sink sink' fault status.WriteFault answered told config =
    absurd (not_configured one apart content command fault (answered.late tt) told)
refuses_it one apart once content command source source' sink sink' fault status.NoMemory answered told config = inr
    refl
refuses_it one apart once content command source source' sink sink' fault status.InputLong answered told config =
    absurd (not_configured one apart content command fault (answered.late tt) told)
refuses_it one apart once content command source source' sink sink' fault (status.ScriptRefused line) answered told
    config =
    absurd (not_configured one apart content command fault (answered.late tt) told)
refuses_it one apart once content command source source' sink sink' fault status.NoCrew answered told config =
    absurd (answered.crew refl)

-- a command whose file is a configuration, whose input ends in time, and is a script where it plays one, and whose
-- devices didn't fail
pub completed : FilesGiveOne → FilesDoOne → (content : Option (List ℕ → List ℕ)) (command : TextCommand)
    (source source' : SourceSeen) (sink sink' : SinkSeen) (ends : Status)
    → Answered content command source source' sink sink' ends → HasConfig content command
    → HasScript content command source.left
    → (ReadsInput command → IsLeftShort input_limit source.left)
    → ¬ (ends ≡ status.ConfigRead) → ¬ Rose source.faults source'.faults → ¬ Rose sink.faults sink'.faults
    → (ends ≡ status.Ok) ⊎ (ends ≡ status.NoMemory)
completed one law content command source source' sink sink' status.Ok answered good script short config read write =
    inl refl
completed one law content command source source' sink sink' status.NoMemory answered good script short config read write
    =
    inr refl
completed one law content command source source' sink sink' status.Usage answered good script short config read write =
    absurd (answered.spelled refl)
completed one law content command source source' sink sink' status.ConfigRead answered good script short config read
    write =
    absurd (config refl)
completed one law content command source source' sink sink' (status.ConfigRefused fault) answered good script short
    config
    read write =
    absurd (not_refused one law content command fault (answered.refused fault refl) good)
completed one law content command source source' sink sink' status.ReadFault answered good script short config read
    write =
    absurd (read (counts_rose source.faults source'.faults (answered.read refl)))
completed one law content command source source' sink sink' status.WriteFault answered good script short config read
    write =
    absurd (write (counts_rose sink.faults sink'.faults (answered.write refl)))
completed one law content command source source' sink sink' status.InputLong answered good script short config read
    write =
    absurd (left_short input_limit source.left (short (answered.reads refl)) (answered.long refl).left)
completed one law content command source source' sink sink' (status.ScriptRefused line) answered good script short
    config
    read write =
    absurd (line_apart content command source.left (answered.bad line refl) script)
completed one law content command source source' sink sink' status.NoCrew answered good script short config read write =
    absurd (answered.crew refl)
