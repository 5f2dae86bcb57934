-- The exit status of each status, and the line that is printed for it.
use Rattle.std.specs.Prelude.{ℕ, codes, decimal, ⊤, List, [], ◌++◌}
use Rattle.std.specs.declared.option.Option.{Option}
use Rattle.outside.specs.declared.reading.Unread.{Unread}
use Rattle.outside.specs.declared.reading.Unread.TheVariants as unread
use Rattle.config_model.specs.declared.slots.Slots.{Slots}
use Rattle.config_reader.specs.Files.{too_long}
use Rattle.text_history.specs.Configured.{IsFaultAt}
use Rattle.config_model.specs.declared.fault.ConfigFault.{ConfigFault}
use Rattle.config_model.specs.Kinds.{kind_word}
use Rattle.script_play.specs.declared.status.Status.{Status}
use Rattle.script_play.specs.declared.status.Status.TheVariants as status

-- the number that the program ends with
abbrev pub number_of : Status → ℕ
number_of status.Ok = 0
number_of status.Usage = 2
number_of status.ConfigRead = 3
number_of (status.ConfigRefused fault) = 4
number_of (status.ScriptRefused line) = 5
number_of status.ReadFault = 6
number_of status.WriteFault = 7
number_of status.NoCrew = 8
number_of status.NoMemory = 9
number_of status.InputLong = 10

-- the line of a refused configuration, as LINE:COLUMN KIND
abbrev pub refusal_line : ConfigFault → List ℕ
refusal_line fault =
    codes "exabgp: configuration " ++ decimal fault.line ++ codes ":" ++ decimal fault.column ++ codes " "
    ++ kind_word fault.kind ++ codes "\n"

-- the line of a refused script
abbrev pub script_line : ℕ → List ℕ
script_line line = codes "exabgp: script " ++ decimal line ++ codes "\n"

-- the line that the program writes on standard error, if any
abbrev pub line_of : Status → List ℕ
line_of status.Ok = []
line_of status.Usage = codes "exabgp: usage\n"
line_of status.ConfigRead = codes "exabgp: configuration not read\n"
line_of (status.ConfigRefused fault) = refusal_line fault
line_of (status.ScriptRefused line) = script_line line
line_of status.ReadFault = codes "exabgp: read fault\n"
line_of status.WriteFault = codes "exabgp: write fault\n"
line_of status.NoCrew = codes "exabgp: no crew\n"
line_of status.NoMemory = codes "exabgp: no memory\n"
line_of status.InputLong = codes "exabgp: input too long\n"

-- why a file gives no configuration, as a status
abbrev pub IsUnread : Option (List ℕ → List ℕ) → List ℕ → Slots → Status → Type 0
IsUnread content path slots status.ConfigRead = ⊤
IsUnread content path slots (status.ConfigRefused fault) = IsFaultAt content path slots fault
IsUnread content path slots status.NoMemory = ⊤
IsUnread content path slots _ = ⊥

-- the status of a file that wasn't read whole
abbrev pub status_unread : Unread → Status
status_unread unread.Memory = status.NoMemory
status_unread unread.Fault = status.ConfigRead
status_unread unread.Long = status.ConfigRefused too_long
