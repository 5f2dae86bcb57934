-- A health check: its words, its file, and what became of its devices.
use Rattle.std.specs.Prelude.{ℕ, ◌≡◌, ◌⊎◌, codes, List, [], ◌∷◌, ⊤}
use Rattle.std.specs.declared.option.Option.{Option}
use Rattle.std.specs.declared.option.Option.TheVariants.{Some, None}
use Rattle.outside.specs.Opening.{IsContent}
use Rattle.outside.specs.Probing.{Checked}
use Rattle.outside.specs.Seen.{SinkSeen}
use Rattle.outside.specs.Told.{CountsOne}
use Rattle.config_model.specs.declared.fault.ConfigFault.{ConfigFault}
use Rattle.health_core.specs.declared.health.Health.{Health}
use Rattle.health_core.specs.Files.{SaysHealth, HasFirstFault}
use Rattle.health_core.specs.Printing.{IsSound}
use Rattle.health_core.specs.Watching.{Watched, WatchedPart}
use Rattle.script_play.specs.declared.status.Status.{Status}
use Rattle.script_play.specs.declared.status.Status.TheVariants as status

-- `healthcheck FILE`
abbrev pub IsHealthcheck : List (List ℕ) → List ℕ → Type 0
IsHealthcheck words path = words ≡ codes "healthcheck" ∷ path ∷ []

-- the bytes of the file at a path, which they are where content is told, say this
pub record IsHealthAt (content : Option (List ℕ → List ℕ)) (path : List ℕ) (health : Health) : Type 0 where
  pub bytes : List ℕ
  pub are : IsContent content path bytes
  pub says : SaysHealth bytes health
  pub sound : IsSound health

-- they have this first fault
pub record IsHealthFaultAt (content : Option (List ℕ → List ℕ)) (path : List ℕ) (fault : ConfigFault) : Type 0 where
  pub bytes : List ℕ
  pub are : IsContent content path bytes
  pub first : HasFirstFault bytes fault

-- why a file gives no health check, as a status
abbrev pub IsHealthUnread : Option (List ℕ → List ℕ) → List ℕ → Status → Type 0
IsHealthUnread content path status.ConfigRead = ⊤
IsHealthUnread content path (status.ConfigRefused fault) = IsHealthFaultAt content path fault
IsHealthUnread content path status.NoMemory = ⊤
IsHealthUnread content path _ = ⊥

-- the content of a path is told, and says this, or has this first fault
abbrev pub IsToldHealth : Option (List ℕ → List ℕ) → List ℕ → Health → Type 0
IsToldHealth None path health = ⊥
IsToldHealth (Some content) path health = SaysHealth (content path) health

abbrev pub IsToldHealthFault : Option (List ℕ → List ℕ) → List ℕ → ConfigFault → Type 0
IsToldHealthFault None path fault = ⊥
IsToldHealthFault (Some content) path fault = HasFirstFault (content path) fault

-- nothing was checked and nothing written
pub record Untouched (checks checks' : Option (List Checked)) (sink sink' : SinkSeen) : Type 0 where
  pub unchecked : checks' ≡ checks
  pub unwritten : sink' ≡ sink

-- how a watch ends, as a status: all checks were made, or a write failed, or memory was wanting
abbrev pub WatchEnds : Health → Option (List Checked) → Option (List Checked) → SinkSeen → SinkSeen → Status → Type 0
WatchEnds health checks checks' sink sink' status.Ok =
    Watched health checks checks' sink.taken sink'.taken × (sink'.faults ≡ sink.faults)
WatchEnds health checks checks' sink sink' status.WriteFault =
    WatchedPart health checks checks' sink.taken sink'.taken × CountsOne sink.faults sink'.faults
WatchEnds health checks checks' sink sink' status.NoMemory =
    WatchedPart health checks checks' sink.taken sink'.taken × (sink'.faults ≡ sink.faults)
WatchEnds health checks checks' sink sink' _ = ⊥

-- the file at a path says a health check, and its watch ends so
pub record WatchesFile (content : Option (List ℕ → List ℕ)) (path : List ℕ) (checks checks' : Option (List Checked))
    (sink sink' : SinkSeen) (ends : Status) : Type 0 where
  pub health : Health
  pub is : IsHealthAt content path health
  pub watched : WatchEnds health checks checks' sink sink' ends

-- how the health check of a file ends, as a status
abbrev pub HealthEnds : Option (List ℕ → List ℕ) → List ℕ → Option (List Checked) → Option (List Checked) → SinkSeen
    → SinkSeen → Status → Type 0
HealthEnds content path checks checks' sink sink' status.Ok =
    WatchesFile content path checks checks' sink sink' status.Ok
HealthEnds content path checks checks' sink sink' status.WriteFault =
    WatchesFile content path checks checks' sink sink' status.WriteFault
HealthEnds content path checks checks' sink sink' status.NoMemory =
    WatchesFile content path checks checks' sink sink' status.NoMemory ⊎ Untouched checks checks' sink sink'
HealthEnds content path checks checks' sink sink' status.ConfigRead = Untouched checks checks' sink sink'
HealthEnds content path checks checks' sink sink' (status.ConfigRefused fault) =
    IsHealthFaultAt content path fault × Untouched checks checks' sink sink'
HealthEnds content path checks checks' sink sink' _ = ⊥
