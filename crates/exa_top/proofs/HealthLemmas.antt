-- How the health check of a file ends.
use Rattle.std.proofs.Common.{ℕ, ◌≡◌, ◌⊎◌, List, refl, sym, ap, subst, inl, inr, arith}
use Rattle.std.specs.declared.option.Option.{Option}
use Rattle.std.specs.declared.option.Option.TheVariants.{Some, None}
use Rattle.config_model.specs.declared.fault.ConfigFault.{ConfigFault}
use Rattle.config_reader.specs.Files.{too_long}
use Rattle.outside.specs.Opening.{IsLonger}
use Rattle.outside.specs.Probing.{Checked}
use Rattle.outside.specs.Seen.{SinkSeen}
use Rattle.outside.specs.Told.{CountsOne, Rose}
use Rattle.health_core.specs.declared.health.Health.{Health}
use Rattle.health_core.specs.Files.{FilesDoOne, FilesFaultOnce, HasFirstFault, SaysHealth}
use Rattle.script_play.specs.declared.status.Status.{Status}
use Rattle.script_play.specs.declared.status.Status.TheVariants as status
use Rattle.exa_top.specs.Files.{IsLost, max_file}
use Rattle.exa_top.specs.Health.{HealthEnds, IsHealthAt, IsHealthFaultAt, IsHealthUnread, IsHealthcheck}
use Rattle.exa_top.specs.Health.{IsToldHealth, IsToldHealthFault, WatchEnds}
use Rattle.exa_top.proofs.FileLemmas.{more_than}

-- a file that is too long is refused for that
long_at : (content : Option (List ℕ → List ℕ)) (path : List ℕ) → IsLonger content path max_file
    → IsHealthFaultAt content path too_long
long_at None path longer =
    let some = more_than max_file in record { bytes = some.0; are = tt; first = inl (some.1, refl) }
long_at (Some content) path longer = record { bytes = content path; are = refl; first = inl (longer, refl) }

-- a file whose bytes aren't had says no health check
pub lost_unread : (content : Option (List ℕ → List ℕ)) (path : List ℕ) (ends : Status) → IsLost content path ends
    → IsHealthUnread content path ends
lost_unread content path status.ConfigRead lost = tt
lost_unread content path status.NoMemory lost = tt
lost_unread content path (status.ConfigRefused fault) lost =
    subst (λ (first : ConfigFault). IsHealthFaultAt content path first) (sym lost.1) (long_at content path lost.0)
lost_unread content path status.Ok lost = absurd lost
lost_unread content path status.Usage lost = absurd lost
lost_unread content path status.ReadFault lost = absurd lost
lost_unread content path status.WriteFault lost = absurd lost
lost_unread content path (status.ScriptRefused line) lost = absurd lost
lost_unread content path status.NoCrew lost = absurd lost
lost_unread content path status.InputLong lost = absurd lost

-- a watch of a file that says a health check
pub ends_watched : (content : Option (List ℕ → List ℕ)) (path : List ℕ) (health : Health)
    (checks checks' : Option (List Checked)) (sink sink' : SinkSeen) (ends : Status) → IsHealthAt content path health
    → WatchEnds health checks checks' sink sink' ends → HealthEnds content path checks checks' sink sink' ends
ends_watched content path health checks checks' sink sink' status.Ok is watched =
    record { health = health; is = is; watched = watched }
ends_watched content path health checks checks' sink sink' status.WriteFault is watched =
    record { health = health; is = is; watched = watched }
ends_watched content path health checks checks' sink sink' status.NoMemory is watched =
    inl (record { health = health; is = is; watched = watched })
ends_watched content path health checks checks' sink sink' status.Usage is watched = absurd watched
ends_watched content path health checks checks' sink sink' status.ConfigRead is watched = absurd watched
ends_watched content path health checks checks' sink sink' (status.ConfigRefused fault) is watched = absurd watched
ends_watched content path health checks checks' sink sink' status.ReadFault is watched = absurd watched
ends_watched content path health checks checks' sink sink' (status.ScriptRefused line) is watched = absurd watched
ends_watched content path health checks checks' sink sink' status.NoCrew is watched = absurd watched
ends_watched content path health checks checks' sink sink' status.InputLong is watched = absurd watched

-- a file that says none
pub ends_unread : (content : Option (List ℕ → List ℕ)) (path : List ℕ) (checks : Option (List Checked))
    (sink : SinkSeen) (ends : Status) → IsHealthUnread content path ends
    → HealthEnds content path checks checks sink sink ends
ends_unread content path checks sink status.ConfigRead is = record { unchecked = refl; unwritten = refl }
ends_unread content path checks sink (status.ConfigRefused fault) is =
    (is, record { unchecked = refl; unwritten = refl })
ends_unread content path checks sink status.NoMemory is = inr (record { unchecked = refl; unwritten = refl })
ends_unread content path checks sink status.Ok is = absurd is
ends_unread content path checks sink status.Usage is = absurd is
ends_unread content path checks sink status.ReadFault is = absurd is
ends_unread content path checks sink status.WriteFault is = absurd is
ends_unread content path checks sink (status.ScriptRefused line) is = absurd is
ends_unread content path checks sink status.NoCrew is = absurd is
ends_unread content path checks sink status.InputLong is = absurd is

rose : (before now : ℕ) → CountsOne before now → Rose before now
rose before now one = omega (arith, one.0)

-- the content that is told
said_at : (content : Option (List ℕ → List ℕ)) (path : List ℕ) (fault : ConfigFault) (health : Health) → FilesDoOne
    → IsHealthAt content path health → IsToldHealthFault content path fault → ⊥
said_at None path fault health law is told = told
said_at (Some content) path fault health law is told =
    law is.bytes health fault is.says (subst (λ (bytes : List ℕ). HasFirstFault bytes fault) is.are told)

fault_at : (content : Option (List ℕ → List ℕ)) (path : List ℕ) (fault : ConfigFault) (health : Health) → FilesDoOne
    → IsHealthFaultAt content path fault → IsToldHealth content path health → ⊥
fault_at None path fault health law is told = told
fault_at (Some content) path fault health law is told =
    law is.bytes health fault (subst (λ (bytes : List ℕ). SaysHealth bytes health) is.are told) is.first

same_at : (content : Option (List ℕ → List ℕ)) (path : List ℕ) (one other : ConfigFault) → FilesFaultOnce
    → IsHealthFaultAt content path one → IsToldHealthFault content path other → one ≡ other
same_at None path one other law is told = absurd told
same_at (Some content) path one other law is told =
    law is.bytes one other is.first (subst (λ (bytes : List ℕ). HasFirstFault bytes other) is.are told)

-- words name one path at most
pub same_path : (words : List (List ℕ)) (one other : List ℕ) → IsHealthcheck words one → IsHealthcheck words other
    → one ≡ other
same_path words one other is also = cc

-- the file decides
pub refuses : (content : Option (List ℕ → List ℕ)) (path : List ℕ) (checks checks' : Option (List Checked))
    (sink sink' : SinkSeen) (fault : ConfigFault) (faults faults' : ℕ) (ends : Status) → FilesDoOne → FilesFaultOnce
    → HealthEnds content path checks checks' sink sink' ends → IsToldHealthFault content path fault
    → (ends ≡ status.ConfigRead → CountsOne faults faults') → (Rose faults faults' → ⊥)
    → (ends ≡ status.ConfigRefused fault) ⊎ (ends ≡ status.NoMemory)
refuses content path checks checks' sink sink' fault faults faults' status.Ok law once is told count still =
    absurd (said_at content path fault is.health law is.is told)
refuses content path checks checks' sink sink' fault faults faults' status.WriteFault law once is told count still =
    absurd (said_at content path fault is.health law is.is told)
refuses content path checks checks' sink sink' fault faults faults' status.NoMemory law once is told count still =
    inr refl
refuses content path checks checks' sink sink' fault faults faults' status.ConfigRead law once is told count still =
    absurd (still (rose faults faults' (count refl)))
refuses content path checks checks' sink sink' fault faults faults' (status.ConfigRefused other) law once is told count
    still =
    inl (ap status.ConfigRefused (same_at content path other fault once is.0 told))
refuses content path checks checks' sink sink' fault faults faults' status.Usage law once is told count still =
    absurd is
refuses content path checks checks' sink sink' fault faults faults' status.ReadFault law once is told count still =
    absurd is
refuses content path checks checks' sink sink' fault faults faults' (status.ScriptRefused line) law once is told
    count still = absurd is
refuses content path checks checks' sink sink' fault faults faults' status.NoCrew law once is told count still =
    absurd is
refuses content path checks checks' sink sink' fault faults faults' status.InputLong law once is told count still =
    absurd is

pub completes : (content : Option (List ℕ → List ℕ)) (path : List ℕ) (checks checks' : Option (List Checked))
    (sink sink' : SinkSeen) (health : Health) (faults faults' : ℕ) (ends : Status) → FilesDoOne
    → HealthEnds content path checks checks' sink sink' ends → IsToldHealth content path health
    → (ends ≡ status.ConfigRead → CountsOne faults faults') → (Rose faults faults' → ⊥)
    → (Rose sink.faults sink'.faults → ⊥) → (ends ≡ status.Ok) ⊎ (ends ≡ status.NoMemory)
completes content path checks checks' sink sink' health faults faults' status.Ok law is told count still quiet =
    inl refl
completes content path checks checks' sink sink' health faults faults' status.WriteFault law is told count still quiet =
    absurd (quiet (rose sink.faults sink'.faults is.watched.1))
completes content path checks checks' sink sink' health faults faults' status.NoMemory law is told count still quiet =
    inr refl
completes content path checks checks' sink sink' health faults faults' status.ConfigRead law is told count still quiet =
    absurd (still (rose faults faults' (count refl)))
completes content path checks checks' sink sink' health faults faults' (status.ConfigRefused fault) law is told count
    still quiet =
    absurd (fault_at content path fault health law is.0 told)
completes content path checks checks' sink sink' health faults faults' status.Usage law is told count still quiet =
    absurd is
completes content path checks checks' sink sink' health faults faults' status.ReadFault law is told count still quiet =
    absurd is
completes content path checks checks' sink sink' health faults faults' (status.ScriptRefused line) law is told count
    still quiet = absurd is
completes content path checks checks' sink sink' health faults faults' status.NoCrew law is told count still quiet =
    absurd is
completes content path checks checks' sink sink' health faults faults' status.InputLong law is told count still quiet =
    absurd is
