-- What the objects in memory that fail at some of their calls are made of.
use Rattle.std.specs.Prelude.{ℕ, ◌≡◌, ◌-◌, ◌^◌, List, ⊤}
use Rattle.outside.specs.declared.files.Opened.{Opened}
use Rattle.outside.specs.declared.files.Opened.TheVariants.{Open, Failed}
use Rattle.outside.specs.declared.memory.listed_files.MemoryFiles.{MemoryFiles}
use Rattle.outside.specs.Plan.{Plan}
use Rattle.outside.specs.Supply.{step_of}
use Rattle.outside.specs.declared.memory.sure_source.SureSource.{SureSource}
use Rattle.outside.specs.declared.memory.listed_source.MemorySource.{MemorySource}
use Rattle.outside.specs.declared.memory.sure_sink.SureSink.{SureSink}
use Rattle.outside.specs.declared.memory.listed_sink.MemorySink.{MemorySink}

-- what a source gives, where it doesn't fail
abbrev pub supply_of : MemorySource → SureSource
supply_of s = s.supply

-- the calls of a source that fail
abbrev pub source_plan : MemorySource → Plan
source_plan s = s.plan

-- what a sink keeps
abbrev pub store_of : MemorySink → SureSink
store_of s = s.store

-- the calls of a sink that fail
abbrev pub sink_plan : MemorySink → Plan
sink_plan s = s.plan

-- the calls that open a file and fail
abbrev pub files_plan : MemoryFiles → Plan
files_plan f = f.plan

-- the reads of each opened file that fail
abbrev pub failing_reads_of : MemoryFiles → List ℕ
failing_reads_of f = f.failing_reads.now

-- of a file that was opened, these reads fail, and each other one gives all that the buffer holds
abbrev pub FailsAt : List ℕ → Opened MemorySource → Type 0
FailsAt reads (Open source) =
    (source_plan source ≡ record { failing = reads; calls = 0; faults = 0 })
    × (step_of (supply_of source) ≡ 2 ^ 64 - 1)
FailsAt reads Failed = ⊤
