-- What spawners in memory are made of.
use Rattle.std.specs.Prelude.{ℕ, List}
use Rattle.outside.specs.Plan.{Plan}
use Rattle.outside.specs.declared.memory.listed_spawner.MemorySpawner.{MemorySpawner}
use Rattle.outside.specs.declared.memory.sure_spawner.SureSpawner.{SureSpawner}
use Rattle.outside.specs.Children.{ready_content}
use Rattle.outside.specs.Waiting.{waiting_in}

-- the calls that fail
abbrev pub spawner_plan : MemorySpawner → Plan
spawner_plan s = s.attempts.plan

-- what the children that are ready give, in order
abbrev pub children_waiting : MemorySpawner → List (List ℕ)
children_waiting s = waiting_in ready_content s.ready.items

-- the same, where no child fails
abbrev pub sure_children_waiting : SureSpawner → List (List ℕ)
sure_children_waiting s = waiting_in ready_content s.ready.items
