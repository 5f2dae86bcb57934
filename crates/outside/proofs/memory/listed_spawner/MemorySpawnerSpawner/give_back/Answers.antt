use Rattle.outside.specs.Children.{child_told}
use Rattle.outside.proofs.RollLemmas.{all_told_more}
use Rattle.outside.proofs.memory.listed_spawner.MemorySpawnerSpawner.give_back.Goals as goal

pub returns-clause-children : goal.returns-clause-children
returns-clause-children c = all_told_more child_told _ _ c.args.pipes c.add.ensures
