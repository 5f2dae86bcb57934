-- Children in memory.
use Rattle.std.specs.Prelude.{ℕ, List}
use Rattle.std.specs.declared.option.Option.{Option}
use Rattle.std.specs.declared.option.Option.TheVariants.{Some}
use Rattle.outside.specs.declared.spawner.Pipes.{Pipes}
use Rattle.outside.specs.declared.memory.child.ChildSource.{ChildSource}
use Rattle.outside.specs.declared.memory.child.ChildSink.{ChildSink}
use Rattle.outside.specs.declared.memory.child.ChildLeash.{ChildLeash}
use Rattle.outside.specs.declared.memory.ready.ReadyChild.{ReadyChild}
use Rattle.outside.specs.declared.memory.kept_sink.KeptSink.{KeptSink}
use Rattle.outside.specs.declared.memory.sure_source.SureSource.{SureSource}
use Rattle.outside.specs.Supply.{rest_of, given_of}
use Rattle.outside.specs.Kept.{kept_bytes}
use Rattle.outside.specs.Ended.{EndedChild, child_of}

-- what the pipes of a child tell that never fails
abbrev pub sure_child_told : Pipes SureSource KeptSink ChildLeash → Option EndedChild
sure_child_told pipes =
    child_of (Some (given_of pipes.source)) pipes.source.ended 0 (kept_bytes pipes.sink.kept) 0

-- what a child's pipes tell
abbrev pub child_told : Pipes ChildSource ChildSink ChildLeash → Option EndedChild
child_told pipes =
    child_of (Some (given_of pipes.source.supply)) pipes.source.ended
    pipes.source.plan.faults (kept_bytes pipes.sink.kept) pipes.sink.plan.faults

-- all that a child's source has still to give, unless the child is killed
abbrev pub left_of : ChildSource → List ℕ
left_of source = rest_of source.supply

-- all that a child gives that is ready to be started
abbrev pub ready_content : ReadyChild → List ℕ
ready_content child = child.content.now
