use Rattle.std.proofs.Common.{◌≡◌, take}
use Rattle.script_play.specs.Encoding.{settings_of}
use Rattle.script_play.proofs.encoding.settings_of.Given as goal

abbrev pub invariant-neighbors : goal.invariant-neighbors
invariant-neighbors l = l.all.items ≡ settings_of (take l.neighbor-index l.config.neighbors)
