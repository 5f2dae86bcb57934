use Rattle.std.proofs.Common.{◌++◌, List, take}
use Rattle.update_grammar.specs.declared.effect.Effect.{Effect}
use Rattle.update_grammar.specs.Update.{here_all}
use Rattle.script_play.specs.Standing.{AreLeftAt}
use Rattle.script_play.proofs.standing.Standing.announce.Given as goal

-- the keys so far stand
abbrev pub invariant-keys : goal.invariant-keys
invariant-keys l = (before : List Effect) → AreLeftAt before l.fn.self
    → AreLeftAt (before ++ here_all l.announced.attrs (take l.key-index l.keys)) l.self
