use Rattle.std.proofs.Common.{◌≡◌, false, take}
use Rattle.std.specs.List.{list_any}
use Rattle.std.specs.Str.{bytes_eq}
use Rattle.exa_top.proofs.caps.stands.Given as goal

-- it isn't among the words so far
abbrev pub invariant-words : goal.invariant-words
invariant-words l = list_any (λ other. bytes_eq l.word other.now) (take l.other-index l.words) ≡ false
