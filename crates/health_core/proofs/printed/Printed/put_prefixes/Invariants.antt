use Rattle.std.proofs.Common.{◌≡◌, ◌≤◌, ◌+◌, ◌*◌, ◌++◌, ◌∷◌, length, take}
use Rattle.std.specs.List.{flat_map}
use Rattle.health_core.specs.Printing.{prefix_texts}
use Rattle.health_core.proofs.printed.Printed.put_prefixes.Given as goal

abbrev pub invariant-prefixes : goal.invariant-prefixes
invariant-prefixes l = record {
  text : l.self ≡ l.fn.self ++ flat_map (λ word. 32 ∷ word) (prefix_texts (take l.key-index l.keys));
  short : length l.self ≤ length l.fn.self + 44 * l.key-index;
}
