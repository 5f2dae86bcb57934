use Rattle.std.proofs.Common.{ℕ, List, subst}
use Rattle.std.specs.List.{IsDistinct}
use Rattle.std.specs.Map.{keys_of}
use Rattle.route_values.specs.declared.key.Key.{Key}
use Rattle.route_values.specs.Key.{same_key}
use Rattle.peer_book.proofs.KeptNodeLemmas.{keys_differ}
use Rattle.peer_book.proofs.numbers.Numbers.len.Goals as goal

pub returns-clause-apart : goal.returns-clause-apart
returns-clause-apart c =
    subst (λ (numbers : List (Key × ℕ)). IsDistinct same_key (keys_of numbers)) c.self.view_is
    (keys_differ (keys_of c.self.inside.numbers.entries) c.len.ensures.unique)
