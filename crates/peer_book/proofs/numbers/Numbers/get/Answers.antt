use Rattle.std.proofs.Common.{ℕ, List, ap, ◌∙◌}
use Rattle.route_values.specs.declared.key.Key.{Key}
use Rattle.peer_book.specs.Numbers.{number_at}
use Rattle.peer_book.proofs.NumberLemmas.{number_found}
use Rattle.peer_book.proofs.numbers.Numbers.get.Goals as goal

pub returns : goal.returns
returns c =
    c.copied.ensures ∙ c.get.ensures.value ∙ number_found c.self.inside.numbers.entries c.args.key.now
    ∙ ap (λ (numbers : List (Key × ℕ)). number_at numbers c.args.key.now) c.self.view_is
