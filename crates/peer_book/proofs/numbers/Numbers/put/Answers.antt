use Rattle.std.proofs.Common.{ℕ, List, Some, ap, ◌∙◌}
use Rattle.std.specs.Prelude.{if◌then◌else◌}
use Rattle.route_values.specs.declared.key.Key.{Key}
use Rattle.route_values.specs.Key.{same_key}
use Rattle.peer_book.specs.Numbers.{number_at}
use Rattle.peer_book.proofs.NumberLemmas.{number_put}
use Rattle.peer_book.proofs.numbers.Numbers.put.Goals as goal

pub returns : goal.returns
returns c = λ other.
    number_put c.self.inside.numbers.entries c.insert.new.self.entries c.args.key c.args.number
    c.in_ok-insert.ensures.updates.0 other
    ∙ ap (λ (numbers : List (Key × ℕ)). if same_key c.args.key other then Some c.args.number
    else number_at numbers other) c.self.view_is
