use Rattle.std.proofs.Common.{◌≡◌, length}
use Rattle.std.specs.Option.{option_copied}
use Rattle.config_model.specs.Limits.{max_peers}
use Rattle.book_core.proofs.ChoosingLemmas.{ChosenBelow}
use Rattle.book_core.proofs.choosing.choose.Given as goal

abbrev pub invariant-peers : goal.invariant-peers
invariant-peers l =
    (length l.chosen ≡ max_peers) × ChosenBelow l.n (option_copied l.process) l.command l.peers l.chosen
