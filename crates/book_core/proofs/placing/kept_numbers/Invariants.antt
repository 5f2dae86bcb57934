use Rattle.std.specs.Prelude.{◌≡◌, length, slice_get}
use Rattle.std.specs.Option.{option_map}
use Rattle.config_model.specs.Limits.{max_peers}
use Rattle.book_core.specs.declared.peering.Peering.{Peering}
use Rattle.book_core.specs.Settling.{number_kept}
use Rattle.book_core.proofs.BelowLemmas.{AreBelow}
use Rattle.book_core.proofs.placing.kept_numbers.Given as goal

abbrev pub invariant-peers : goal.invariant-peers
invariant-peers l =
    (length l.kept ≡ max_peers)
    × AreBelow (λ n. option_map (λ (is : Peering). number_kept l.sections is.slot.settings) (slice_get l.peers n)) l.n
    l.kept
