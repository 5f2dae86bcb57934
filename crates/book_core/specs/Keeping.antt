-- What a call leaves that does nothing but stand keys and values ready, or take such out.
use Rattle.std.specs.Prelude.{◌≡◌, []}
use Rattle.book_core.specs.Moves.{MovesAll}
use Rattle.book_core.specs.Seen.{Seen}

pub record Keeps (old new : Seen) : Type 0 where
  pub helpers : new.helpers ≡ old.helpers
  pub peers : MovesAll (λ n. []) old.peers new.peers
  pub stopping : new.stopping ≡ old.stopping
  pub reload_due : new.reload_due ≡ old.reload_due
