use Rattle.std.specs.Prelude.{◌≡◌}
use Rattle.attr_codec.specs.Buffer.{max_message}
use Rattle.config_model.specs.Sections.{Sections}
use Rattle.book_history.specs.Entries.{History}
use Rattle.book_core.specs.Draining.{cut_each}
use Rattle.book_core.specs.Stands.{Stands}
use Rattle.book_core.proofs.book.Book.drain.Given as goal

abbrev pub invariant-cuts : goal.invariant-cuts
invariant-cuts l =
    ((cfg : Sections) (H : History) → Stands cfg H l.initial.self → Stands cfg (cut_each l.n l.sent H) l.self)
    × (l.out.room ≡ max_message)
