use Rattle.std.proofs.Common.{ap, ◌∙◌}
use Rattle.peer_book.specs.Slot.{Slot}
use Rattle.peer_book.proofs.slot.PeerSlot.settings.Goals as goal

pub returns-clause-value : goal.returns-clause-value
returns-clause-value c = ap (λ (s : Slot). s.settings) c.self.view_is

pub returns-clause-told : goal.returns-clause-told
returns-clause-told c = λ steps stands. ap (λ (s : Slot). s.settings) c.self.view_is ∙ stands.settings
