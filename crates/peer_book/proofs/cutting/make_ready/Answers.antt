use Rattle.std.proofs.Common.{refl, sym, ap, ◌∙◌, subst}
use Rattle.std.specs.Option.{option_map}
use Rattle.adj_rib_out.specs.State.{Session}
use Rattle.adj_rib_out.specs.Calls.{is_open}
use Rattle.peer_book.specs.Cutting.{GoesOnOrBegins}
use Rattle.peer_book.proofs.SoundLemmas.{sound_freezes, frozen_same}
use Rattle.peer_book.proofs.cutting.make_ready.Goals as goal

pub freeze-requires : goal.freeze-requires
freeze-requires c = sym c.is_open.ensures ∙ c.if-not-is_open.true

pub returns-then-not-is_open-clause-ready : goal.returns-then-not-is_open-clause-ready
returns-then-not-is_open-clause-ready c =
    subst (λ b. GoesOnOrBegins b c.args.table.now c.freeze.new.self) (sym c.if-not-is_open.true ∙ c.is_open.ensures)
    c.freeze.ensures.freezes

pub returns-then-not-is_open-clause-sound : goal.returns-then-not-is_open-clause-sound
returns-then-not-is_open-clause-sound c =
    sound_freezes c.args.table.now c.freeze.new.self c.requires.sound c.freeze.ensures.freezes

pub returns-then-not-is_open-clause-session : goal.returns-then-not-is_open-clause-session
returns-then-not-is_open-clause-session c =
    ap (option_map (λ (s : Session). s.caps)) c.freeze.ensures.freezes.session
    ∙ frozen_same (is_open c.freeze.new.self) c.args.table.now.session

pub returns-else-not-is_open-clause-ready : goal.returns-else-not-is_open-clause-ready
returns-else-not-is_open-clause-ready c =
    subst (λ b. GoesOnOrBegins b c.args.table.now c.args.table.now) (sym c.if-not-is_open.false
    ∙ c.is_open.ensures) refl

pub returns-else-not-is_open-clause-sound : goal.returns-else-not-is_open-clause-sound
returns-else-not-is_open-clause-sound c = c.requires.sound

pub returns-else-not-is_open-clause-session : goal.returns-else-not-is_open-clause-session
returns-else-not-is_open-clause-session c = refl
