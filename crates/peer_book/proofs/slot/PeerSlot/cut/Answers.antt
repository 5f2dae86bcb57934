use Rattle.std.proofs.Common.{sym, ap, ◌∙◌, subst}
use Rattle.peer_book.specs.Seen.{seen}
use Rattle.peer_book.specs.Stands.{Stands}
use Rattle.peer_book.proofs.CutLemmas.{cuts_routes, kept_cut, texts_of, cut_answer, cut_nothing, cut_message}
use Rattle.std.specs.Prelude.{Option, None, is_some, if◌then◌else◌}
use Rattle.peer_history.specs.Steps.{Code}
use Rattle.peer_book.specs.Slot.{Slot}
use Rattle.peer_book.proofs.CutLemmas.{cut_none, cut_reset}
use Rattle.peer_book.proofs.slot.PeerSlot.cut.Goals as goal
use Rattle.peer_book.proofs.slot.PeerSlot.cut.Goals.{in-None, in-Some-cut_next}

pub invariant_of-self : goal.invariant_of-self
invariant_of-self c =
    kept_cut (seen c.self.inside) c.cut_next.new.table c.in-Some.caps c.self.invariant c.in-Some.is
    c.in_default-reset.is
    (cuts_routes c.in-Some.caps c.self.inside.table c.cut_next.new.table c.cut_next.new.out.bytes c.cut_next.result
    c.cut_next.ensures.cuts) c.cut_next.ensures.sound c.cut_next.ensures.session

pub returns-clause-may : goal.returns-clause-may
returns-clause-may c = λ steps stands.
    let slot = seen c.self.inside in
    let new = c.cut_next.new.table in
    let bytes = c.cut_next.new.out.bytes in
    let was = subst (Stands steps) (sym c.self.view_is) stands in
    let read = c.reading_is_spelling.ensures in
    let written = c.written_is_spelled.ensures in
    let texts = texts_of read.effects_only written.here_is_no_marker written.gone_is_no_marker written.here written.gone
    written.end in
    elim c.match-cut_next.branch [
      | in-None w ↦ cut_answer steps slot new bytes _ _ w.result-is
          (cut_nothing steps slot new c.in-Some.caps c.self.invariant was c.in-Some.is c.in_default-reset.is
          w.in-None.ensures.cuts)
      | in-Some-cut_next w ↦ cut_answer steps slot new bytes _ _ w.result-is
          (cut_message texts steps slot new c.in-Some.caps bytes w.in-Some-cut_next.last c.self.invariant was
          c.in-Some.is c.in_default-reset.is w.in-Some-cut_next.ensures.cuts)
    ]

pub returns-in_default-clause-may : goal.returns-in_default-clause-may
returns-in_default-clause-may c = λ steps stands.
    cut_none steps c.args.self.now stands (ap (λ (s : Slot). s.session) (sym c.self.view_is) ∙ c.in_default.is)

pub returns-in-Some-reset-clause-may : goal.returns-in-Some-reset-clause-may
returns-in-Some-reset-clause-may c = λ steps stands.
    cut_reset steps c.args.self.now c.in-Some.caps c.in-Some-reset.code stands
    (ap (λ (s : Slot). s.session) (sym c.self.view_is) ∙ c.in-Some.is)
    (ap (λ (s : Slot). s.reset) (sym c.self.view_is) ∙ c.in-Some-reset.is)

pub cut_next-requires-clause-sound : goal.cut_next-requires-clause-sound
cut_next-requires-clause-sound c = c.self.invariant.table

pub cut_next-requires-clause-session : goal.cut_next-requires-clause-session
cut_next-requires-clause-session c =
    c.self.invariant.session
    ∙ ap (λ (code : Option Code). if is_some code then None else c.self.inside.session) c.in_default-reset.is
    ∙ c.in-Some.is

pub cut_next-requires-clause-room : goal.cut_next-requires-clause-room
cut_next-requires-clause-room c =
    c.requires.room c.in-Some.caps (ap (λ (s : Slot). s.session) (sym c.self.view_is) ∙ c.in-Some.is)
