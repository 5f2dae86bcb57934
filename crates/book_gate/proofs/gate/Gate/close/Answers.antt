use Rattle.std.proofs.Common.{Some, ap, sym, ◌∙◌, subst}
use Rattle.std.specs.Prelude.{All, Contains}
use mathlib.Core.Option.{some-injective}
use Rattle.book_gate.specs.Histories.{entries}
use Rattle.book_gate.proofs.ListLemmas.{all_contained}
use Rattle.book_gate.proofs.OptionLemmas.{some_of, none_some, some_same}
use Rattle.book_gate.proofs.OpenLemmas.{closes}
use Rattle.book_gate.proofs.gate.Gate.close.Goals as goal

pub unreachable-requires : goal.unreachable-requires
unreachable-requires g c =
    let seat = c.pass.inside.seat in
    let is = c.pass.view_is in
    let live = some_of seat.me.0.start c.pass.invariant.alive in
    let last = c.close_with-closed.ensures.values.2 in
    let home = closes g.T.Held.stands g.T.Held.law _ seat.id seat.me.0 last.0 live.0 last.1.0 last.1.1 live.1
    c.pass.invariant.idle.rests (ap (λ pass. pass.name) is ∙ c.requires.first)
    (all_contained _ _ (subst (λ pass. All (Contains pass.joined) pass.split) (sym is) c.requires.all)) in
    none_some c.take-slot.result home.0 c.in_default.is (some-injective _ _
    (sym c.take-slot.ensures.value ∙ last.4 0 (Some home.0) home.1))

pub returns : goal.returns
returns g c start live =
    let seat = c.pass.inside.seat in
    let is = c.pass.view_is in
    let last = c.close_with-closed.ensures.values.2 in
    let home = closes g.T.Held.stands g.T.Held.law _ seat.id seat.me.0 last.0 start last.1.0 last.1.1
    (ap (λ pass. pass.start) is ∙ live) c.pass.invariant.idle.rests (ap (λ pass. pass.name) is ∙ c.requires.first)
    (all_contained _ _ (subst (λ pass. All (Contains pass.joined) pass.split) (sym is) c.requires.all)) in
    let had = some-injective _ _ (sym c.take-slot.ensures.value ∙ last.4 0 (Some home.0) home.1) in
    subst (λ state. g.T.Held.stands state start (entries c.args.pass.seen))
    (some_same home.0 c.in-Some.state (sym had ∙ c.in-Some.is))
    (subst (λ pass. g.T.Held.stands home.0 start (entries pass.seen)) is home.2)
