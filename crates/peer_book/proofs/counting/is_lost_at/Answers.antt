use Rattle.std.proofs.Common.{sym, ap, not, ◌∙◌}
use Rattle.std.specs.Prelude.{◌&&◌}
use Rattle.adj_rib_out.specs.Nodes.{is_kept}
use Rattle.adj_rib_out.specs.Told.{route_told}
use Rattle.peer_book.proofs.KeptNodeLemmas.{lost_at, lost_none}
use Rattle.peer_book.proofs.counting.is_lost_at.Goals as goal

pub returns-in_default : goal.returns-in_default
returns-in_default c =
    sym (lost_none c.args.numbers.now c.args.table.now c.args.place c.places-places.ensures.apart
    (sym c.in_default.ensures))

pub returns-then-is_gone : goal.returns-then-is_gone
returns-then-is_gone c =
    let key = c.in-Some.key.now in
    ap not c.is_kept.ensures
    ∙ sym (lost_at c.args.numbers.now c.args.table.now c.args.place key (route_told c.in-Some.entry)
    c.places-places.ensures.apart (sym c.in-Some.ensures)
    ∙ ap (λ b. b && not (is_kept c.args.table.now key)) (sym c.is_gone.ensures ∙ c.if-is_gone.true))

pub returns-else-is_gone : goal.returns-else-is_gone
returns-else-is_gone c =
    let key = c.in-Some.key.now in
    c.if-is_gone.false
    ∙ sym (lost_at c.args.numbers.now c.args.table.now c.args.place key (route_told c.in-Some.entry)
    c.places-places.ensures.apart (sym c.in-Some.ensures)
    ∙ ap (λ b. b && not (is_kept c.args.table.now key)) (sym c.is_gone.ensures ∙ c.if-is_gone.false))
