use Rattle.std.proofs.Common.{true, refl, sym, subst, ◌∙◌}
use Rattle.peer_history.specs.Steps.{Code}
use Rattle.book_core.specs.Ending.{ended_by}
use Rattle.book_core.specs.Moves.{MovesAll}
use Rattle.book_core.specs.Seen.{Seen, fields}
use Rattle.book_core.specs.Stands.{Stands}
use Rattle.book_core.proofs.EndLemmas.{stopped}
use Rattle.book_core.proofs.book.Book.stop.Goals as goal

pub invariant_of-self : goal.invariant_of-self
invariant_of-self c = record {
  helpers = c.self.invariant.helpers;
  peers = c.end_all.ensures.count ∙ c.self.invariant.peers;
}

pub returns : goal.returns
returns c = λ cfg H is.
    let old = fields c.self.inside in
    let new : Seen = record old { peers = c.end_all.new.peers.items; stopping = true } in
    stopped c.nodes_stay.ensures cfg H old new refl refl refl
    (subst (λ (code : Code). MovesAll (ended_by code) old.peers new.peers) c.new.ensures c.end_all.ensures)
    (subst (Stands cfg H) (sym c.self.view_is) is)
