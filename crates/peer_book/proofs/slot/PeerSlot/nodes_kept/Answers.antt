use Rattle.std.proofs.Common.{◌≡◌, ◌+◌, ◌-◌, sym, subst, arith}
use Rattle.adj_rib_out.specs.Nodes.{nodes}
use Rattle.peer_book.specs.Nodes.{gained, lost}
use Rattle.peer_book.specs.Numbers.{AreNumbered}
use Rattle.peer_book.specs.Seen.{seen}
use Rattle.peer_book.specs.Slot.{Slot}
use Rattle.peer_book.specs.Stands.{Stands}
use Rattle.peer_book.proofs.KeptNodeLemmas.{kept_nodes, lost_few}
use Rattle.peer_book.proofs.NodeLemmas.{nodes_told}
use Rattle.peer_book.proofs.slot.PeerSlot.nodes_kept.Goals as goal

pub overflow_sub-result : goal.overflow_sub-result
overflow_sub-result c =
    let few = lost_few c.args.numbers.now c.self.inside.table in
    let gone = c.count_lost-lost.ensures in
    let all = c.nodes.ensures.nodes in
    omega (arith, few, gone, all)

pub returns-clause-value : goal.returns-clause-value
returns-clause-value c =
    let few = lost_few c.args.numbers.now c.self.inside.table in
    let gone = c.count_lost-lost.ensures in
    let new = c.count_gained-gained.ensures.value in
    let all = c.nodes.ensures.nodes in
    subst (λ (s : Slot). c.nodes.result - c.count_lost-lost.result + c.count_gained-gained.result
    + lost c.args.numbers.now s.table ≡ nodes s.table + gained c.args.numbers.now s.table) c.self.view_is
    (omega (arith, few, gone, new, all))

pub returns-clause-told : goal.returns-clause-told
returns-clause-told c = λ steps settings statics legal stands numbered.
    let few = lost_few c.args.numbers.now c.self.inside.table in
    let gone = c.count_lost-lost.ensures in
    let new = c.count_gained-gained.ensures.value in
    let all = c.nodes.ensures.nodes in
    let slot = seen c.self.inside in
    let was = subst (Stands steps) (sym c.self.view_is) stands in
    let before = nodes_told c.nodes_are_listed.ensures.nodes c.settled.ensures steps slot c.nodes.ensures.apart
    c.nodes.ensures.ready c.self.invariant legal was in
    let after = kept_nodes c.nodes_are_listed.ensures.nodes c.settled.ensures steps slot settings statics
    c.args.numbers.now c.nodes.ensures.apart c.nodes.ensures.ready c.count_gained-gained.ensures.apart c.self.invariant
    legal was (subst (λ (s : Slot). AreNumbered s.table statics c.args.numbers.now) (sym c.self.view_is) numbered) in
    omega (arith, few, gone, new, all, before, after)
