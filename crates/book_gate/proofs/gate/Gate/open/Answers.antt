use Rattle.std.proofs.Common.{◌≡◌, [], ◌∷◌, Some, List, Option, rules, sym, subst}
use Rattle.atomic_table.specs.Table.{opening}
use Rattle.book_gate.specs.Views.{first_view}
use Rattle.book_gate.specs.Rule.{GateRule}
use Rattle.book_gate.proofs.OpenLemmas.{opens}
use Rattle.book_gate.proofs.gate.Gate.open.Goals as goal

pub new-requires : goal.new-requires
new-requires g c =
    let items : c.push.new.self.items ≡ Some c.args.state ∷ [] = search rules in
    subst (λ (slots : List (Option g.row.T.Denot)). GateRule g.T.Held.stands g.T.Held.law c.args.start.value
    (opening (0 ∷ 0 ∷ 0 ∷ []) slots (first_view c.args.start.value))) (sym items)
    (opens g.T.Held.stands g.T.Held.law c.args.start.value c.args.state c.requires)
