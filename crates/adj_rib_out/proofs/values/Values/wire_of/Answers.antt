use Rattle.std.proofs.Common.{◌<◌, ◌∙◌, length, subst}
use Rattle.std.specs.Prelude.{IfSome}
use Rattle.adj_rib_out.specs.Kept.{values_of}
use Rattle.adj_rib_out.specs.Stock.{Stock, wires_in, written_in}
use Rattle.adj_rib_out.proofs.PooledLemmas.{wire_tag, within_if}
use Rattle.adj_rib_out.proofs.values.Values.wire_of.Goals as goal

pub returns-clause-within : goal.returns-clause-within
returns-clause-within c = subst (λ (s : Stock). IfSome c.tag.result (λ w. w < length s.seen.wires)) c.self.view_is
    (within_if (values_of c.self.inside.side (written_in c.self.inside.written.items)
    (wires_in c.self.inside.wires.items)) c.self.invariant.kept c.args.number c.tag.result
    (c.tag.ensures ∙ wire_tag c.self.inside.written.items c.args.number))
