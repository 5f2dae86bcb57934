use Rattle.std.proofs.Common.{ℕ, Bool, List, ap, sym, ◌∙◌}
use Rattle.std.specs.Prelude.{is_none}
use Rattle.arrayvec.specs.ArrayVec.{ArrayVec}
use Rattle.config_model.specs.declared.sections.Neighbor.{Neighbor}
use Rattle.config_model.specs.declared.sections.Process.{Process}
use Rattle.config_model.specs.Sections.{place_of_name}
use Rattle.config_model.specs.Checked.{unknown_in}
use Rattle.config_model.proofs.FoundLemmas.{found_here, found_behind}
use Rattle.config_model.proofs.config.first_unknown.Goals as goal

abbrev unknown : List Process → ArrayVec ℕ → Bool
unknown processes name = is_none (place_of_name processes name.items)

abbrev heard : Neighbor → List (ArrayVec ℕ)
heard neighbor = neighbor.processes

pub returns-then-is_some : goal.returns-then-is_some
returns-then-is_some c =
    let tells = c.unknown_in-unknown.ensures ∙ ap (unknown_in c.args.processes.now) c.as_slice.ensures in
    found_here (unknown c.args.processes.now) heard c.args.neighbors.now c.neighbors.neighbor-index
    c.neighbor-item.result c.unknown_in-unknown.result c.neighbors.invariant c.neighbors-test.true
    c.neighbor-item.is tells (sym c.is_some.ensures ∙ c.if-is_some.true)

pub neighbors-preserved : goal.neighbors-preserved
neighbors-preserved c =
    let tells = c.unknown_in-unknown.ensures ∙ ap (unknown_in c.args.processes.now) c.as_slice.ensures in
    found_behind (unknown c.args.processes.now) heard c.args.neighbors.now c.neighbors.neighbor-index
    c.neighbor-item.result c.unknown_in-unknown.result c.neighbors.invariant c.neighbors-test.true
    c.neighbor-item.is tells (sym c.is_some.ensures ∙ c.if-is_some.false)
