use Rattle.std.proofs.Common.{◌+◌, ◌≤◌, length, arith}
use Rattle.std.proofs.lemmas.Result.{err_from_is_err_and}
use Rattle.config_reader.proofs.FileLemmas.{neighbor_fits, neighbor_goes, neighbor_stops}
use Rattle.config_reader.proofs.NeighborLemmas.{neighbor_counts, neighbor_is}
use Rattle.config_reader.proofs.sections.neighbor_section.Goals as goal

pub returns-in_err-one-clause-read : goal.returns-in_err-one-clause-read
returns-in_err-one-clause-read c =
    let e = err_from_is_err_and c.from_residual.result c.from_residual.ensures.1 in
    rw (e.1, e.2)
    (neighbor_stops c.args.read c.neighbors.result.now c.args.words.now.end c.args.words.now.left
    c.neighbor_at.new.words.left c.neighbor_at.new.words.left c.in_err-one.field-0.0 c.neighbors.ensures.value
    c.in_err-one.ensures.read)

pub with_neighbor-requires-clause-peer : goal.with_neighbor-requires-clause-peer
with_neighbor-requires-clause-peer c =
    neighbor_fits c.args.read c.neighbors.result.now c.in_ok-one.one c.args.words.now.end c.args.words.now.left
    c.neighbor_at.new.words.left c.neighbors.ensures.value c.in_ok-one.ensures.read

pub with_neighbor-requires-clause-section : goal.with_neighbor-requires-clause-section
with_neighbor-requires-clause-section c =
    neighbor_is c.neighbors.result.now c.in_ok-one.one c.args.words.now.end c.args.words.now.left
    c.neighbor_at.new.words.left c.in_ok-one.ensures.read

pub with_neighbor-requires-clause-routes : goal.with_neighbor-requires-clause-routes
with_neighbor-requires-clause-routes c =
    omega (
      arith,
      c.requires.routes,
      neighbor_counts c.neighbors.result.now c.in_ok-one.one c.args.words.now.end c.args.words.now.left
          c.neighbor_at.new.words.left c.in_ok-one.ensures.read,
    )

pub returns-clause-read : goal.returns-clause-read
returns-clause-read c =
    neighbor_goes c.args.read c.in_ok-with_neighbor.field-0 c.neighbors.result.now c.in_ok-one.one
    c.args.words.now.end c.args.words.now.left c.neighbor_at.new.words.left c.neighbors.ensures.value
    c.in_ok-one.ensures.read c.in_ok-with_neighbor.ensures
