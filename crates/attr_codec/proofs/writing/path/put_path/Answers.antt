use Rattle.std.proofs.Common.{arith, ◌≡◌, length}
use Rattle.update_grammar.specs.Values.{path_text}
use Rattle.attr_codec.specs.declared.codes.Kind.TheVariants.{WellKnown}
use Rattle.attr_codec.proofs.AppendedLemmas.{value_appended}
use Rattle.attr_codec.proofs.SizeLemmas.{length-raw_head, length-raw_text, length-path_text}
use Rattle.attr_codec.proofs.writing.path.put_path.Goals as goal

pub put_head-requires-clause-small : goal.put_head-requires-clause-small
put_head-requires-clause-small c =
    omega (arith, length-raw_text WellKnown 2 (path_text c.args.path.now), length-path_text c.args.path.now)

pub put_head-requires-clause-fits : goal.put_head-requires-clause-fits
put_head-requires-clause-fits c =
    let whole = length-raw_text WellKnown 2 (path_text c.args.path.now) in
    let exact : c.path_len.result ≡ length (path_text c.args.path.now) =
    omega (arith, length-path_text c.args.path.now) in
    rw exact (omega arith)

pub put_segments-requires-clause-fits : goal.put_segments-requires-clause-fits
put_segments-requires-clause-fits c =
    let whole = length-raw_text WellKnown 2 (path_text c.args.path.now) in
    let exact : c.path_len.result ≡ length (path_text c.args.path.now) =
    omega (arith, length-path_text c.args.path.now) in
    let head = length-raw_head WellKnown 2 c.path_len.result in
    rw c.segments.ensures.value (omega (arith, rw exact at head, rw exact at c.put_head.ensures.len))

pub returns : goal.returns
returns c =
    let whole = length-raw_text WellKnown 2 (path_text c.args.path.now) in
    let exact : c.path_len.result ≡ length (path_text c.args.path.now) =
    omega (arith, length-path_text c.args.path.now) in
    value_appended WellKnown 2 (path_text c.args.path.now) c.path_len.result _ _ _ exact c.put_head.ensures
    (rw c.segments.ensures.value at c.put_segments.ensures)
