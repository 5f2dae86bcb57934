use Rattle.std.proofs.Common.{arith, sym, ◌*◌, ◌∙◌, length}
use Rattle.update_grammar.specs.Values.{exts_text}
use Rattle.attr_codec.specs.declared.codes.Kind.TheVariants.{OptionalTransitive}
use Rattle.attr_codec.proofs.AppendedLemmas.{list_appended}
use Rattle.attr_codec.proofs.SizeLemmas.{length-exts_text, length-list_some, length-raw_head}
use Rattle.attr_codec.proofs.writing.lists.put_exts.Goals as goal

pub put_head-requires-clause-small : goal.put_head-requires-clause-small
put_head-requires-clause-small c =
    let values = length-exts_text c.args.exts.now c.told-exts in
    let filled = sym c.is_empty.ensures ∙ c.if-is_empty.false in
    omega (
      arith,
      length-list_some OptionalTransitive 16 exts_text c.args.exts.now (length c.args.exts.now * 8) filled
          (sym values),
    )

pub put_ext_values-requires : goal.put_ext_values-requires
put_ext_values-requires c =
    let values = length-exts_text c.args.exts.now c.told-exts in
    let filled = sym c.is_empty.ensures ∙ c.if-is_empty.false in
    let head = length-raw_head OptionalTransitive 16 (length c.args.exts.now * 8) in
    omega (
      arith,
      length-list_some OptionalTransitive 16 exts_text c.args.exts.now (length c.args.exts.now * 8) filled
          (sym values),
    )

pub returns : goal.returns
returns c =
    let values = length-exts_text c.args.exts.now c.told-exts in
    let filled = sym c.is_empty.ensures ∙ c.if-is_empty.false in
    list_appended OptionalTransitive 16 exts_text c.args.exts.now (length c.args.exts.now * 8) _ _ _ filled (sym values)
    c.put_head.ensures c.put_ext_values.ensures
