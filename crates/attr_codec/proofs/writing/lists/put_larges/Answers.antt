use Rattle.std.proofs.Common.{arith, sym, ◌*◌, ◌∙◌, length}
use Rattle.update_grammar.specs.Values.{larges_text}
use Rattle.attr_codec.specs.declared.codes.Kind.TheVariants.{OptionalTransitive}
use Rattle.attr_codec.proofs.AppendedLemmas.{list_appended}
use Rattle.attr_codec.proofs.SizeLemmas.{length-larges_text, length-list_some, length-raw_head}
use Rattle.attr_codec.proofs.writing.lists.put_larges.Goals as goal

pub put_head-requires-clause-small : goal.put_head-requires-clause-small
put_head-requires-clause-small c =
    let values = length-larges_text c.args.larges.now in
    let filled = sym c.is_empty.ensures ∙ c.if-is_empty.false in
    omega (
      arith,
      length-list_some OptionalTransitive 32 larges_text c.args.larges.now (length c.args.larges.now * 12)
          filled (sym values),
    )

pub put_large_values-requires : goal.put_large_values-requires
put_large_values-requires c =
    let values = length-larges_text c.args.larges.now in
    let filled = sym c.is_empty.ensures ∙ c.if-is_empty.false in
    let head = length-raw_head OptionalTransitive 32 (length c.args.larges.now * 12) in
    omega (
      arith,
      length-list_some OptionalTransitive 32 larges_text c.args.larges.now (length c.args.larges.now * 12)
          filled (sym values),
    )

pub returns : goal.returns
returns c =
    let values = length-larges_text c.args.larges.now in
    let filled = sym c.is_empty.ensures ∙ c.if-is_empty.false in
    list_appended OptionalTransitive 32 larges_text c.args.larges.now (length c.args.larges.now * 12) _ _ _ filled
    (sym values) c.put_head.ensures c.put_large_values.ensures
