use Rattle.std.proofs.Common.{arith, sym, ◌*◌, ◌∙◌, length}
use Rattle.update_grammar.specs.Values.{numbers_text}
use Rattle.attr_codec.proofs.AppendedLemmas.{list_appended}
use Rattle.attr_codec.proofs.SizeLemmas.{length-numbers_text, length-list_some, length-raw_head}
use Rattle.attr_codec.proofs.writing.lists.put_u32s.Goals as goal

pub put_head-requires-clause-small : goal.put_head-requires-clause-small
put_head-requires-clause-small c =
    let values = length-numbers_text c.args.numbers.now in
    let filled = sym c.is_empty.ensures ∙ c.if-is_empty.false in
    omega (
      arith,
      length-list_some c.args.kind c.args.code numbers_text c.args.numbers.now
          (length c.args.numbers.now * 4) filled (sym values),
    )

pub put_numbers-requires : goal.put_numbers-requires
put_numbers-requires c =
    let values = length-numbers_text c.args.numbers.now in
    let filled = sym c.is_empty.ensures ∙ c.if-is_empty.false in
    let head = length-raw_head c.args.kind c.args.code (length c.args.numbers.now * 4) in
    omega (
      arith,
      length-list_some c.args.kind c.args.code numbers_text c.args.numbers.now
          (length c.args.numbers.now * 4) filled (sym values),
    )

pub returns : goal.returns
returns c =
    let values = length-numbers_text c.args.numbers.now in
    let filled = sym c.is_empty.ensures ∙ c.if-is_empty.false in
    list_appended c.args.kind c.args.code numbers_text c.args.numbers.now (length c.args.numbers.now * 4) _ _ _ filled
    (sym values) c.put_head.ensures c.put_numbers.ensures
