use Rattle.update_codec.proofs.WalkLemmas.{four_bytes, size_within, dropped_behind}
use Rattle.update_codec.proofs.writing.reached.behind_attribute.Goals as goal

pub attribute_len-requires : goal.attribute_len-requires
attribute_len-requires c = four_bytes c.args.bytes.now c.requires

pub split_at-requires : goal.split_at-requires
split_at-requires c = size_within c.args.bytes.now c.attribute_len.result c.requires c.attribute_len.ensures.value

pub returns-clause-rest : goal.returns-clause-rest
returns-clause-rest c = dropped_behind c.args.bytes.now _ c.attribute_len.result c.attribute_len.ensures.value
    c.split_at.ensures.back
