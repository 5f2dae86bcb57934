use Rattle.std.proofs.Common.{refl, false}
use Rattle.std.proofs.lemmas.List.{get_or-replicate}
use Rattle.attr_codec.proofs.reading.codes.Codes.new.Goals as goal

pub returns : goal.returns
returns c = record { len = refl; marked = λ code below. get_or-replicate 256 code false false below }
