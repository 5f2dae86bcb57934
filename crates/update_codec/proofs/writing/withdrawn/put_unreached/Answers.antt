use Rattle.std.proofs.Common.{ap, length}
use Rattle.update_codec.proofs.UnreachLemmas.{unreached_more}
use Rattle.update_codec.proofs.writing.withdrawn.put_unreached.Goals as goal

pub returns-clause-bytes : goal.returns-clause-bytes
returns-clause-bytes c = λ prefixes is.
    unreached_more prefixes _ _ _ _ _ is (ap length c.bytes.ensures.value) c.put_last.ensures.bytes
    c.close_attributes.ensures.bytes
