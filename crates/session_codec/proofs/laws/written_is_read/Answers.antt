use Rattle.session_codec.proofs.OfferLemmas.{written_read}
use Rattle.session_codec.proofs.laws.written_is_read.Goals as goal

pub returns : goal.returns
returns c = written_read
