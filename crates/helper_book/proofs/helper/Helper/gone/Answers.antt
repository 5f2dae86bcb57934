use Rattle.helper_book.proofs.EndLemmas.{gone_at}
use Rattle.helper_book.proofs.helper.Helper.gone.Goals as goal

pub returns : goal.returns
returns c = λ cfg H h is.
    gone_at cfg H h c.args.inc c.args.self.now _ c.gone.new.self c.self.view_is c.gone.ensures is
