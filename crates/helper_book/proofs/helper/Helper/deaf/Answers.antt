use Rattle.helper_book.proofs.EndLemmas.{deaf_at}
use Rattle.helper_book.proofs.helper.Helper.deaf.Goals as goal

pub returns : goal.returns
returns c = λ cfg H h is.
    deaf_at cfg H h c.args.inc c.args.self.now _ c.deaf.new.self c.self.view_is c.deaf.ensures is
