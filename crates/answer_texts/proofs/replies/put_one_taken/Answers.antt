use Rattle.answer_texts.proofs.TextLemmas.{then}
use Rattle.answer_texts.proofs.replies.put_one_taken.Goals as goal

pub returns : goal.returns
returns c =
    (then c.in_ok-put.ensures.piece
    c.in_ok-put_one.ensures.piece).after_is
