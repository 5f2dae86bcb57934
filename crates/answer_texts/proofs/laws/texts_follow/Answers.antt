use Rattle.answer_texts.proofs.TextLemmas.{all_follow}
use Rattle.answer_texts.proofs.laws.texts_follow.Goals as goal

pub returns : goal.returns
returns c = all_follow
