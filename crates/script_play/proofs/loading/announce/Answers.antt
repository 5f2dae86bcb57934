use Rattle.std.proofs.Common.{ℕ, List, subst, ◌∙◌}
use Rattle.script_play.specs.Loading.{EntersAll, IsReplied}
use Rattle.script_play.proofs.loading.announce.Goals as goal

pub returns : goal.returns
returns c = λ cfg H counted.
    subst (λ (text : List ℕ). EntersAll (IsReplied text) cfg H c.enter.new.book c.enter.new.tally c.enter.result)
    (c.deref.ensures.0 ∙ c.announce_line-line.ensures) (c.enter.ensures cfg H counted)
