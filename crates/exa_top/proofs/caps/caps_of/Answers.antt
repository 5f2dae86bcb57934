use Rattle.std.proofs.Common.{sym, ◌∙◌}
use Rattle.exa_top.proofs.CapLemmas.{are_spelled, none_spelled}
use Rattle.exa_top.proofs.caps.caps_of.Goals as goal

pub returns-then-spell_caps-clause-found : goal.returns-then-spell_caps-clause-found
returns-then-spell_caps-clause-found c =
    are_spelled (λ w. w.now) c.args.words.now c.caps_in.result (sym c.spell_caps.ensures ∙ c.if-spell_caps.true)
    c.caps_in.ensures

pub returns-else-spell_caps-clause-none : goal.returns-else-spell_caps-clause-none
returns-else-spell_caps-clause-none c =
    none_spelled (λ w. w.now) c.args.words.now (sym c.spell_caps.ensures ∙ c.if-spell_caps.false)
