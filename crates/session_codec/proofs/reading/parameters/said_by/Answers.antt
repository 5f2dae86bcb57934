use Rattle.std.proofs.Common.{sym, ◌∙◌}
use Rattle.session_codec.proofs.ReadingLemmas.{caps_shorter, caps_go_on, caps_stop, caps_end}
use Rattle.session_codec.proofs.reading.parameters.said_by.Goals as goal

pub returns-in_default : goal.returns-in_default
returns-in_default c =
    caps_stop _ _ _ _ (sym c.is_empty.ensures ∙ c.caps-test.true) c.in_default.ensures c.refused.ensures
    c.caps.invariant

pub caps-smaller : goal.caps-smaller
caps-smaller c = caps_shorter _ _ _ c.in-Some.ensures

pub caps-preserved : goal.caps-preserved
caps-preserved c =
    caps_go_on _ _ _ _ _ _ _ c.in-Some.ensures c.said_of.ensures c.followed_by-said.ensures c.caps.invariant

pub returns : goal.returns
returns c = caps_end _ _ _ (sym c.is_empty.ensures ∙ c.caps-test.false) c.caps.invariant
