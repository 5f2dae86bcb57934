use Rattle.std.proofs.Common.{◌∙◌, Bool, ap, ap₂}
use Rattle.std.specs.Prelude.{is_some, nat_lt, ◌||◌}
use Rattle.adj_rib_out.proofs.trim_keys.is_kept.Goals as goal

pub returns : goal.returns
returns c = c.either-2.ensures ∙ ap₂ (λ (a b : Bool). a || b) c.is_chosen.ensures
    (c.either.ensures ∙ ap₂ (λ (a b : Bool). a || b) (ap (nat_lt 1) c.sent.ensures.value)
    (c.is_some.ensures ∙ ap is_some c.left.ensures))
