use Rattle.std.proofs.Common.{refl, sym, subst}
use Rattle.std.specs.Result.{IfOk}
use Rattle.std.specs.Option.{option_copied}
use Rattle.book_core.specs.Changing.{IsPlanned}
use Rattle.book_core.proofs.planning.plan.Goals as goal

pub returns-in-Some : goal.returns-in-Some
returns-in-Some c = record {
  planned = subst (λ s. IfOk c.plan_section.result (λ change. IsPlanned c.plan_section.new.peering (option_copied s)
      change)) (sym c.in-Some.is) c.plan_section.ensures.planned;
  moves = c.plan_section.ensures.moves;
}

pub returns-in-None : goal.returns-in-None
returns-in-None c = record {
  planned = subst (λ s. IfOk c.leave.result (λ change. IsPlanned c.args.peering.now (option_copied s) change))
      (sym c.in-None.is) c.leave.ensures;
  moves = record { slot = λ steps stands. stands; names = refl };
}
