use Rattle.std.proofs.Common.{refl, sym, ◌∙◌}
use Rattle.book_core.proofs.planning.plan_section.Goals as goal

pub returns : goal.returns
returns c = record {
  planned = c.change.ensures;
  moves = record { slot = λ steps stands. stands; names = refl };
}

pub stay-requires : goal.stay-requires
stay-requires c = record {
  own = c.in-Some.own;
  placed = sym c.in-Some.ensures.value;
  peer = sym c.is_addr.ensures ∙ c.if-not-is_addr.false;
  same = sym c.is_same.ensures ∙ c.if-is_same.true;
}

pub change-requires-clause-placed : goal.change-requires-clause-placed
change-requires-clause-placed c = sym c.in-Some.ensures.value

pub change-requires-clause-held : goal.change-requires-clause-held
change-requires-clause-held c = record {
  own = c.in-Some.own;
  placed = sym c.in-Some.ensures.value;
  peer = sym c.is_addr.ensures ∙ c.if-not-is_addr.false;
  same = sym c.is_same.ensures ∙ c.if-is_same.false;
}
