use Rattle.std.proofs.Common.{◌≡◌, true, false, sym, ◌∙◌}
use Rattle.book_core.proofs.announcing.prepare.Goals as goal

pub returns-then-not-so : goal.returns-then-not-so
returns-then-not-so c = record {
  stands = λ steps stands. stands;
  readied = λ so. absurd (let never : true ≡ false = sym so ∙ c.if-not-so.true in cc);
}

pub prepare_chosen-requires : goal.prepare_chosen-requires
prepare_chosen-requires c = c.requires c.if-not-so.false
