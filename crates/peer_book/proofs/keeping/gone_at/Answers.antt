use Rattle.std.proofs.Common.{Some, None, sym, ap, ◌∙◌}
use Rattle.std.specs.Prelude.{if◌then◌else◌}
use Rattle.peer_book.specs.Keeping.{gone_key}
use Rattle.peer_book.proofs.keeping.gone_at.Goals as goal

pub returns-in_default : goal.returns-in_default
returns-in_default c = ap (gone_key c.args.numbers.now) c.in_default.ensures

pub returns-then-not-is_gone : goal.returns-then-not-is_gone
returns-then-not-is_gone c =
    sym (ap (λ b. if b then Some c.in-Some.key.now else None) (sym c.is_gone.ensures ∙ c.if-not-is_gone.true))
    ∙ ap (gone_key c.args.numbers.now) c.in-Some.ensures

pub returns : goal.returns
returns c =
    sym (ap (λ b. if b then Some c.in-Some.key.now else None) (sym c.is_gone.ensures ∙ c.if-not-is_gone.false))
    ∙ ap (gone_key c.args.numbers.now) c.in-Some.ensures
