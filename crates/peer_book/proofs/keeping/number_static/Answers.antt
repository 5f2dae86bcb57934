use Rattle.std.proofs.Common.{[], ◌∷◌, sym, ap, ◌∙◌}
use Rattle.std.specs.Prelude.{is_some, Option, ℕ}
use Rattle.peer_book.specs.Statics.{static_of}
use Rattle.peer_book.proofs.NumberLemmas.{some_same, some_readies, numbered_old, numbered_new}
use Rattle.peer_book.proofs.keeping.number_static.Goals as goal

pub returns-then-is_some-clause-ok : goal.returns-then-is_some-clause-ok
returns-then-is_some-clause-ok c = λ statics are.
    numbered_old c.args.table.now statics (static_of c.args.route.now) c.args.numbers.now
    (ap (λ (o : Option ℕ). is_some o) (sym c.get.ensures) ∙ sym c.is_some.ensures ∙ c.if-is_some.true) are

pub returns-then-is_some-clause-some : goal.returns-then-is_some-clause-some
returns-then-is_some-clause-some c = some_same c.args.table.now (c.args.route.now.key ∷ [])

pub returns-in_err-number-clause-some : goal.returns-in_err-number-clause-some
returns-in_err-number-clause-some c = c.in_err-number.ensures.err

pub returns-in_err-put-clause-some : goal.returns-in_err-put-clause-some
returns-in_err-put-clause-some c =
    some_readies c.args.table.now c.ready.new.self (c.args.route.now.key ∷ []) c.args.route.now.attrs
    c.in_ok-number.number c.in_ok-number.ensures.ok

pub returns-clause-ok : goal.returns-clause-ok
returns-clause-ok c = λ statics are.
    numbered_new c.args.table.now c.ready.new.self statics (static_of c.args.route.now) c.args.numbers.now
    c.put.new.self c.in_ok-number.number c.in_ok-number.ensures.ok
    (ap (λ (o : Option ℕ). is_some o) (sym c.get.ensures) ∙ sym c.is_some.ensures ∙ c.if-is_some.false)
    c.in_ok-put.ensures are

pub returns-clause-some : goal.returns-clause-some
returns-clause-some c =
    some_readies c.args.table.now c.ready.new.self (c.args.route.now.key ∷ []) c.args.route.now.attrs
    c.in_ok-number.number c.in_ok-number.ensures.ok
