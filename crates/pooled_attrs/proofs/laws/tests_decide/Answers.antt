use Rattle.std.proofs.Common.{ap}
use Rattle.pooled_attrs.specs.SameLemmas.{keys_decide, written_decide, wire_decide}
use Rattle.pooled_attrs.proofs.laws.tests_decide.Goals as goal

pub returns-clause-keys : goal.returns-clause-keys
returns-clause-keys c = λ a b. keys_decide a b

pub returns-clause-written : goal.returns-clause-written
returns-clause-written c = λ a b. (
  λ same i. record { attrs = (written_decide a.attrs b.attrs).0 same i },
  λ is. (written_decide a.attrs b.attrs).1 (ap (λ w. w.attrs) is),
)

pub returns-clause-wire : goal.returns-clause-wire
returns-clause-wire c = λ a b. (
  λ same i. record { attrs = (wire_decide a.attrs b.attrs).0 same i },
  λ is. (wire_decide a.attrs b.attrs).1 (ap (λ w. w.attrs) is),
)
