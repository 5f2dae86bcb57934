use Rattle.std.proofs.Common.{sym, ◌∙◌}
use Rattle.update_grammar.proofs.ReadAttributesLemmas.{attr_whole}
use Rattle.attr_codec.proofs.AttributeLemmas.{attr_twice, attr_blamed}
use Rattle.attr_codec.proofs.reading.attribute.attr_of.Goals as goal

pub returns-then-has-clause-exact : goal.returns-then-has-clause-exact
returns-then-has-clause-exact c = λ before has.
    attr_twice _ _ before _ (sym c.has_flags.ensures ∙ c.if-not-has_flags.false)
    (sym (c.has.ensures before has) ∙ c.if-has.true)

pub returns-in-Ok-clause-exact : goal.returns-in-Ok-clause-exact
returns-in-Ok-clause-exact c = λ before has.
    attr_whole _ (record { place = c.args.place; codes = before }) _ _
    (sym c.has_flags.ensures ∙ c.if-not-has_flags.false) (sym (c.has.ensures before has) ∙ c.if-has.false)
    c.in-Ok.ensures

pub returns-in-Err-clause-exact : goal.returns-in-Err-clause-exact
returns-in-Err-clause-exact c = λ before has.
    rw c.fault_at.ensures.value
    (attr_blamed _ _ _ before _ (sym c.has_flags.ensures ∙ c.if-not-has_flags.false)
    (sym (c.has.ensures before has) ∙ c.if-has.false) c.in-Err.ensures)
