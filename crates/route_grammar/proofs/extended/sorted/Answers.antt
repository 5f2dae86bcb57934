use Rattle.std.proofs.Common.{arith}
use Rattle.text_forms.proofs.OptionLemmas.{none_map}
use Rattle.route_grammar.proofs.ExtendedLemmas.{parts_uncut, no_low, no_parts}
use Rattle.route_grammar.proofs.extended.sorted.Goals as goal

pub returns-in_err-sort-clause-none : goal.returns-in_err-sort-clause-none
returns-in_err-sort-clause-none c =
    rw c.from_residual.ensures (λ sort text low bytes is are same. c.in_err-sort.ensures.none sort is)

pub returns-in_err-text-clause-none : goal.returns-in_err-text-clause-none
returns-in_err-text-clause-none c =
    rw c.from_residual-in_err-text.ensures (λ sort text low bytes is are same.
    parts_uncut c.args.parts.now text low c.in_err-text.ensures.none same)

pub returns-in_err-low-clause-none : goal.returns-in_err-low-clause-none
returns-in_err-low-clause-none c =
    rw c.from_residual-in_err-low.ensures (λ sort text low bytes is are same.
    no_low c.args.parts.now c.in_ok-text.text.now c.in_ok-text.rest.now text bytes sort low
    c.in_ok-text.ensures.first c.in_ok-text.ensures.found c.in_err-low.ensures.none are same)

pub returns-clause-none : goal.returns-clause-none
returns-clause-none c =
    none_map c.bytes_of.result _ _
    (λ none sort text low bytes is are same. no_parts c.args.name.now c.args.parts.now c.in_ok-text.text.now
    c.in_ok-text.rest.now text bytes c.in_ok-sort.sort c.in_ok-low.low sort low c.in_ok-sort.ensures.found
    c.in_ok-text.ensures.first c.in_ok-text.ensures.found c.in_ok-low.ensures.found (omega arith) none is are same)
    c.bytes_of.ensures.none
