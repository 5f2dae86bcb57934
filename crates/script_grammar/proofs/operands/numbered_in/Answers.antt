use Rattle.std.proofs.Common.{ap, sym, ◌∙◌}
use Rattle.std.specs.Option.{option_and_then, option_map}
use Rattle.script_grammar.specs.Reading.{numbered, numbered_in, numbered_of}
use Rattle.script_grammar.specs.Words.{longs, number_below}
use Rattle.script_grammar.proofs.operands.numbered_in.Goals as goal

pub returns-in_default : goal.returns-in_default
unfolding numbered_in
returns-in_default c = sym (ap (option_and_then numbered_of) c.in_default.ensures.none)

pub returns-in_default-helper : goal.returns-in_default-helper
unfolding numbered_in
returns-in_default-helper c =
    sym (ap (option_and_then numbered_of) c.in-Some.ensures.found
    ∙ ap (option_and_then (λ h. option_map (numbered h) (number_below longs c.in-Some.rest.now)))
    (sym c.helper.ensures ∙ c.in_default-helper.is))

pub returns-in_default-long : goal.returns-in_default-long
unfolding numbered_in
returns-in_default-long c =
    sym (ap (option_and_then numbered_of) c.in-Some.ensures.found
    ∙ ap (option_and_then (λ h. option_map (numbered h) (number_below longs c.in-Some.rest.now)))
    (sym c.helper.ensures ∙ c.in-Some-helper.is)
    ∙ ap (option_map (numbered c.in-Some-helper.h)) (sym c.long.ensures ∙ c.in_default-long.is))

pub returns : goal.returns
unfolding numbered_in
returns c =
    sym (ap (option_and_then numbered_of) c.in-Some.ensures.found
    ∙ ap (option_and_then (λ h. option_map (numbered h) (number_below longs c.in-Some.rest.now)))
    (sym c.helper.ensures ∙ c.in-Some-helper.is)
    ∙ ap (option_map (numbered c.in-Some-helper.h)) (sym c.long.ensures ∙ c.in-Some-long.is))
