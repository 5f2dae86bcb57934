use Rattle.std.proofs.Common.{None, Some, ap, sym, ◌∙◌}
use Rattle.std.specs.Option.{option_and_then}
use Rattle.script_grammar.specs.Caps.{caps_in, caps_kept}
use Rattle.script_grammar.proofs.CapLemmas.{say_last, say_step}
use Rattle.script_grammar.proofs.WordLemmas.{behind_shorter}
use Rattle.script_grammar.proofs.caps.caps_in.Goals as goal

pub returns-in_default-with_word : goal.returns-in_default-with_word
unfolding caps_in
returns-in_default-with_word c =
    sym (ap (option_and_then caps_kept) (say_step c.args.text.now c.words.rest.now c.in-Some.word.now
    c.in-Some.behind.now c.words.said None c.in-Some.ensures.found
    (sym c.with_word.ensures ∙ c.in_default-with_word.is) c.words.invariant))

pub words-smaller : goal.words-smaller
words-smaller c = behind_shorter c.words.rest.now c.in-Some.word.now c.in-Some.behind.now c.in-Some.ensures.found

pub words-preserved : goal.words-preserved
words-preserved c =
    say_step c.args.text.now c.words.rest.now c.in-Some.word.now c.in-Some.behind.now c.words.said
    (Some c.in-Some-with_word.more) c.in-Some.ensures.found (sym c.with_word.ensures ∙ c.in-Some-with_word.is)
    c.words.invariant

pub returns-in_default-with_word-2 : goal.returns-in_default-with_word-2
unfolding caps_in
returns-in_default-with_word-2 c =
    sym (ap (option_and_then caps_kept) (say_last c.args.text.now c.words.rest.now c.words.said None
    c.in_default.ensures.none (sym c.with_word-2.ensures ∙ c.in_default-with_word-2.is) c.words.invariant))

pub returns : goal.returns
unfolding caps_in
returns c =
    c.caps.ensures
    ∙ sym (ap (option_and_then caps_kept) (say_last c.args.text.now c.words.rest.now c.words.said
    (Some c.in-Some-with_word-2.whole) c.in_default.ensures.none
    (sym c.with_word-2.ensures ∙ c.in-Some-with_word-2.is) c.words.invariant))
