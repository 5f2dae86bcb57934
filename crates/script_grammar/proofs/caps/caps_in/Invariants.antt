use Rattle.std.proofs.Common.{◌≡◌, length}
use Rattle.script_grammar.specs.Caps.{nothing_said, say_words, words_between}
use Rattle.script_grammar.proofs.caps.caps_in.Given as goal

abbrev pub invariant-words : goal.invariant-words
invariant-words l =
    say_words nothing_said (words_between l.fn.text) ≡ say_words l.said (words_between l.rest)

abbrev pub decreases-words : goal.decreases-words
decreases-words l = length l.rest
