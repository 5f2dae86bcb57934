use Rattle.std.proofs.Common.{◌∙◌, arith}
use Rattle.text_forms.proofs.WordLemmas.{words_of-none, words_of-behind, first_of, words_of-first, first_shorter}
use Rattle.text_forms.proofs.word.first_word.Goals as goal

pub returns-then-len-eq0-clause-none : goal.returns-then-len-eq0-clause-none
returns-then-len-eq0-clause-none c =
    let at_end = rw c.if-len-eq0.true at c.word_len-len.ensures.end in
    let none = words_of-none c.without_blanks-rest.result.now at_end c.without_blanks-rest.ensures.begins in
    words_of-behind c.args.text.now c.without_blanks-rest.result.now c.without_blanks-rest.ensures.behind ∙ none

pub returns-else-len-eq0-clause-place : goal.returns-else-len-eq0-clause-place
returns-else-len-eq0-clause-place c =
    let rest = c.without_blanks-rest.result.now in
    let first = first_of c.args.text.now rest c.word_len-len.result c.without_blanks-rest.ensures.behind
    c.word_len-len.ensures.word c.word_len-len.ensures.end (omega arith) c.word_len-len.ensures.within in
    rw (c.split_at.ensures.front, c.split_at.ensures.back) first

pub returns-else-len-eq0-clause-found : goal.returns-else-len-eq0-clause-found
returns-else-len-eq0-clause-found c =
    words_of-first c.args.text.now c.split_at.result.0.now c.split_at.result.1.now (returns-else-len-eq0-clause-place c)

pub returns-else-len-eq0-clause-shorter : goal.returns-else-len-eq0-clause-shorter
returns-else-len-eq0-clause-shorter c =
    first_shorter c.args.text.now c.split_at.result.0.now c.split_at.result.1.now (returns-else-len-eq0-clause-place c)
