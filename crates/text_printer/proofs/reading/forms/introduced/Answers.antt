use Rattle.std.proofs.Common.{refl}
use Rattle.std.proofs.lemmas.Bool.{false≢true}
use Rattle.text_forms.proofs.CutLemmas.{lacks_from_all}
use Rattle.text_printer.proofs.FormLemmas.{no_space, one_space, two_spaces, introduction_of, no_introduction}
use Rattle.text_printer.proofs.reading.forms.introduced.Goals as goal

pub returns-in_err-word-clause-none : goal.returns-in_err-word-clause-none
returns-in_err-word-clause-none c =
    rw c.from_residual.ensures (λ front rest is line_is.
    no_space c.args.line.now front rest (lacks_from_all 32 _ c.in_err-word.ensures.none) is line_is)

pub returns-in_err-number-clause-none : goal.returns-in_err-number-clause-none
returns-in_err-number-clause-none c =
    rw c.from_residual-in_err-number.ensures (λ front rest is line_is.
    one_space c.args.line.now c.in_ok-word.word.now c.in_ok-word.rest.now front rest c.in_ok-word.ensures.found
    (lacks_from_all 32 _ c.in_ok-word.ensures.first) (lacks_from_all 32 _ c.in_err-number.ensures.none) is line_is)

pub returns-in_err-place-clause-none : goal.returns-in_err-place-clause-none
returns-in_err-place-clause-none c =
    rw c.from_residual-in_err-place.ensures (λ front rest is line_is.
    two_spaces c.args.line.now c.in_ok-word.word.now c.in_ok-word.rest.now c.in_ok-number.number.now
    c.in_ok-number.rest.now front rest c.in_ok-word.ensures.found (lacks_from_all 32 _ c.in_ok-word.ensures.first)
    c.in_ok-number.ensures.found (lacks_from_all 32 _ c.in_ok-number.ensures.first)
    (lacks_from_all 32 _ c.in_err-place.ensures.none) is line_is)

pub returns-then-is_introduction-clause-found : goal.returns-then-is_introduction-clause-found
returns-then-is_introduction-clause-found c =
    introduction_of c.args.line.now c.in_ok-word.word.now c.in_ok-word.rest.now c.in_ok-number.number.now
    c.in_ok-number.rest.now c.in_ok-place.place.now c.in_ok-place.digits.now c.in_ok-word.ensures.found
    c.in_ok-number.ensures.found c.in_ok-place.ensures.found (c.if-is_introduction.ensures.0 refl)

pub returns-else-is_introduction-clause-none : goal.returns-else-is_introduction-clause-none
returns-else-is_introduction-clause-none c = λ front rest is line_is.
    no_introduction c.args.line.now c.in_ok-word.word.now c.in_ok-word.rest.now c.in_ok-number.number.now
    c.in_ok-number.rest.now c.in_ok-place.place.now c.in_ok-place.digits.now front rest c.in_ok-word.ensures.found
    c.in_ok-number.ensures.found c.in_ok-place.ensures.found (lacks_from_all 32 _ c.in_ok-word.ensures.first)
    (lacks_from_all 32 _ c.in_ok-number.ensures.first) (lacks_from_all 32 _ c.in_ok-place.ensures.first)
    (λ are. false≢true (c.if-is_introduction.ensures.1 are)) is line_is
