use Rattle.std.proofs.Common.{ap, refl, sym, ◌∙◌}
use Rattle.std.specs.Str.{bytes_eq}
use Rattle.exa_top.proofs.CapLemmas.{not_so_far, stands_at, stands_nowhere}
use Rattle.exa_top.proofs.caps.stands.Goals as goal

pub words-init : goal.words-init
words-init c = refl

pub returns-then-is : goal.returns-then-is
returns-then-is c =
    sym (stands_at (λ w. w.now) c.args.word.now c.args.words.now c.words.other-index _ c.words-test.true
    (ap (bytes_eq c.args.word.now) (sym c.as_bytes.ensures.value) ∙ sym c.is.ensures ∙ c.if-is.true))

pub words-preserved : goal.words-preserved
words-preserved c =
    not_so_far (λ w. w.now) c.args.word.now c.args.words.now c.words.other-index _ c.words-test.true
    c.words.invariant (ap (bytes_eq c.args.word.now) (sym c.as_bytes.ensures.value) ∙ sym c.is.ensures ∙ c.if-is.false)

pub returns : goal.returns
returns c =
    sym (stands_nowhere (λ w. w.now) c.args.word.now c.args.words.now c.words.other-index c.words-test.false
    c.words.invariant)
