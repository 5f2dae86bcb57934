use Rattle.std.proofs.Common.{refl, sym, ◌∙◌, arith}
use Rattle.std.proofs.lemmas.Bool.{false≢true}
use Rattle.text_printer.proofs.FrameLemmas.{body_found, unsized, no_header, cut_at}
use Rattle.text_printer.proofs.reading.frame.update_body.Goals as goal

pub returns-then-not-is_sized-clause-none : goal.returns-then-not-is_sized-clause-none
returns-then-not-is_sized-clause-none c = λ body is.
    unsized c.args.caps.now c.args.bytes.now body (λ i. omega (arith, c.type_inv.bytes i))
    (λ sized. false≢true (sym c.if-not-is_sized.true ∙ c.is_sized.ensures.1 sized)) is

pub returns-then-is-clause-found : goal.returns-then-is-clause-found
returns-then-is-clause-found c =
    body_found c.args.caps.now c.args.bytes.now c.split_at.result.0.now c.split_at.result.1.now
    (c.is_sized.ensures.0 c.if-not-is_sized.false)
    (cut_at c.args.bytes.now c.split_at.result.0.now c.split_at.result.1.now c.split_at.ensures.front
    c.split_at.ensures.back) c.split_at.ensures.front_len (c.if-is.ensures.0 refl ∙ c.header.ensures)

pub returns-else-is-clause-none : goal.returns-else-is-clause-none
returns-else-is-clause-none c = λ body is.
    no_header c.args.caps.now c.args.bytes.now c.split_at.result.0.now c.split_at.result.1.now body
    (λ i. omega (arith, c.type_inv.bytes i))
    (cut_at c.args.bytes.now c.split_at.result.0.now c.split_at.result.1.now c.split_at.ensures.front
    c.split_at.ensures.back) c.split_at.ensures.front_len
    (λ same. false≢true (c.if-is.ensures.1 (same ∙ sym c.header.ensures))) is
