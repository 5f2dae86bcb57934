use Rattle.std.proofs.Common.{[], ap, sym, ◌∙◌, subst}
use Rattle.attr_codec.specs.Buffer.{Buffer}
use Rattle.update_grammar.specs.Head as head
use Rattle.batch_cutter.specs.Filling.{Fills}
use Rattle.batch_cutter.specs.Heads.{TakesAKey}
use Rattle.batch_cutter.specs.Items.{End}
use Rattle.batch_cutter.specs.Packing.{Holds}
use Rattle.batch_cutter.proofs.PackLemmas.{marker_made, begun_here}
use Rattle.batch_cutter.proofs.filling.fill.Goals as goal

pub pack-requires-in-Here : goal.pack-requires-in-Here
pack-requires-in-Here g c =
    let w = c.in-Here.attrs.now in
    let key = c.in-Here.key.now in
    let packer = c.begin-packer-in-Here.result in
    let out = c.begin-packer-in-Here.new.out in
    let first = subst (λ caps. TakesAKey caps (head.Here c.family.result w)) (sym c.begin-packer-in-Here.ensures.caps)
    c.begin-packer-in-Here.ensures.first in
    record {
      begun = begun_here (g.B.Batch.left c.args.batch.now) c.in-Here.number key w packer out
          (sym c.in-Here.ensures.item) c.in-Here.ensures.numbered
          (subst (λ f. Holds packer (head.Here f w) [] out) c.family.ensures c.begin-packer-in-Here.ensures.holds)
          (subst (λ f. TakesAKey packer.caps (head.Here f w)) c.family.ensures first) c.in-Here.ensures.grouped;
    }

pub returns-in-End-clause-message : goal.returns-in-End-clause-message
returns-in-End-clause-message g c =
    let family = c.in-End.family in
    let made : Fills g.B.Batch.left g.B.Batch.passes c.begin.result.caps c.args.batch.now c.sent.new.self
    c.finish.new.out.bytes =
    marker_made g.B.Batch.left g.B.Batch.passes c.begin.result.caps c.args.batch.now c.sent.new.self family
    c.finish.new.out.bytes (sym c.in-End.ensures.item) c.sent.ensures.left
    (c.sent.ensures.passed (End family) (sym c.in-End.ensures.item))
    (ap (λ (b : Buffer). b.bytes) c.finish.ensures.same ∙ c.begin.ensures.holds.text)
    c.begin.ensures.holds.fits c.in-End.ensures.grouped in
    subst (λ caps. Fills g.B.Batch.left g.B.Batch.passes caps c.args.batch.now c.sent.new.self c.finish.new.out.bytes)
    c.begin.ensures.caps made
