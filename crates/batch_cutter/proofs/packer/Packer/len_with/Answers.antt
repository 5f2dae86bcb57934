use Rattle.std.proofs.Common.{◌≡◌, ◌+◌, length, arith, ap, ◌∙◌}
use Rattle.batch_cutter.specs.Sizes.{field_size}
use Rattle.batch_cutter.proofs.SizeLemmas.{field_least, field_in}
use Rattle.batch_cutter.proofs.packer.Packer.len_with.Goals as goal

pub field_len-requires : goal.field_len-requires
field_len-requires c =
    let packer = c.args.self.now in
    let opened = c.requires.open in
    let within = field_in packer opened.head opened.keys c.args.out.now opened.holds c.requires.keyed in
    omega (
      arith,
      within,
      field_least packer.kind packer.filled,
      ap (λ p. p.filled) c.self.view_is,
      ap length c.bytes.ensures.value,
    )

pub overflow_sub-rest : goal.overflow_sub-rest
overflow_sub-rest c =
    let packer = c.args.self.now in
    let opened = c.requires.open in
    let within = field_in packer opened.head opened.keys c.args.out.now opened.holds c.requires.keyed in
    let field : c.field_len.result ≡ field_size packer.kind packer.filled =
    c.field_len.ensures.value ∙ ap (λ p. field_size p.kind p.filled) c.self.view_is in
    omega (arith, within, field, ap length c.bytes.ensures.value)

pub field_len-requires-2 : goal.field_len-requires-2
field_len-requires-2 c =
    let packer = c.args.self.now in
    let opened = c.requires.open in
    let within = field_in packer opened.head opened.keys c.args.out.now opened.holds c.requires.keyed in
    omega (
      arith,
      within,
      field_least packer.kind packer.filled,
      ap (λ p. p.filled) c.self.view_is,
      ap length c.bytes.ensures.value,
    )

pub returns : goal.returns
returns c =
    let packer = c.args.self.now in
    let opened = c.requires.open in
    let within = field_in packer opened.head opened.keys c.args.out.now opened.holds c.requires.keyed in
    let old : c.field_len.result ≡ field_size packer.kind packer.filled =
    c.field_len.ensures.value ∙ ap (λ p. field_size p.kind p.filled) c.self.view_is in
    let new : c.field_len-2.result ≡ field_size packer.kind (packer.filled + c.args.more) =
    c.field_len-2.ensures.value ∙ ap (λ p. field_size p.kind (p.filled + c.args.more)) c.self.view_is in
    omega (arith, within, old, new, ap length c.bytes.ensures.value)
