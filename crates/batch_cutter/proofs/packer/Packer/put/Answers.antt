use Rattle.std.proofs.Common.{◌≡◌, ap, sym, ◌∙◌, subst}
use Rattle.route_values.specs.Key.{family_of_key}
use Rattle.update_codec.specs.Open.{IsOpenHere, AddsHere, AddsGone}
use Rattle.std.specs.Bool.{OnTrue}
use Rattle.batch_cutter.specs.declared.kind.Kind.TheVariants as kind
use Rattle.batch_cutter.specs.Kinds.{family_of_kind}
use Rattle.batch_cutter.specs.Packing.{Packing}
use Rattle.batch_cutter.proofs.PutLemmas.{here_open, gone_added, here_added, on_true}
use Rattle.batch_cutter.proofs.packer.Packer.put.Goals as goal

pub put_here-requires : goal.put_here-requires
put_here-requires c =
    let packer : Packing = c.args.self.now in
    let is : packer.kind ≡ kind.Here c.in-Here.field-0 =
    sym (ap (λ (p : Packing). p.kind) c.self.view_is) ∙ c.in-Here.is in
    let family : family_of_key c.args.key.now ≡ c.in-Here.field-0 = c.requires.family ∙ ap family_of_kind is in
    let opened = here_open packer c.args.out.now (family_of_key c.args.key.now) c.requires.open
    (is ∙ ap kind.Here (sym family)) in
    record {
      «open» = subst (λ (p : Packing). IsOpenHere p.caps (family_of_key c.args.key.now) c.args.out.now.bytes)
          (sym c.self.view_is) opened;
    }

pub returns-in-Gone-clause-text : goal.returns-in-Gone-clause-text
returns-in-Gone-clause-text c = λ h keys holds.
    let packer : Packing = c.args.self.now in
    let key = c.args.key.now in
    let is : packer.kind ≡ kind.Gone c.in-Gone.field-0 =
    sym (ap (λ (p : Packing). p.kind) c.self.view_is) ∙ c.in-Gone.is in
    let family : family_of_key key ≡ c.in-Gone.field-0 = c.requires.family ∙ ap family_of_kind is in
    let adds : OnTrue c.put_unreach.result (AddsGone packer.caps (family_of_key key) key c.args.out.now.bytes
    c.put_unreach.new.out.bytes) =
    subst (λ (p : Packing). OnTrue c.put_unreach.result (AddsGone p.caps (family_of_key key) key c.args.out.now.bytes
    c.put_unreach.new.out.bytes)) c.self.view_is c.put_unreach.ensures.ok in
    on_true c.put_unreach.result
    (λ adds. gone_added packer.caps h keys (family_of_key key) key c.args.out.now.bytes
    c.put_unreach.new.out.bytes (ap kind.Gone family ∙ sym is ∙ holds.kind) adds holds.text) adds

pub returns-in-Here-clause-text : goal.returns-in-Here-clause-text
returns-in-Here-clause-text c = λ h keys holds.
    let packer : Packing = c.args.self.now in
    let key = c.args.key.now in
    let is : packer.kind ≡ kind.Here c.in-Here.field-0 =
    sym (ap (λ (p : Packing). p.kind) c.self.view_is) ∙ c.in-Here.is in
    let family : family_of_key key ≡ c.in-Here.field-0 = c.requires.family ∙ ap family_of_kind is in
    let adds : OnTrue c.put_here.result (AddsHere packer.caps (family_of_key key) key c.args.out.now.bytes
    c.put_here.new.out.bytes) =
    subst (λ (p : Packing). OnTrue c.put_here.result (AddsHere p.caps (family_of_key key) key c.args.out.now.bytes
    c.put_here.new.out.bytes)) c.self.view_is c.put_here.ensures.ok in
    on_true c.put_here.result
    (λ adds. here_added packer.caps h keys (family_of_key key) key c.args.out.now.bytes
    c.put_here.new.out.bytes (ap kind.Here family ∙ sym is ∙ holds.kind) adds holds.text) adds
