use Rattle.std.proofs.Common.{List, [], ◌∷◌, ◌++◌, ap, sym, ◌∙◌, subst}
use Rattle.attr_codec.specs.Buffer.{Buffer}
use Rattle.route_values.specs.declared.key.Key.{Key}
use Rattle.batch_cutter.specs.Groups.{Names}
use Rattle.batch_cutter.specs.Heads.{Fits}
use Rattle.batch_cutter.specs.Items.{front, keys_of}
use Rattle.batch_cutter.specs.Kinds.{HasKeys}
use Rattle.batch_cutter.specs.Packing.{Packing, Adds}
use Rattle.batch_cutter.proofs.PackLemmas.{next_due, front_next, under_begun, under_more, closed_none, closed_long}
use Rattle.batch_cutter.proofs.PackLemmas.{some_none, some_long, keys_there, under_made}
use Rattle.batch_cutter.proofs.PutLemmas.{told, told_not, refuted}
use Rattle.batch_cutter.proofs.filling.pack.Goals as goal

pub items-init : goal.items-init
items-init g c =
    under_begun g.B.Batch.left g.B.Batch.passes c.args.group c.args.batch.now c.args.packer c.args.out.now
    c.requires.begun

pub items-preserved : goal.items-preserved
items-preserved g c =
    let left = g.B.Batch.left in
    let next = next_due c.args.group _ (left c.items.batch) c.in-Some.key c.due.ensures.item c.in-Some.ensures in
    let added : Adds c.in-Some.key c.items.packer c.add.new.self c.items.out c.add.new.out =
    told {P = Adds c.in-Some.key c.items.packer c.add.new.self c.items.out c.add.new.out} c.add.result
    c.if-not-add.false c.add.ensures.added in
    under_more left g.B.Batch.passes c.args.group c.args.batch.now c.items.batch c.sent.new.self c.args.packer
    c.items.packer c.add.new.self c.args.out.now c.items.out c.add.new.out c.in-Some.key c.items.invariant next
    added c.add.ensures.room c.sent.ensures.left
    (c.sent.ensures.passed next.item (front_next c.args.group (left c.items.batch) c.in-Some.key next))

pub finish-requires-clause-keyed : goal.finish-requires-clause-keyed
finish-requires-clause-keyed g c =
    let left = g.B.Batch.left in
    let under = c.items.invariant in
    let next = next_due c.args.group _ (left c.items.batch) c.in-Some.key c.due.ensures.item c.in-Some.ensures in
    let long : ¬ (Fits c.items.packer.caps under.begun.head (keys_of under.items ++ c.in-Some.key ∷ [])) =
    λ fits. refuted c.add.result c.if-not-add.true
    ((c.add.ensures.fits under.begun.head (keys_of under.items) under.holds).1 fits) in
    let some = some_long left g.B.Batch.passes c.args.group c.args.batch.now c.items.batch c.args.packer c.items.packer
    c.args.out.now c.items.out c.in-Some.key under next long in
    let same = told_not c.add.result c.if-not-add.true c.add.ensures.refused in
    subst (λ (p : Packing). HasKeys p.kind p.filled) (sym same.0)
    (keys_there left g.B.Batch.passes c.args.group c.args.batch.now c.items.batch c.args.packer c.items.packer
    c.args.out.now c.items.out under some)

pub returns-then-not-add-clause-message : goal.returns-then-not-add-clause-message
returns-then-not-add-clause-message g c =
    let left = g.B.Batch.left in
    let under = c.items.invariant in
    let keys : List Key = keys_of under.items in
    let next = next_due c.args.group _ (left c.items.batch) c.in-Some.key c.due.ensures.item c.in-Some.ensures in
    let long : ¬ (Fits c.items.packer.caps under.begun.head (keys ++ c.in-Some.key ∷ [])) =
    λ fits. refuted c.add.result c.if-not-add.true ((c.add.ensures.fits under.begun.head keys under.holds).1 fits) in
    let some = some_long left g.B.Batch.passes c.args.group c.args.batch.now c.items.batch c.args.packer c.items.packer
    c.args.out.now c.items.out c.in-Some.key under next long in
    let same = told_not c.add.result c.if-not-add.true c.add.ensures.refused in
    let names : Names c.args.group (front (left c.items.batch)) c.in-Some.key =
    subst (λ o. Names c.args.group o c.in-Some.key) c.due.ensures.item c.in-Some.ensures in
    under_made left g.B.Batch.passes c.args.group c.args.batch.now c.items.batch c.args.packer c.items.packer
    c.args.out.now c.items.out c.finish.new.out.bytes under some
    (ap (λ (b : Buffer). b.bytes) (c.finish.ensures.same ∙ same.1) ∙ under.holds.text)
    (closed_long c.items.packer.caps c.args.group under.begun.head keys (left c.items.batch) c.in-Some.key names long)

pub finish-requires-2-clause-keyed : goal.finish-requires-2-clause-keyed
finish-requires-2-clause-keyed g c =
    let left = g.B.Batch.left in
    let under = c.items.invariant in
    let none : (key : Key) → ¬ (Names c.args.group (front (left c.items.batch)) key) =
    subst (λ o. (key : Key) → ¬ (Names c.args.group o key)) c.due.ensures.item c.in_default.ensures in
    let some = some_none left g.B.Batch.passes c.args.group c.args.batch.now c.items.batch c.args.packer c.items.packer
    c.args.out.now c.items.out under none in
    keys_there left g.B.Batch.passes c.args.group c.args.batch.now c.items.batch c.args.packer c.items.packer
    c.args.out.now c.items.out under some

pub returns-clause-message : goal.returns-clause-message
returns-clause-message g c =
    let left = g.B.Batch.left in
    let under = c.items.invariant in
    let none : (key : Key) → ¬ (Names c.args.group (front (left c.items.batch)) key) =
    subst (λ o. (key : Key) → ¬ (Names c.args.group o key)) c.due.ensures.item c.in_default.ensures in
    let some = some_none left g.B.Batch.passes c.args.group c.args.batch.now c.items.batch c.args.packer c.items.packer
    c.args.out.now c.items.out under none in
    under_made left g.B.Batch.passes c.args.group c.args.batch.now c.items.batch c.args.packer c.items.packer
    c.args.out.now c.items.out c.finish-2.new.out.bytes under some
    (ap (λ (b : Buffer). b.bytes) c.finish-2.ensures.same ∙ under.holds.text)
    (closed_none c.items.packer.caps c.args.group under.begun.head (keys_of under.items) (left c.items.batch)
    under.chooses none)
