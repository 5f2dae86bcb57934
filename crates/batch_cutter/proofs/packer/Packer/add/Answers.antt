use Rattle.std.proofs.Common.{ℕ, ◌≡◌, ◌+◌, Bool, List, [], ◌∷◌, ◌++◌, length, arith, refl, ap, ◌∙◌}
use Rattle.route_values.specs.declared.key.Key.{Key}
use Rattle.route_values.specs.Key.{family_of_key}
use Rattle.route_values.specs.Visible.{has_path}
use Rattle.update_grammar.specs.Head.{Head}
use Rattle.update_grammar.specs.Packed.{room}
use Rattle.update_grammar.specs.Prefixes.{key_text}
use Rattle.update_grammar.specs.Written.{written}
use Rattle.batch_cutter.specs.Heads.{Fits}
use Rattle.batch_cutter.specs.Packing.{Packing, Holds}
use Rattle.batch_cutter.proofs.PutLemmas.{told}
use Rattle.batch_cutter.proofs.SizeLemmas.{field_least, field_in, length-more, adds_one, opened_more, has_keys}
use Rattle.batch_cutter.proofs.SizeLemmas.{room_between}
use Rattle.batch_cutter.proofs.packer.Packer.add.Goals as goal

-- a packer whose prefixes have so many bytes more
abbrev the_more : Packing → ℕ → Packing
the_more packer more = record { caps = packer.caps; kind = packer.kind; filled = packer.filled + more }

-- how many bytes a key takes, by the capabilities of the packer
len_by : (packer inside : Packing) (key : Key) (path : Bool) (len : ℕ) → inside ≡ packer
    → path ≡ has_path inside.caps (family_of_key key) → len ≡ length (key_text path key)
    → len ≡ length (key_text (has_path packer.caps (family_of_key key)) key)
len_by packer inside key path len is path_is len_is =
    len_is ∙ ap (λ p. length (key_text p key)) (path_is ∙ ap (λ (q : Packing). has_path q.caps (family_of_key key)) is)

pub returns-then-len_with-room_of-clause-fits : goal.returns-then-len_with-room_of-clause-fits
returns-then-len_with-room_of-clause-fits c = λ h keys holds.
    let packer : Packing = c.args.self.now in
    let inside : Packing =
    record { caps = c.self.inside.caps; kind = c.self.inside.kind; filled = c.self.inside.filled } in
    let more = len_by packer inside c.args.key.now c.path.result c.key_len-len.result c.self.view_is
    (c.path.ensures.value ∙ ap (has_path inside.caps) c.family.ensures) c.key_len-len.ensures.value in
    let len = length-more packer h keys c.args.out.now c.args.key.now c.key_len-len.result c.len_with.result holds
    c.requires.keyed c.requires.family more
    c.len_with.ensures in
    let most : c.room_of.result ≡ room packer.caps =
    c.room_of.ensures ∙ ap (λ (p : Packing). room p.caps) c.self.view_is in
    (λ yes. absurd (let wrong = yes in cc), λ fits. absurd (omega (arith, len, most, fits, c.if-len_with-room_of.true)))

pub overflow_add-self : goal.overflow_add-self
overflow_add-self c =
    let packer = c.args.self.now in
    let opened = c.requires.open in
    let within = field_in packer opened.head opened.keys c.args.out.now opened.holds c.requires.keyed in
    omega (
      arith,
      within,
      field_least packer.kind packer.filled,
      ap (λ (p : Packing). p.filled) c.self.view_is,
      c.key_len-len.ensures.small,
      ap length opened.holds.text,
      opened.holds.fits,
      (room_between packer.caps).1,
    )

pub returns-clause-fits : goal.returns-clause-fits
returns-clause-fits c = λ h keys holds.
    let packer : Packing = c.args.self.now in
    let inside : Packing =
    record { caps = c.self.inside.caps; kind = c.self.inside.kind; filled = c.self.inside.filled } in
    let more = len_by packer inside c.args.key.now c.path.result c.key_len-len.result c.self.view_is
    (c.path.ensures.value ∙ ap (has_path inside.caps) c.family.ensures) c.key_len-len.ensures.value in
    let len = length-more packer h keys c.args.out.now c.args.key.now c.key_len-len.result c.len_with.result holds
    c.requires.keyed c.requires.family more
    c.len_with.ensures in
    let most : c.room_of.result ≡ room packer.caps =
    c.room_of.ensures ∙ ap (λ (p : Packing). room p.caps) c.self.view_is in
    (λ yes. omega (arith, len, most, c.if-len_with-room_of.false), λ fits. refl)

pub returns-clause-added : goal.returns-clause-added
returns-clause-added c =
    let packer : Packing = c.args.self.now in
    let inside : Packing =
    record { caps = c.self.inside.caps; kind = c.self.inside.kind; filled = c.self.inside.filled } in
    let new : Packing = record {
      caps = c.self.inside.caps;
      kind = c.self.inside.kind;
      filled = c.self.inside.filled + c.key_len-len.result;
    } in
    let more = len_by packer inside c.args.key.now c.path.result c.key_len-len.result c.self.view_is
    (c.path.ensures.value ∙ ap (has_path inside.caps) c.family.ensures) c.key_len-len.ensures.value in
    let most : c.room_of.result ≡ room packer.caps =
    c.room_of.ensures ∙ ap (λ (p : Packing). room p.caps) c.self.view_is in
    let puts : (h : Head) (keys : List Key) → Holds packer h keys c.args.out.now
    → (c.put.new.out.bytes ≡ written packer.caps h (keys ++ c.args.key.now ∷ []))
    × Fits packer.caps h (keys ++ c.args.key.now ∷ []) = λ h keys holds.
    let len = length-more packer h keys c.args.out.now c.args.key.now c.key_len-len.result c.len_with.result holds
    c.requires.keyed c.requires.family more
    c.len_with.ensures in
    let fits : Fits packer.caps h (keys ++ c.args.key.now ∷ []) =
    omega (arith, len, most, c.if-len_with-room_of.false) in
    let text : c.put.new.out.bytes ≡ written packer.caps h (keys ++ c.args.key.now ∷ []) =
    told c.put.result ((c.put.ensures.fits h keys holds).1 (omega (arith, fits, holds.room)))
    (c.put.ensures.text h keys holds) in
    (text, fits) in
    adds_one packer new c.args.out.now c.put.new.out c.args.key.now c.key_len-len.result c.requires.family more
    (ap (λ (p : Packing). the_more p c.key_len-len.result) c.self.view_is) c.put.ensures.room puts

pub returns-clause-keyed : goal.returns-clause-keyed
returns-clause-keyed c =
    has_keys c.self.inside.kind (c.self.inside.filled + c.key_len-len.result)
    (omega (arith, c.key_len-len.ensures.some))

pub returns-clause-still_open : goal.returns-clause-still_open
returns-clause-still_open c =
    opened_more c.args.self.now _ c.args.out.now c.put.new.out c.args.key.now c.requires.open (returns-clause-added c)
