-- What the codec's calls make of a message that is being packed.
use Rattle.std.proofs.Common.{ℕ, ◌≡◌, ◌≤◌, Bool, true, false, List, [], ◌∷◌, ◌++◌, length, ap, sym, ◌∙◌, subst, IsTrue}
use Rattle.std.specs.Bool.{OnTrue, OnFalse}
use Rattle.std.specs.Prelude.{◌↔◌}
use Rattle.route_values.specs.declared.addr.Family.{Family}
use Rattle.route_values.specs.declared.key.Key.{Key}
use Rattle.route_values.specs.Caps.{Caps}
use Rattle.update_grammar.specs.Head.{Head}
use Rattle.update_grammar.specs.Head as head
use Rattle.update_grammar.specs.Written.{written}
use Rattle.attr_codec.specs.Buffer.{Buffer, Appended}
use Rattle.update_codec.specs.Open.{IsOpenHere, IsOpenGone, AddsHere, AddsGone, TellsHereFits, TellsGoneFits}
use Rattle.batch_cutter.specs.declared.kind.Kind.TheVariants as kind
use Rattle.batch_cutter.specs.Heads.{kind_of}
use Rattle.batch_cutter.specs.Packing.{Packing, IsOpen}

-- a withdrawal is open
gone_by : (caps : Caps) (h : Head) (keys : List Key) (family : Family) (bytes : List ℕ)
    → kind.Gone family ≡ kind_of h → bytes ≡ written caps h keys → IsOpenGone caps family bytes
gone_by caps (head.Gone f) keys family bytes is text =
    let same : f ≡ family = cc in
    subst (λ g. IsOpenGone caps g bytes) same (record { keys = keys; text = text })
gone_by caps (head.Here f w) keys family bytes is text = cc
gone_by caps (head.End f) keys family bytes is text = cc

pub gone_open : (packer : Packing) (out : Buffer) (family : Family) → IsOpen packer out
    → packer.kind ≡ kind.Gone family → IsOpenGone packer.caps family out.bytes
gone_open packer out family opened is =
    gone_by packer.caps opened.head opened.keys family out.bytes (sym is ∙ opened.holds.kind) opened.holds.text

-- an announcement is open
here_by : (caps : Caps) (h : Head) (keys : List Key) (family : Family) (bytes : List ℕ)
    → kind.Here family ≡ kind_of h → bytes ≡ written caps h keys → IsOpenHere caps family bytes
here_by caps (head.Here f w) keys family bytes is text =
    let same : f ≡ family = cc in
    subst (λ g. IsOpenHere caps g bytes) same (record { attrs = w; keys = keys; text = text })
here_by caps (head.Gone f) keys family bytes is text = cc
here_by caps (head.End f) keys family bytes is text = cc

pub here_open : (packer : Packing) (out : Buffer) (family : Family) → IsOpen packer out
    → packer.kind ≡ kind.Here family → IsOpenHere packer.caps family out.bytes
here_open packer out family opened is =
    here_by packer.caps opened.head opened.keys family out.bytes (sym is ∙ opened.holds.kind) opened.holds.text

-- whether one more key fits, and what it makes of the message
pub gone_fits : (caps : Caps) (h : Head) (keys : List Key) (family : Family) (key : Key) (old : Buffer) (answer : Bool)
    → kind.Gone family ≡ kind_of h → TellsGoneFits caps family key old answer → old.bytes ≡ written caps h keys
    → IsTrue answer ↔ (length (written caps h (keys ++ key ∷ [])) ≤ old.room)
gone_fits caps (head.Gone f) keys family key old answer is tells text =
    let same : family ≡ f = cc in
    subst (λ g. TellsGoneFits caps g key old answer) same tells keys text
gone_fits caps (head.Here f w) keys family key old answer is tells text = cc
gone_fits caps (head.End f) keys family key old answer is tells text = cc

pub here_fits : (caps : Caps) (h : Head) (keys : List Key) (family : Family) (key : Key) (old : Buffer) (answer : Bool)
    → kind.Here family ≡ kind_of h → TellsHereFits caps family key old answer → old.bytes ≡ written caps h keys
    → IsTrue answer ↔ (length (written caps h (keys ++ key ∷ [])) ≤ old.room)
here_fits caps (head.Here f w) keys family key old answer is tells text =
    let same : family ≡ f = cc in
    subst (λ g. TellsHereFits caps g key old answer) same tells w keys text
here_fits caps (head.Gone f) keys family key old answer is tells text = cc
here_fits caps (head.End f) keys family key old answer is tells text = cc

pub gone_added : (caps : Caps) (h : Head) (keys : List Key) (family : Family) (key : Key) (old new : List ℕ)
    → kind.Gone family ≡ kind_of h → AddsGone caps family key old new → old ≡ written caps h keys
    → new ≡ written caps h (keys ++ key ∷ [])
gone_added caps (head.Gone f) keys family key old new is adds text =
    let same : family ≡ f = cc in
    subst (λ g. AddsGone caps g key old new) same adds keys text
gone_added caps (head.Here f w) keys family key old new is adds text = cc
gone_added caps (head.End f) keys family key old new is adds text = cc

pub here_added : (caps : Caps) (h : Head) (keys : List Key) (family : Family) (key : Key) (old new : List ℕ)
    → kind.Here family ≡ kind_of h → AddsHere caps family key old new → old ≡ written caps h keys
    → new ≡ written caps h (keys ++ key ∷ [])
here_added caps (head.Here f w) keys family key old new is adds text =
    let same : family ≡ f = cc in
    subst (λ g. AddsHere caps g key old new) same adds w keys text
here_added caps (head.Gone f) keys family key old new is adds text = cc
here_added caps (head.End f) keys family key old new is adds text = cc

-- what holds where an answer is true
pub on_true : {P Q : Type 0} (answer : Bool) → (P → Q) → OnTrue answer P → OnTrue answer Q
on_true true step p = step p
on_true false step p = p

pub told : {P : Type 0} (answer : Bool) → IsTrue answer → OnTrue answer P → P
told true is p = p
told false is p = cc

-- the same where it isn't
pub told_not : {P : Type 0} (answer : Bool) → answer ≡ false → OnFalse answer P → P
told_not false is p = p
told_not true is p = cc

pub refuted : (answer : Bool) → answer ≡ false → IsTrue answer → ⊥
refuted answer is holds = let both : true ≡ false = sym holds ∙ is in cc

-- a buffer that was empty
pub appended_all : (old new : Buffer) (text : List ℕ) → old.bytes ≡ [] → Appended old new text → new.bytes ≡ text
appended_all old new text empty appended = appended.bytes ∙ ap (λ (front : List ℕ). front ++ text) empty
