-- What several writes leave.
use Rattle.std.proofs.Common.{ℕ, ◌≡◌, ◌==◌, false, List, [], ◌∷◌, ◌++◌, length, arith, length-append, append_assoc}
use Rattle.std.proofs.Common.{append-nil, subst, ap, sym, ◌∙◌}
use Rattle.update_grammar.specs.Attributes.{raw_head, raw_text}
use Rattle.update_grammar.specs.Written.{flags_for, raw, raw_some}
use Rattle.attr_codec.specs.declared.codes.Kind.{Kind}
use Rattle.attr_codec.specs.Buffer.{Buffer, Appended}
use Rattle.attr_codec.specs.Groups.{raws_text}
use Rattle.attr_codec.specs.Kind.{flags_of}

-- one write and then another
pub appended_more : (a b c : Buffer) (x y : List ℕ) → Appended a b x → Appended b c y → Appended a c (x ++ y)
appended_more a b c x y first second = record {
  bytes = second.bytes ∙ ap (λ s. s ++ y) first.bytes ∙ append_assoc a.bytes x y;
  room = second.room ∙ first.room;
  len = omega (arith, first.len, second.len, length-append x y);
}

-- three writes, and four
pub appended_three : (a b c d : Buffer) (x y z : List ℕ) → Appended a b x → Appended b c y → Appended c d z
    → Appended a d (x ++ (y ++ z))
appended_three a b c d x y z first second third = appended_more a b d x (y ++ z) first
    (appended_more b c d y z second third)

pub appended_four : (a b c d e : Buffer) (x y z t : List ℕ) → Appended a b x → Appended b c y → Appended c d z
    → Appended d e t → Appended a e (x ++ (y ++ (z ++ t)))
appended_four a b c d e x y z t first second third fourth = appended_more a b e x (y ++ (z ++ t)) first
    (appended_three b c d e y z t second third fourth)

-- what stands before a value, and the value
pub value_appended : (kind : Kind) (code : ℕ) (value : List ℕ) (n : ℕ) (a b c : Buffer) → n ≡ length value
    → Appended a b (raw_head (flags_for (flags_of kind) n) code n) → Appended b c value
    → Appended a c (raw_text (raw (flags_of kind) code value))
value_appended kind code value n a b c is head rest =
    appended_more a b c (raw_head (flags_for (flags_of kind) (length value)) code (length value)) value
    (subst (λ m. Appended a b (raw_head (flags_for (flags_of kind) m) code m)) is head) rest

-- the same for a list that isn't empty
pub list_appended : {A : Type 0} (kind : Kind) (code : ℕ) (text : List A → List ℕ) (xs : List A) (n : ℕ)
    (a b c : Buffer) → (length xs == 0) ≡ false → n ≡ length (text xs)
    → Appended a b (raw_head (flags_for (flags_of kind) n) code n) → Appended b c (text xs)
    → Appended a c (raws_text (raw_some text (flags_of kind) code xs))
list_appended kind code text [] n a b c filled is head rest = cc
list_appended kind code text (x ∷ xs) n a b c filled is head rest =
    subst (λ t. Appended a c t) (sym (append-nil (raw_text (raw (flags_of kind) code (text (x ∷ xs))))))
    (value_appended kind code (text (x ∷ xs)) n a b c is head rest)
