-- Attributes that are put one by one, the last first.
use Rattle.std.proofs.Common.{◌≡◌, List, [], ◌∷◌, ◌++◌, length, None, arith, ap, ◌∙◌, refl}
use Rattle.update_grammar.specs.declared.effect.Attr.{Attr}
use Rattle.update_grammar.specs.declared.effect.Attr.TheVariants as says
use Rattle.update_codec.specs.declared.reading.matters.Matters.{Matters}
use Rattle.update_codec.specs.declared.reading.matters.Told.{Told}
use Rattle.update_codec.specs.Matters.{matters_of, told_of, with_attr}

-- what is told with attributes before the others
abbrev pub with_attrs : List Attr → Told → Told
with_attrs [] t = t
with_attrs (a ∷ others) t = with_attr a (with_attrs others t)

-- the last of them goes first
pub with_last : (said : List Attr) (last : Attr) (t : Told)
    → with_attrs (said ++ last ∷ []) t ≡ with_attrs said (with_attr last t)
with_last [] last t = refl
with_last (a ∷ others) last t = ap (with_attr a) (with_last others last t)

-- an attribute before others says what it says
said_more : (a : Attr) (others : List Attr) → with_attr a (told_of others) ≡ told_of (a ∷ others)
said_more (says.Origin origin) others = refl
said_more (says.Path path) others = refl
said_more (says.NextHop n) others = refl
said_more (says.Med n) others = refl
said_more (says.LocalPref n) others = refl
said_more says.Atomic others = refl
said_more (says.Aggregator by) others = refl
said_more (says.Communities ns) others = refl
said_more (says.Originator n) others = refl
said_more (says.Clusters ns) others = refl
said_more (says.Reach reach) others = refl
said_more (says.Unreach unreach) others = refl
said_more (says.Extended exts) others = refl
said_more (says.Large larges) others = refl

-- all of them say what they say
all_said : (said : List Attr) → with_attrs said (told_of []) ≡ told_of said
all_said [] = refl
all_said (a ∷ others) = ap (with_attr a) (all_said others) ∙ said_more a others

-- where none was put
pub started : (m : Matters) (rest said : List Attr) → m ≡ matters_of [] → rest ≡ said
    → with_attrs rest (record { matters = m; reach = None; unreach = None }) ≡ told_of said
started m rest said none same = rw (none, same) (all_said said)

-- where none is left
pub none_left : (rest : List Attr) (t all : Told) → length rest ≡ 0 → with_attrs rest t ≡ all → t ≡ all
none_left [] t all none is = is
none_left (a ∷ others) t all none is = absurd (omega arith)
