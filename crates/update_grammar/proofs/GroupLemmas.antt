-- Attributes of one code, of which there is one or none, and what they say.
use Rattle.std.proofs.Common.{ℕ, ◌≡◌, ◌^◌, ◌<◌, Bool, true, false, List, [], ◌∷◌, length, refl, inr, Option, Some, None}
use Rattle.std.specs.Option.{IfSome}
use Rattle.std.specs.List.{AllByRecursion}
use Rattle.route_values.specs.Caps.{Caps}
use Rattle.update_grammar.specs.declared.effect.Attr.{Attr}
use Rattle.update_grammar.specs.declared.effect.Attr.TheVariants as says
use Rattle.update_grammar.specs.Attributes.{Raw, IsRaw, AreApart}
use Rattle.update_grammar.specs.Meanings.{Is, Means, MeansAll}
use Rattle.update_grammar.specs.Written.{raw, raw_if, raw_some, raw_when}
use Rattle.update_grammar.proofs.RawLemmas.{IsPlain, raw_fits, raw_is_of}

-- the code of the attribute that says this
abbrev pub code_of : Attr → ℕ
code_of (says.Origin origin) = 1
code_of (says.Path path) = 2
code_of (says.NextHop n) = 3
code_of (says.Med n) = 4
code_of (says.LocalPref n) = 5
code_of says.Atomic = 6
code_of (says.Aggregator by) = 7
code_of (says.Communities ns) = 8
code_of (says.Originator n) = 9
code_of (says.Clusters ns) = 10
code_of (says.Reach reached) = 14
code_of (says.Unreach keys) = 15
code_of (says.Extended exts) = 16
code_of (says.Large larges) = 32

-- the attributes of a code, which have a text where their values are short, and what they say
pub record Group (caps : Caps) (code : ℕ) (raws : List Raw) (said : List Attr) : Type 0 where
  pub fits : AllByRecursion (λ a. length a.value < 2 ^ 16 → IsRaw a) raws
  pub coded : AllByRecursion (λ a. a.code ≡ code) raws
  pub apart : AreApart raws
  pub meant : MeansAll caps raws said
  pub told : AllByRecursion (λ attr. code_of attr ≡ code) said

-- what is said of a matter that may be absent
abbrev pub said_if : {V : Type 0} → (V → Attr) → Option V → List Attr
said_if say None = []
said_if say (Some v) = say v ∷ []

-- what is said of a list, which is nothing where it is empty
abbrev pub said_some : {V : Type 0} → (List V → Attr) → List V → List Attr
said_some say [] = []
said_some say (v ∷ vs) = say (v ∷ vs) ∷ []

-- what is said of a mark
abbrev pub said_when : Attr → Bool → List Attr
said_when attr true = attr ∷ []
said_when attr false = []

-- a written attribute has its flags, its code and its value
pub written_is : (flags code : ℕ) (value : List ℕ) → IsPlain flags → Is (raw flags code value) flags code value
written_is flags code value plain = (raw_is_of flags code value plain, refl)

-- no attribute
pub group_none : (caps : Caps) (code : ℕ) → Group caps code [] []
group_none caps code = record { fits = tt; coded = tt; apart = tt; meant = refl; told = tt }

-- one attribute
pub group_one : (caps : Caps) (flags code : ℕ) (value : List ℕ) (attr : Attr) → IsPlain flags → code < 256
    → Means caps (raw flags code value) attr → code_of attr ≡ code
    → Group caps code (raw flags code value ∷ []) (attr ∷ [])
group_one caps flags code value attr plain small means told = record {
  fits = (raw_fits flags code value plain small, tt);
  coded = (refl, tt);
  apart = (tt, tt);
  meant = inr (attr, [], refl, means, refl);
  told = (told, tt);
}

-- one attribute or none, as a matter is there or not
pub group_if : {V : Type 0} (caps : Caps) (text : V → List ℕ) (flags code : ℕ) (say : V → Attr) (Fit : V → Type 0)
    → IsPlain flags → code < 256 → ((v : V) → Is (raw flags code (text v)) flags code (text v) → Fit v
    → Means caps (raw flags code (text v)) (say v))
    → ((v : V) → code_of (say v) ≡ code) → (matter : Option V) → IfSome matter Fit
    → Group caps code (raw_if text flags code matter) (said_if say matter)
group_if caps text flags code say Fit plain small means told None fit = group_none caps code
group_if caps text flags code say Fit plain small means told (Some v) fit =
    group_one caps flags code (text v) (say v) plain small (means v (written_is flags code (text v) plain) fit) (told v)

-- one attribute or none, as a list has items or not
pub group_some : {V : Type 0} (caps : Caps) (text : List V → List ℕ) (flags code : ℕ) (say : List V → Attr)
    (Fit : List V → Type 0) → IsPlain flags → code < 256
    → ((vs : List V) → Is (raw flags code (text vs)) flags code (text vs) → Fit vs
    → Means caps (raw flags code (text vs)) (say vs)) → ((vs : List V) → code_of (say vs) ≡ code) → (items : List V)
    → Fit items
    → Group caps code (raw_some text flags code items) (said_some say items)
group_some caps text flags code say Fit plain small means told [] fit = group_none caps code
group_some caps text flags code say Fit plain small means told (v ∷ vs) fit =
    group_one caps flags code (text (v ∷ vs)) (say (v ∷ vs)) plain small
    (means (v ∷ vs) (written_is flags code (text (v ∷ vs)) plain) fit) (told (v ∷ vs))

-- one attribute or none, as a mark stands or not
pub group_when : (caps : Caps) (flags code : ℕ) (attr : Attr) → IsPlain flags → code < 256
    → Means caps (raw flags code []) attr → code_of attr ≡ code → (stands : Bool)
    → Group caps code (raw_when stands flags code) (said_when attr stands)
group_when caps flags code attr plain small means told true = group_one caps flags code [] attr plain small means told
group_when caps flags code attr plain small means told false = group_none caps code
