-- Groups of rising codes, joined.
use Rattle.std.proofs.Common.{ℕ, ◌≡◌, ◌≢◌, ◌^◌, ◌<◌, Bool, true, false, ◌||◌, List, [], ◌∷◌, ◌++◌, length, arith, ap}
use Rattle.std.proofs.Common.{sym, ◌∙◌, refl, subst, inl, inr, Option, Some, None, eqb, if◌then◌else◌}
use Rattle.std.proofs.lemmas.Bool.{eqb-true, eqb-false}
use Rattle.std.specs.List.{flat_map, list_any, AllByRecursion}
use Rattle.route_values.specs.Caps.{Caps}
use Rattle.update_grammar.specs.declared.effect.Attr.{Attr}
use Rattle.update_grammar.specs.Attributes.{Raw, IsRaw, AreApart}
use Rattle.update_grammar.specs.Meanings.{MeansAll}
use Rattle.update_grammar.specs.Update.{first_of, said_first}
use Rattle.update_grammar.proofs.PiecesLemmas.{all_append, all_map}
use Rattle.update_grammar.proofs.RawLemmas.{apart_append}
use Rattle.update_grammar.proofs.GroupLemmas.{code_of, Group}

-- the codes rise from above this one
abbrev pub AreRising : ℕ → List ℕ → Type 0
AreRising low [] = Unit {0}
AreRising low (code ∷ codes) = (low < code) × AreRising code codes

-- each code has its group
abbrev pub AreGroups : Caps → (ℕ → List Raw) → (ℕ → List Attr) → List ℕ → Type 0
AreGroups caps raws said codes = AllByRecursion (λ code. Group caps code (raws code) (said code)) codes

-- attributes mean together what they mean in two parts
means_append : (caps : Caps) (xs ys : List Raw) (fronts rests : List Attr) → MeansAll caps xs fronts
    → MeansAll caps ys rests → MeansAll caps (xs ++ ys) (fronts ++ rests)
means_append caps [] ys fronts rests none meant = subst (λ before. MeansAll caps ys (before ++ rests)) (sym none) meant
means_append caps (x ∷ xs) ys fronts rests (inl over) meant =
    inl (over.0, means_append caps xs ys fronts rests over.1 meant)
means_append caps (x ∷ xs) ys fronts rests (inr one) meant = inr (
  one.0,
  one.1 ++ rests,
  ap (λ before. before ++ rests) one.2,
  one.3,
  means_append caps xs ys one.1 rests one.4 meant,
)

-- attributes of groups have texts where their values are short
pub groups_fit : (caps : Caps) (raws : ℕ → List Raw) (said : ℕ → List Attr) (codes : List ℕ)
    → AreGroups caps raws said codes → AllByRecursion (λ a. length a.value < 2 ^ 16 → IsRaw a) (flat_map raws codes)
groups_fit caps raws said [] groups = tt
groups_fit caps raws said (code ∷ codes) groups =
    all_append (λ a. length a.value < 2 ^ 16 → IsRaw a) (raws code) (flat_map raws codes) groups.0.fits
    (groups_fit caps raws said codes groups.1)

-- their codes are above the one that the groups rise from
groups_above : (caps : Caps) (raws : ℕ → List Raw) (said : ℕ → List Attr) (low : ℕ) (codes : List ℕ)
    → AreRising low codes → AreGroups caps raws said codes → AllByRecursion (λ a. low < a.code) (flat_map raws codes)
groups_above caps raws said low [] rising groups = tt
groups_above caps raws said low (code ∷ codes) rising groups =
    all_append
    (λ a. low < a.code)
    (raws code)
    (flat_map raws codes)
    (all_map (λ a. a.code ≡ code) (λ a. low < a.code) (λ a is. omega (arith, is, rising.0)) (raws code) groups.0.coded)
    (all_map (λ a. code < a.code) (λ a. low < a.code) (λ a higher. omega (arith, higher, rising.0))
    (flat_map raws codes) (groups_above caps raws said code codes rising.1 groups.1))

-- each code stands at most once
pub groups_apart : (caps : Caps) (raws : ℕ → List Raw) (said : ℕ → List Attr) (low : ℕ) (codes : List ℕ)
    → AreRising low codes → AreGroups caps raws said codes → AreApart (flat_map raws codes)
groups_apart caps raws said low [] rising groups = tt
groups_apart caps raws said low (code ∷ codes) rising groups =
    apart_append (raws code) (flat_map raws codes) code groups.0.apart groups.0.coded
    (groups_apart caps raws said code codes rising.1 groups.1)
    (groups_above caps raws said code codes rising.1 groups.1)

-- they mean what is said in the groups one after another
pub groups_meant : (caps : Caps) (raws : ℕ → List Raw) (said : ℕ → List Attr) (codes : List ℕ)
    → AreGroups caps raws said codes → MeansAll caps (flat_map raws codes) (flat_map said codes)
groups_meant caps raws said [] groups = refl
groups_meant caps raws said (code ∷ codes) groups = means_append caps (raws code) (flat_map raws codes) (said code)
    (flat_map said codes) groups.0.meant (groups_meant caps raws said codes groups.1)

-- what is said in a group has the group's code
pub groups_told : (caps : Caps) (raws : ℕ → List Raw) (said : ℕ → List Attr) (codes : List ℕ)
    → AreGroups caps raws said codes → AllByRecursion (λ code. AllByRecursion (λ attr. code_of attr ≡ code) (said code))
    codes
groups_told caps raws said codes groups = all_map (λ code. Group caps code (raws code) (said code))
    (λ code. AllByRecursion (λ attr. code_of attr ≡ code) (said code)) (λ code group. group.told) codes groups

-- a question that attributes of one code alone answer
abbrev pub Sees : {V : Type 0} → (Attr → Option V) → ℕ → Type 0
Sees asks code = (attr : Attr) → code_of attr ≢ code → asks attr ≡ None

-- of three answers the first counts, however they are joined
first_twice : {V : Type 0} (one two three : Option V) → first_of one (first_of two three)
    ≡ first_of (first_of one two) three
first_twice (Some word) two three = refl
first_twice None two three = refl

-- the first answer in two lists is that in the first list, where there is one
first_append : {V : Type 0} (asks : Attr → Option V) (xs ys : List Attr)
    → said_first asks (xs ++ ys) ≡ first_of (said_first asks xs) (said_first asks ys)
first_append asks [] ys = refl
first_append asks (x ∷ xs) ys = ap (first_of (asks x)) (first_append asks xs ys)
    ∙ first_twice (asks x) (said_first asks xs) (said_first asks ys)

-- a group of another code answers nothing
group_silent : {V : Type 0} (asks : Attr → Option V) (code other : ℕ) → Sees asks code → other ≢ code
    → (said : List Attr) → AllByRecursion (λ attr. code_of attr ≡ other) said → said_first asks said ≡ None
group_silent asks code other sees differ [] told = refl
group_silent asks code other sees differ (attr ∷ said) told =
    ap (λ word. first_of word (said_first asks said)) (sees attr (λ same. differ (sym told.0 ∙ same)))
    ∙ group_silent asks code other sees differ said told.1

-- a word that is given twice, or once and then not, is that word
first_same : {V : Type 0} (word : Option V) (again : Bool) → first_of word (if again then word else None) ≡ word
first_same None true = refl
first_same None false = refl
first_same (Some word) again = refl

-- the first of joined groups answers where it has the code, and else those behind it do
group_answers_one : {V : Type 0} (asks : Attr → Option V) (code : ℕ) (said : ℕ → List Attr) → Sees asks code
    → (other : ℕ) → AllByRecursion (λ attr. code_of attr ≡ other) (said other) → (later : Bool) (is : Bool)
    → eqb other code ≡ is
    → first_of (said_first asks (said other)) (if later then said_first asks (said code) else None)
    ≡ (if is || later then said_first asks (said code) else None)
group_answers_one asks code said sees other told later true is =
    ap (λ there. first_of (said_first asks (said there)) (if later then said_first asks (said code) else None))
    (eqb-true other code is) ∙ first_same (said_first asks (said code)) later
group_answers_one asks code said sees other told later false is =
    ap (λ word. first_of word (if later then said_first asks (said code) else None))
    (group_silent asks code other sees (eqb-false other code is) (said other) told)

-- of joined groups the one of the code that a question asks for answers it
pub group_answers : {V : Type 0} (asks : Attr → Option V) (code : ℕ) (said : ℕ → List Attr) → Sees asks code
    → (codes : List ℕ) → AllByRecursion (λ other. AllByRecursion (λ attr. code_of attr ≡ other) (said other)) codes
    → said_first asks (flat_map said codes) ≡ (if list_any (λ other. eqb other code) codes then said_first asks
    (said code) else None)
group_answers asks code said sees [] told = refl
group_answers asks code said sees (other ∷ codes) told =
    first_append asks (said other) (flat_map said codes) ∙ ap (first_of (said_first asks (said other)))
    (group_answers asks code said sees codes told.1)
    ∙ group_answers_one asks code said sees other told.0 (list_any (λ later. eqb later code) codes) (eqb other code)
    refl
