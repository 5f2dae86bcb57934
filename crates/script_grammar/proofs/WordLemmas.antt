-- Texts whose words single spaces part.
use Rattle.std.proofs.Common.{ℕ, ◌≡◌, ◌≢◌, ◌==◌, ◌&&◌, not, true, false, List, [], ◌∷◌, ◌++◌, All, Option}
use Rattle.std.proofs.Common.{Some, None, ap, sym}
use Rattle.std.proofs.Common.{◌∙◌, ◌<◌, Bor, refl, inl, inr, ne_eqb, if◌then◌else◌, length, subst, arith}
use Rattle.std.specs.List.{AllByRecursion, list_all}
use Rattle.std.specs.Option.{option_map, IfSome}
use Rattle.std.proofs.lemmas.Bool.{and_parts, eqb-false, not-true}
use Rattle.std.proofs.lemmas.Bool.Decides.{eqb_tells}
use Rattle.std.proofs.lemmas.List.{length-append}
use Rattle.text_forms.proofs.CutLemmas.{Lacks, lacks_from_all}
use Rattle.script_grammar.specs.Caps.{onto_first, words_between}
use Rattle.script_grammar.specs.Spelling.{joined}
use Rattle.script_grammar.specs.Words.{Parted, first_word, onto, parted}

lacks_test : (b : ℕ) (text : List ℕ) → (not (b == 32) && list_all (λ x. not (x == 32)) text) ≡ true
    → ((b == 32) ≡ false) × (list_all (λ x. not (x == 32)) text ≡ true)
lacks_test b text tested =
    let parts = and_parts (not (b == 32)) (list_all (λ x. not (x == 32)) text) tested in
    (not-true (b == 32) parts.0, parts.1)

-- a text without a space, by a test
pub lacks_by : (text : List ℕ) → list_all (λ b. not (b == 32)) text ≡ true → Lacks 32 text
lacks_by [] tested = tt
lacks_by (b ∷ text) tested =
    let parts = lacks_test b text tested in (eqb-false b 32 parts.0, lacks_by text parts.1)

-- a byte that is no space goes to the front of the first word
onto_word : (b : ℕ) (bytes : List ℕ) → b ≢ 32 → first_word (b ∷ bytes) ≡ option_map (onto b) (first_word bytes)
unfolding first_word
onto_word b bytes other =
    ap (λ test. if test then Some (parted [] bytes) else option_map (onto b) (first_word bytes)) (ne_eqb b 32 other)

-- what stands before the first space is the first word
pub first_of : (word rest : List ℕ) → Lacks 32 word → first_word (word ++ 32 ∷ rest) ≡ Some (parted word rest)
unfolding first_word
first_of [] rest lacks = refl
first_of (b ∷ word) rest lacks =
    onto_word b (word ++ 32 ∷ rest) lacks.0 ∙ ap (option_map (onto b)) (first_of word rest lacks.1)

pub first_none : (text : List ℕ) → Lacks 32 text → first_word text ≡ None
unfolding first_word
first_none [] lacks = refl
first_none (b ∷ text) lacks = onto_word b text lacks.0 ∙ ap (option_map (onto b)) (first_none text lacks.1)

pub first_cut : (text word rest : List ℕ) → text ≡ word ++ 32 ∷ rest → All (λ b. b ≢ 32) word
    → first_word text ≡ Some (parted word rest)
first_cut text word rest is all = ap first_word is ∙ first_of word rest (lacks_from_all 32 word all)

pub first_uncut : (text : List ℕ) → All (λ b. b ≢ 32) text → first_word text ≡ None
first_uncut text all = first_none text (lacks_from_all 32 text all)

-- the same of an answer that may be None
pub parts_found : (text : List ℕ) (answer : Option (Bor (List ℕ) × Bor (List ℕ)))
    → IfSome answer (λ parts. text ≡ parts.0.now ++ 32 ∷ parts.1.now)
    → IfSome answer (λ parts. All (λ b. b ≢ 32) parts.0.now)
    → IfSome answer (λ parts. first_word text ≡ Some (parted parts.0.now parts.1.now))
parts_found text None is all = tt
parts_found text (Some (word, rest)) is all = first_cut text word.now rest.now is all

-- a text begins with a word, which its first space ends
pub record IsFirst (text : List ℕ) (parts : Parted) : Type 0 where
  pub text_is : text ≡ parts.word ++ 32 ∷ parts.rest
  pub lacks : Lacks 32 parts.word

-- the first word and what stands behind it, by what stands behind a byte
first_behind : (b : ℕ) (bytes : List ℕ) (found : Option Parted) (parts : Parted) → b ≢ 32 → first_word bytes ≡ found
    → option_map (onto b) found ≡ Some parts → ((others : Parted) → found ≡ Some others → IsFirst bytes others)
    → IsFirst (b ∷ bytes) parts
first_behind b bytes None parts other is some earlier = absurd (cc)
first_behind b bytes (Some others) parts other is some earlier =
    let behind = earlier others refl in
    let parts_are : parts ≡ onto b others = cc in
    record {
      text_is = ap (λ (text : List ℕ). b ∷ text) behind.text_is
          ∙ sym (ap (λ (one : Parted). one.word ++ 32 ∷ one.rest) parts_are);
      lacks = subst (λ (one : Parted). Lacks 32 one.word) (sym parts_are) (other, behind.lacks);
    }

first_space : (b : ℕ) (bytes : List ℕ) (parts : Parted) → (b == 32) ≡ true → b ≡ 32
    → first_word (b ∷ bytes) ≡ Some parts → IsFirst (b ∷ bytes) parts
unfolding first_word
first_space b bytes parts test same is =
    let now : Some (parted [] bytes) ≡ Some parts =
    sym (ap (λ t. if t then Some (parted [] bytes) else option_map (onto b) (first_word bytes)) test) ∙ is in
    let parts_are : parts ≡ parted [] bytes = cc in
    record {
      text_is = ap (λ (x : ℕ). x ∷ bytes) same ∙ sym (ap (λ (one : Parted). one.word ++ 32 ∷ one.rest) parts_are);
      lacks = subst (λ (one : Parted). Lacks 32 one.word) (sym parts_are) tt;
    }

-- a text that has a first word is that word, a space, and what stands behind it
pub first_is : (text : List ℕ) (parts : Parted) → first_word text ≡ Some parts → IsFirst text parts
unfolding first_word
first_is [] parts is = absurd (cc)
first_is (b ∷ bytes) parts is =
    elim (eqb_tells b 32) [
      | inl equal ↦ first_space b bytes parts equal.0 equal.1 is
      | inr unequal ↦ first_behind b bytes (first_word bytes) parts unequal.1 refl
          (sym (onto_word b bytes unequal.1) ∙ is) (first_is bytes)
    ]

-- what stands behind the first word is shorter
pub behind_shorter : (text word rest : List ℕ) → first_word text ≡ Some (parted word rest) → length rest < length text
behind_shorter text word rest is =
    let first = first_is text (parted word rest) is in
    omega (arith, ap length first.text_is, length-append word (32 ∷ rest))

lacks_behind : (b : ℕ) (bytes : List ℕ) (found : Option Parted) → b ≢ 32 → option_map (onto b) found ≡ None
    → (found ≡ None → Lacks 32 bytes) → Lacks 32 (b ∷ bytes)
lacks_behind b bytes None other none earlier = (other, earlier refl)
lacks_behind b bytes (Some parts) other none earlier = absurd (cc)

-- a text that has none has no space
pub first_lacks : (text : List ℕ) → first_word text ≡ None → Lacks 32 text
unfolding first_word
first_lacks [] none = tt
first_lacks (b ∷ bytes) none =
    elim (eqb_tells b 32) [
      | inl equal ↦ (
          let now : Some (parted [] bytes) ≡ None =
          sym (ap (λ t. if t then Some (parted [] bytes) else option_map (onto b) (first_word bytes)) equal.0) ∙ none in
          absurd (cc)
          )
      | inr unequal ↦ lacks_behind b bytes (first_word bytes) unequal.1 (sym (onto_word b bytes unequal.1) ∙ none)
          (first_lacks bytes)
    ]

-- ---- all words of a text

onto_words : (b : ℕ) (bytes : List ℕ) → b ≢ 32 → words_between (b ∷ bytes) ≡ onto_first b (words_between bytes)
unfolding words_between
onto_words b bytes other =
    ap (λ test. if test then [] ∷ words_between bytes else onto_first b (words_between bytes)) (ne_eqb b 32 other)

pub words_of : (word rest : List ℕ) → Lacks 32 word → words_between (word ++ 32 ∷ rest) ≡ word ∷ words_between rest
unfolding words_between
words_of [] rest lacks = refl
words_of (b ∷ word) rest lacks =
    onto_words b (word ++ 32 ∷ rest) lacks.0 ∙ ap (onto_first b) (words_of word rest lacks.1)

pub words_last : (text : List ℕ) → Lacks 32 text → words_between text ≡ text ∷ []
unfolding words_between
words_last [] lacks = refl
words_last (b ∷ text) lacks = onto_words b text lacks.0 ∙ ap (onto_first b) (words_last text lacks.1)

pub words_cut : (text word rest : List ℕ) → first_word text ≡ Some (parted word rest)
    → words_between text ≡ word ∷ words_between rest
words_cut text word rest is =
    let first = first_is text (parted word rest) is in
    ap words_between first.text_is ∙ words_of word rest first.lacks

pub words_uncut : (text : List ℕ) → first_word text ≡ None → words_between text ≡ text ∷ []
words_uncut text none = words_last text (first_lacks text none)

-- ---- words that are joined

-- some words are parts of a text by its spaces
pub joined_of : (word : List ℕ) (words : List (List ℕ)) → AllByRecursion (Lacks 32) (word ∷ words)
    → words_between (joined (word ∷ words)) ≡ word ∷ words
joined_of word [] lacks = words_last word lacks.0
joined_of word (next ∷ words) lacks =
    words_of word (joined (next ∷ words)) lacks.0
    ∙ ap (λ (others : List (List ℕ)). word ∷ others) (joined_of next words lacks.1)

joined_onto : (b : ℕ) (words : List (List ℕ)) → joined (onto_first b words) ≡ b ∷ joined words
joined_onto b [] = refl
joined_onto b (word ∷ []) = refl
joined_onto b (word ∷ next ∷ words) = refl

joined_space : (words : List (List ℕ)) (text : List ℕ) → 0 < length words → joined words ≡ text
    → joined ([] ∷ words) ≡ 32 ∷ text
joined_space [] text some is = absurd (omega arith)
joined_space (word ∷ words) text some is = ap (λ (rest : List ℕ). 32 ∷ rest) is

onto_some : (b : ℕ) (words : List (List ℕ)) → 0 < length (onto_first b words)
onto_some b [] = omega arith
onto_some b (word ∷ words) = omega arith

pub some_words : (text : List ℕ) → 0 < length (words_between text)
unfolding words_between
some_words [] = omega arith
some_words (b ∷ bytes) =
    elim (eqb_tells b 32) [
      | inl equal ↦ rw equal.0 (omega arith)
      | inr unequal ↦ rw unequal.0 (onto_some b (words_between bytes))
    ]

-- the words of a text make it again
pub joined_words : (text : List ℕ) → joined (words_between text) ≡ text
unfolding words_between
joined_words [] = refl
joined_words (b ∷ bytes) =
    elim (eqb_tells b 32) [
      | inl equal ↦ ap (λ test. joined (if test then [] ∷ words_between bytes else onto_first b (words_between bytes)))
          equal.0 ∙ joined_space (words_between bytes) bytes (some_words bytes) (joined_words bytes)
          ∙ ap (λ (x : ℕ). x ∷ bytes) (sym equal.1)
      | inr unequal ↦ ap joined (onto_words b bytes unequal.1) ∙ joined_onto b (words_between bytes)
          ∙ ap (λ (text : List ℕ). b ∷ text) (joined_words bytes)
    ]
