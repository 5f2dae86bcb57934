-- The capabilities that words say.
use Rattle.std.proofs.Common.{ℕ, ◌≡◌, Bool, true, false, not, List, [], ◌∷◌, map, Option, Some, None, ap, sym}
use Rattle.std.proofs.Common.{◌∙◌, ◌&&◌, ◌||◌, refl, subst, if◌then◌else◌, length, arith}
use Rattle.std.specs.List.{AllByRecursion}
use Rattle.std.specs.Option.{option_and_then}
use Rattle.std.specs.Str.{bytes_eq}
use Rattle.std.proofs.lemmas.Bool.{false≢true}
use Rattle.std.proofs.lemmas.Option.{cond_some}
use Rattle.std.proofs.lemmas.Slice.Eq.{bytes_eq-Decides}
use Rattle.text_forms.proofs.CutLemmas.{Lacks}
use Rattle.route_values.specs.declared.addr.Family.{Family}
use Rattle.route_values.specs.declared.addr.Family.TheVariants.{Ipv4, Ipv6}
use Rattle.route_values.specs.Caps.{Caps, flags, no_caps, with_family, with_extended}
use Rattle.script_grammar.specs.declared.caps.Said.{Said}
use Rattle.script_grammar.specs.declared.names.Cap.{Cap}
use Rattle.script_grammar.specs.declared.names.Cap.TheVariants as cap
use Rattle.script_grammar.specs.Caps.{all_caps, are_kept, cap_in, cap_word, caps_in, caps_kept, caps_of, first_cap}
use Rattle.script_grammar.specs.Caps.{has_cap, nothing_said, say_cap, say_word, say_words, with_cap, words_between}
use Rattle.script_grammar.specs.Spelling.{SayCaps, joined}
use Rattle.script_grammar.proofs.OptionLemmas.{both}
use Rattle.script_grammar.specs.Words.{first_word, parted}
use Rattle.script_grammar.proofs.WordLemmas.{joined_of, joined_words, lacks_by, some_words, words_cut, words_uncut}

cap_by : (word : List ℕ) (which : Cap) (others : List Cap) (test : Bool) (found : Cap)
    → bytes_eq word (cap_word which) ≡ test → (if test then Some which else first_cap others word) ≡ Some found
    → (first_cap others word ≡ Some found → word ≡ cap_word found) → word ≡ cap_word found
cap_by word which others true found tested is further =
    let which_is : which ≡ found = cc in
    (bytes_eq-Decides word (cap_word which)).0 tested ∙ ap cap_word which_is
cap_by word which others false found tested is further = further is

-- a capability that is found has this word
first_cap_is : (caps : List Cap) (word : List ℕ) (found : Cap) → first_cap caps word ≡ Some found
    → word ≡ cap_word found
first_cap_is [] word found is = absurd (cc)
first_cap_is (which ∷ others) word found is =
    cap_by word which others (bytes_eq word (cap_word which)) found refl is (first_cap_is others word found)

pub cap_is : (word : List ℕ) (found : Cap) → cap_in word ≡ Some found → word ≡ cap_word found
unfolding cap_in
cap_is word found is = first_cap_is all_caps word found is

-- each capability is found by its word
pub cap_found : (which : Cap) → cap_in (cap_word which) ≡ Some which
unfolding cap_in
cap_found cap.Ipv4 = refl
cap_found cap.Ipv6 = refl
cap_found cap.Ipv4Path = refl
cap_found cap.Ipv6Path = refl
cap_found cap.Extended = refl

new_by : (before : Said) (which : Cap) (test : Bool) (more : Said) → has_cap before which ≡ test
    → (if test then None else Some (with_cap before which)) ≡ Some more
    → (has_cap before which ≡ false) × (with_cap before which ≡ more)
new_by before which true more tested is = absurd (cc)
new_by before which false more tested is = (tested, cc)

new_is : (before : Said) (which : Cap) (more : Said) → say_cap before which ≡ Some more
    → (has_cap before which ≡ false) × (with_cap before which ≡ more)
unfolding say_cap
new_is before which more is = new_by before which (has_cap before which) more refl is

new_found : (before : Said) (which : Cap) → has_cap before which ≡ false
    → say_cap before which ≡ Some (with_cap before which)
unfolding say_cap
new_found before which new = ap (λ test. if test then None else Some (with_cap before which)) new

-- the words that say something say it by these capabilities
pub record AreCapWords (before : Said) (words : List (List ℕ)) (said : Said) : Type 0 where
  pub caps : List Cap
  pub words_are : words ≡ map cap_word caps
  pub say : SayCaps before caps said

pub caps_are : (before : Said) (words : List (List ℕ)) (said : Said) → say_words before words ≡ Some said
    → AreCapWords before words said
unfolding say_word
caps_are before [] said is = record { caps = []; words_are = refl; say = cc }
caps_are before (word ∷ words) said is =
    let first = both (λ more. say_words more words) (say_word before word) said is in
    let named = both (say_cap before) (cap_in word) first.value first.answer_is in
    let new = new_is before named.value first.value named.gives in
    let behind = caps_are first.value words said first.gives in
    record {
      caps = named.value ∷ behind.caps;
      words_are = ap (λ (one : List ℕ). one ∷ words) (cap_is word named.value named.answer_is)
          ∙ ap (λ (others : List (List ℕ)). cap_word named.value ∷ others) behind.words_are;
      say = (new.0, subst (λ (next : Said). SayCaps next behind.caps said) (sym new.1) behind.say);
    }

pub caps_say : (before : Said) (caps : List Cap) (said : Said) → SayCaps before caps said
    → say_words before (map cap_word caps) ≡ Some said
unfolding say_word
caps_say before [] said say = ap Some (sym say)
caps_say before (which ∷ others) said say =
    ap (option_and_then (λ more. say_words more (map cap_word others)))
    (ap (option_and_then (say_cap before)) (cap_found which) ∙ new_found before which say.0)
    ∙ caps_say (with_cap before which) others said say.1

-- ---- the words of a text, one after another

-- one more word, which the text goes on behind
pub say_step : (text rest word behind : List ℕ) (said : Said) (answer : Option Said)
    → first_word rest ≡ Some (parted word behind) → say_word said word ≡ answer
    → say_words nothing_said (words_between text) ≡ say_words said (words_between rest)
    → say_words nothing_said (words_between text)
    ≡ option_and_then (λ more. say_words more (words_between behind)) answer
say_step text rest word behind said answer first says so_far =
    so_far ∙ ap (say_words said) (words_cut rest word behind first)
    ∙ ap (option_and_then (λ more. say_words more (words_between behind))) says

same_answer : (answer : Option Said) → option_and_then (λ more. say_words more []) answer ≡ answer
same_answer None = refl
same_answer (Some said) = refl

-- the last word
pub say_last : (text rest : List ℕ) (said : Said) (answer : Option Said) → first_word rest ≡ None
    → say_word said rest ≡ answer
    → say_words nothing_said (words_between text) ≡ say_words said (words_between rest)
    → say_words nothing_said (words_between text) ≡ answer
say_last text rest said answer none says so_far =
    so_far ∙ ap (say_words said) (words_uncut rest none)
    ∙ ap (option_and_then (λ more. say_words more [])) says ∙ same_answer answer

-- no word of a capability has a space
pub cap_lacks : (which : Cap) → Lacks 32 (cap_word which)
cap_lacks cap.Ipv4 = lacks_by (cap_word cap.Ipv4) refl
cap_lacks cap.Ipv6 = lacks_by (cap_word cap.Ipv6) refl
cap_lacks cap.Ipv4Path = lacks_by (cap_word cap.Ipv4Path) refl
cap_lacks cap.Ipv6Path = lacks_by (cap_word cap.Ipv6Path) refl
cap_lacks cap.Extended = lacks_by (cap_word cap.Extended) refl

pub caps_lack : (caps : List Cap) → AllByRecursion (Lacks 32) (map cap_word caps)
caps_lack [] = tt
caps_lack (which ∷ others) = (cap_lacks which, caps_lack others)

-- a text that says capabilities
pub record AreCaps (text : List ℕ) (caps : Caps) : Type 0 where
  pub first : Cap
  pub others : List Cap
  pub said : Said
  pub say : SayCaps nothing_said (first ∷ others) said
  pub kept : are_kept said ≡ true
  pub caps_are : caps ≡ caps_of said
  pub text_is : text ≡ joined (map cap_word (first ∷ others))

some_caps : (text : List ℕ) (caps : Caps) (said : Said) (which : List Cap) → words_between text ≡ map cap_word which
    → SayCaps nothing_said which said → are_kept said ≡ true → caps ≡ caps_of said → AreCaps text caps
some_caps text caps said [] words_are say kept caps_are =
    let some = some_words text in absurd (omega (arith, some, ap length words_are))
some_caps text caps said (first ∷ others) words_are say kept caps_are = record {
  first = first;
  others = others;
  said = said;
  say = say;
  kept = kept;
  caps_are = caps_are;
  text_is = sym (joined_words text) ∙ ap joined words_are;
}

pub caps_read : (text : List ℕ) (caps : Caps) → caps_in text ≡ Some caps → AreCaps text caps
unfolding caps_in caps_kept
caps_read text caps is =
    let parts = both caps_kept (say_words nothing_said (words_between text)) caps is in
    let kept = cond_some (are_kept parts.value) (caps_of parts.value) caps parts.gives in
    let words = caps_are nothing_said (words_between text) parts.value parts.answer_is in
    some_caps text caps parts.value words.caps words.words_are words.say kept.0 (sym kept.1)

-- it is read so
pub caps_found : (text : List ℕ) (first : Cap) (others : List Cap) (said : Said)
    → text ≡ joined (map cap_word (first ∷ others)) → SayCaps nothing_said (first ∷ others) said
    → are_kept said ≡ true → caps_in text ≡ Some (caps_of said)
unfolding caps_in caps_kept
caps_found text first others said is say kept =
    ap (λ (words : List (List ℕ)). option_and_then caps_kept (say_words nothing_said words))
    (ap words_between is ∙ joined_of (cap_word first) (map cap_word others) (caps_lack (first ∷ others)))
    ∙ ap (option_and_then caps_kept) (caps_say nothing_said (first ∷ others) said say)
    ∙ ap (λ test. if test then Some (caps_of said) else None) kept

-- capabilities with what was said of a family, and of long messages
abbrev family_said : Caps → Family → Bool → Bool → Caps
family_said caps family so path = if so then with_family caps family path else caps

abbrev extended_said : Caps → Bool → Caps
extended_said caps so = if so then with_extended caps else caps

-- the capabilities that are built of flags
built_of : (ipv4 ipv6 ipv4_path ipv6_path extended : Bool)
    → ((not ipv4_path || ipv4) && (not ipv6_path || ipv6)) ≡ true
    → extended_said (family_said (family_said no_caps Ipv4 ipv4 ipv4_path) Ipv6 ipv6 ipv6_path) extended
    ≡ flags ipv4 ipv6 ipv4_path ipv6_path extended
built_of true true true true true kept = refl
built_of true true true true false kept = refl
built_of true true true false true kept = refl
built_of true true true false false kept = refl
built_of true true false true true kept = refl
built_of true true false true false kept = refl
built_of true true false false true kept = refl
built_of true true false false false kept = refl
built_of true false true true extended kept = absurd (false≢true kept)
built_of true false true false true kept = refl
built_of true false true false false kept = refl
built_of true false false true extended kept = absurd (false≢true kept)
built_of true false false false true kept = refl
built_of true false false false false kept = refl
built_of false true true true extended kept = absurd (false≢true kept)
built_of false true true false extended kept = absurd (false≢true kept)
built_of false true false true true kept = refl
built_of false true false true false kept = refl
built_of false true false false true kept = refl
built_of false true false false false kept = refl
built_of false false true true extended kept = absurd (false≢true kept)
built_of false false true false extended kept = absurd (false≢true kept)
built_of false false false true extended kept = absurd (false≢true kept)
built_of false false false false true kept = refl
built_of false false false false false kept = refl

pub built : (said : Said) → are_kept said ≡ true
    → extended_said (family_said (family_said no_caps Ipv4 said.ipv4 said.ipv4_path) Ipv6 said.ipv6 said.ipv6_path)
    said.extended ≡ caps_of said
built said kept = built_of said.ipv4 said.ipv6 said.ipv4_path said.ipv6_path said.extended kept
