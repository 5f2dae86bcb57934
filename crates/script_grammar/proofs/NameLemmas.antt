-- The names of events and of families.
use Rattle.std.proofs.Common.{ℕ, ◌≡◌, Bool, true, false, List, [], ◌∷◌, ◌++◌, Option, Some, None, ap, ◌∙◌, refl}
use Rattle.std.proofs.Common.{if◌then◌else◌}
use Rattle.std.specs.Option.{option_and_then}
use Rattle.std.specs.Str.{bytes_eq}
use Rattle.std.proofs.lemmas.Slice.Eq.{bytes_eq-Decides}
use Rattle.text_forms.proofs.CutLemmas.{Lacks}
use Rattle.route_values.specs.declared.addr.Family.{Family}
use Rattle.route_values.specs.declared.addr.Family.TheVariants.{Ipv4, Ipv6}
use Rattle.script_grammar.specs.declared.names.Name.{Name}
use Rattle.script_grammar.specs.declared.names.Name.TheVariants as name
use Rattle.script_grammar.specs.Reading.{event_from, event_in, named_event}
use Rattle.script_grammar.specs.Words.{all_names, family_in, family_word, first_named, first_word, name_in, name_word}
use Rattle.script_grammar.proofs.WordLemmas.{first_of, lacks_by}

name_by : (word : List ℕ) (which : Name) (others : List Name) (test : Bool) (found : Name)
    → bytes_eq word (name_word which) ≡ test → (if test then Some which else first_named others word) ≡ Some found
    → (first_named others word ≡ Some found → word ≡ name_word found) → word ≡ name_word found
name_by word which others true found tested is further =
    let which_is : which ≡ found = cc in
    (bytes_eq-Decides word (name_word which)).0 tested ∙ ap name_word which_is
name_by word which others false found tested is further = further is

first_named_is : (names : List Name) (word : List ℕ) (found : Name) → first_named names word ≡ Some found
    → word ≡ name_word found
first_named_is [] word found is = absurd (cc)
first_named_is (which ∷ others) word found is =
    name_by word which others (bytes_eq word (name_word which)) found refl is (first_named_is others word found)

-- a name that is found has this word
pub name_is : (word : List ℕ) (found : Name) → name_in word ≡ Some found → word ≡ name_word found
unfolding name_in
name_is word found is = first_named_is all_names word found is

-- each name is found by its word, which has no space
pub name_found : (which : Name) → name_in (name_word which) ≡ Some which
unfolding name_in
name_found name.Spawn = refl
name_found name.Line = refl
name_found name.Take = refl
name_found name.Deaf = refl
name_found name.Gone = refl
name_found name.Peer = refl
name_found name.Up = refl
name_found name.Down = refl
name_found name.Refresh = refl
name_found name.Cut = refl
name_found name.Drain = refl
name_found name.Reload = refl

name_lacks : (which : Name) → Lacks 32 (name_word which)
name_lacks name.Spawn = lacks_by (name_word name.Spawn) refl
name_lacks name.Line = lacks_by (name_word name.Line) refl
name_lacks name.Take = lacks_by (name_word name.Take) refl
name_lacks name.Deaf = lacks_by (name_word name.Deaf) refl
name_lacks name.Gone = lacks_by (name_word name.Gone) refl
name_lacks name.Peer = lacks_by (name_word name.Peer) refl
name_lacks name.Up = lacks_by (name_word name.Up) refl
name_lacks name.Down = lacks_by (name_word name.Down) refl
name_lacks name.Refresh = lacks_by (name_word name.Refresh) refl
name_lacks name.Cut = lacks_by (name_word name.Cut) refl
name_lacks name.Drain = lacks_by (name_word name.Drain) refl
name_lacks name.Reload = lacks_by (name_word name.Reload) refl

-- a line that begins with a name is read by it
pub named : (line : List ℕ) (which : Name) (rest : List ℕ) → line ≡ name_word which ++ 32 ∷ rest
    → event_in line ≡ named_event which rest
unfolding event_in
named line which rest is =
    ap (event_from line) (ap first_word is ∙ first_of (name_word which) rest (name_lacks which))
    ∙ ap (λ (found : Option Name). option_and_then (λ one. named_event one rest) found) (name_found which)

family_by : (word : List ℕ) (first second : Bool) (found : Family) → bytes_eq word (family_word Ipv4) ≡ first
    → bytes_eq word (family_word Ipv6) ≡ second
    → (if first then Some Ipv4 else (if second then Some Ipv6 else None)) ≡ Some found → word ≡ family_word found
family_by word true second found is_first is_second is =
    let found_is : Ipv4 ≡ found = cc in
    (bytes_eq-Decides word (family_word Ipv4)).0 is_first ∙ ap family_word found_is
family_by word false true found is_first is_second is =
    let found_is : Ipv6 ≡ found = cc in
    (bytes_eq-Decides word (family_word Ipv6)).0 is_second ∙ ap family_word found_is
family_by word false false found is_first is_second is = absurd (cc)

-- a family that is found has this word
pub family_is : (word : List ℕ) (found : Family) → family_in word ≡ Some found → word ≡ family_word found
unfolding family_in
family_is word found is =
    family_by word (bytes_eq word (family_word Ipv4)) (bytes_eq word (family_word Ipv6)) found refl refl is

pub family_found : (family : Family) → family_in (family_word family) ≡ Some family
unfolding family_in
family_found Ipv4 = refl
family_found Ipv6 = refl
