-- The names that are heard grow at the end: a further one is new, or it stood before.
use Rattle.std.proofs.Common.{ℕ, ◌≡◌, ◌+◌, ◌<◌, Bool, List, [], ◌∷◌, ◌++◌, map, take, get_or, length, ap, sym, ◌∙◌}
use Rattle.std.specs.Cmp.{IsPartialEquivalence, nat_eq_equiv, on_per, partial_equiv_from_equiv}
use Rattle.std.specs.Cmp.Lexicographic.{lists_per}
use Rattle.std.specs.List.{list_any}
use Rattle.std.proofs.lemmas.List.{map_more}
use Rattle.indexmap.specs.IndexSet.{insert_key}
use Rattle.arrayvec.specs.ArrayVec.{ArrayVec}
use Rattle.route_values.specs.Sent.{first_places}
use Rattle.route_values.proofs.FirstPlacesLemmas.{first_places-push, has_same, put, with_new}
use Rattle.config_model.specs.Sections.{same_name}
use Rattle.config_reader.specs.declared.written.Heard.{Heard}
use Rattle.config_reader.specs.Neighbors.{names_of}

-- whether two names are the same
abbrev pub same : ArrayVec ℕ → ArrayVec ℕ → Bool
same a b = same_name a.items b.items

same_laws : IsPartialEquivalence same
same_laws = on_per (λ (name : ArrayVec ℕ). name.items) (lists_per (partial_equiv_from_equiv nat_eq_equiv))

-- either way round
had_before : (known : List (ArrayVec ℕ)) (name : ArrayVec ℕ) → list_any (same name) known ≡ has_same same known name
had_before known name =
    ap (λ (test : ArrayVec ℕ → Bool). list_any test known) (λ i other. same_laws.symm name other i)

inserted : (known : List (ArrayVec ℕ)) (name : ArrayVec ℕ) → insert_key same known name ≡ with_new same known name
inserted known name = ap (λ (had : Bool). put had known name) (had_before known name)

-- one name more
pub names_more : (heard : List Heard) (i : ℕ) (one : Heard) (old new : List (ArrayVec ℕ)) (name : ArrayVec ℕ)
    → i < length heard → one ≡ get_or heard i one → old ≡ names_of (take i heard) → name ≡ one.name
    → new ≡ insert_key same old name → new ≡ names_of (take (i + 1) heard)
names_more heard i one old new name within at before is after =
    let named : List (ArrayVec ℕ) = map (λ (other : Heard). other.name) (take i heard) in
    let last : name ≡ (get_or heard i one).name = is ∙ ap (λ (other : Heard). other.name) at in
    after
    ∙ inserted old name
    ∙ ap (λ (known : List (ArrayVec ℕ)). with_new same known name) before
    ∙ sym (first_places-push same same_laws named name)
    ∙ ap (λ (next : ArrayVec ℕ). first_places same (named ++ next ∷ [])) last
    ∙ sym (ap (first_places same) (map_more (λ (other : Heard). other.name) heard i one within))
