-- Entries by name, and legal histories.
use Rattle.std.proofs.Common.{◌≡◌, ◌≢◌, ℕ, true, false, true≢false, List, [], ◌∷◌, ◌++◌, length, refl, sym, ap, subst}
use Rattle.std.proofs.Common.{◌∙◌, ⊎_elim, arith}
use Rattle.std.specs.Prelude.{Contains}
use Rattle.std.proofs.lemmas.List.{map-append, append-nil}
use Rattle.std.proofs.lemmas.List.Elements.{filter-append}
use Rattle.std.proofs.lemmas.Bool.Decides.{nat_tests}
use mathlib.Core.List.{IsPrefix}
use Rattle.book_gate.specs.declared.view.Signed.{Signed}
use Rattle.book_gate.specs.Histories.{Legal, is_name, entries, entries_by, signed}
use Rattle.book_gate.proofs.ListLemmas.{prefix_trans, prefix_push, prefix_map, prefix_none, prefix_length, prefix_whole}
use Rattle.book_gate.proofs.ListLemmas.{contains_here, contains_there}
use Rattle.book_gate.proofs.OptionLemmas.{bool_not}

module _ {A E : Type 0} (law : A → List E → E → Type 0) (start : A) where
  pub legal_push : (history : List E) (entry : E) → Legal law start history → law start history entry
      → Legal law start (history ++ entry ∷ [])
  legal_push history entry all last before x front =
      ⊎_elim (λ old. all before x old) (λ (new : (before ≡ history) × (x ≡ entry)).
      subst (λ (it : List E × E). law start it.0 it.1) (λ i. (sym new.0 i, sym new.1 i)) last)
      (prefix_push before history x entry front)

  pub legal_prefix : (front history : List E) → IsPrefix front history → Legal law start history → Legal law start front
  legal_prefix front history is all before x first = all before x
      (prefix_trans (before ++ x ∷ []) front history first is)

pub is_name-self : (name : List ℕ) → is_name name name ≡ true
is_name-self [] = refl
is_name-self (x ∷ xs) = grind (arith, nat_tests, is_name-self xs)

pub is_name-true : (name other : List ℕ) → is_name name other ≡ true → name ≡ other
is_name-true [] [] is = refl
is_name-true [] (y ∷ ys) is = absurd (true≢false (sym is))
is_name-true (x ∷ xs) [] is = absurd (true≢false (sym is))
is_name-true (x ∷ xs) (y ∷ ys) is = grind (arith, nat_tests, is_name-true xs ys)

pub is_name-apart : (name other : List ℕ) → name ≢ other → is_name name other ≡ false
is_name-apart name other apart = bool_not (is_name name other) (λ is. apart (is_name-true name other is))

module _ {E : Type 0} where
  pub entries-push : (history : List (Signed E)) (x : Signed E)
      → entries (history ++ x ∷ []) ≡ entries history ++ x.entry ∷ []
  entries-push history x = map-append (λ (y : Signed E). y.entry) history (x ∷ [])

  pub entries-prefix : (front history : List (Signed E)) → IsPrefix front history
      → IsPrefix (entries front) (entries history)
  entries-prefix front history is = prefix_map (λ (y : Signed E). y.entry) front history is

  pub entries_by-push : (name : List ℕ) (history : List (Signed E)) (entry : E)
      → entries_by name (history ++ signed name entry ∷ []) ≡ entries_by name history ++ signed name entry ∷ []
  entries_by-push name history entry = filter-append (λ (y : Signed E). is_name name y.name) history
      (signed name entry ∷ []) ∙ rw (is_name-self name) refl

  pub entries_by-other : (name other : List ℕ) (history : List (Signed E)) (entry : E) → name ≢ other
      → entries_by name (history ++ signed other entry ∷ []) ≡ entries_by name history
  entries_by-other name other history entry apart = filter-append (λ (y : Signed E). is_name name y.name) history
      (signed other entry ∷ []) ∙ rw (is_name-apart name other apart) (append-nil (entries_by name history))

  pub entries_by-prefix : (name : List ℕ) (front history : List (Signed E)) → IsPrefix front history
      → IsPrefix (entries_by name front) (entries_by name history)
  entries_by-prefix name front history is = (
    entries_by name is.0,
    sym (filter-append (λ (y : Signed E). is_name name y.name) front is.0) ∙ ap (entries_by name) is.1,
  )

  -- A list between two that have as many entries of a name has as many of it
  pub entries_by_between : (name : List ℕ) (front middle history : List (Signed E)) → IsPrefix front middle
      → IsPrefix middle history → entries_by name front ≡ entries_by name history
      → entries_by name front ≡ entries_by name middle
  entries_by_between name front middle history first second same =
      prefix_whole (entries_by name front) (entries_by name middle) (entries_by-prefix name front middle first)
      (omega (
        arith,
        prefix_length (entries_by name middle) (entries_by name history)
            (entries_by-prefix name middle history second),
        ap length same,
      ))

  -- A history in which no entry has a name has none of its entries
  pub entries_by_unknown : (name : List ℕ) (history : List (Signed E))
      → ((x : Signed E) → Contains history x → name ≢ x.name) → entries_by name history ≡ []
  entries_by_unknown name [] unknown = refl
  entries_by_unknown name (x ∷ xs) unknown = rw (is_name-apart name x.name (unknown x (contains_here x xs)))
      (entries_by_unknown name xs (λ y has. unknown y (contains_there x xs y has)))

  pub entries_by_unknown_prefix : (name : List ℕ) (front history : List (Signed E)) → IsPrefix front history
      → entries_by name history ≡ [] → entries_by name front ≡ []
  entries_by_unknown_prefix name front history is none = prefix_none (entries_by name front) (entries_by name history)
      (entries_by-prefix name front history is) none
