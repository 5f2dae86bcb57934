-- No key is left where none is of those that anyone asked for: so a history with few keys is looked through.
use Rattle.std.proofs.Common.{◌≡◌, Bool, true, false, List, [], ◌∷◌, Some, None, refl, sym, ap, ◌∙◌, inl, inr}
use Rattle.std.specs.Prelude.{◌⊎◌, Option, IsSome}
use Rattle.std.specs.List.{list_any}
use Rattle.std.proofs.lemmas.Bool.{and_parts, or_cases}
use Rattle.route_values.specs.declared.attrs.WireAttrs.{WireAttrs}
use Rattle.route_values.specs.declared.key.Key.{Key}
use Rattle.route_values.specs.Caps.{Caps}
use Rattle.route_values.specs.Key.{same_key}
use Rattle.route_values.proofs.KeyLemmas.{same_key_is}
use Rattle.peer_history.specs.Batches.{first_cut, is_owed, is_left, NoKeyLeft}
use Rattle.peer_history.specs.Cuts.{IsLegal}
use Rattle.peer_history.specs.Keys.{is_named}
use Rattle.peer_history.specs.Ordered.{asked_for}
use Rattle.peer_history.specs.Same.{differ}
use Rattle.peer_history.specs.Sessions.{session, peer}
use Rattle.peer_history.specs.Steps.{Step}
use Rattle.peer_history.specs.Table.{view}
use Rattle.peer_history.proofs.MessageLemmas.{Grammar}
use Rattle.peer_history.proofs.NodeLemmas.{either}
use Rattle.peer_history.proofs.OrderedLemmas.{peer_asked, shown_asked}

-- of two values that differ one is there
one_there : (a b : Option WireAttrs) → differ a b ≡ true → IsSome a ⊎ IsSome b
one_there None None h = cc
one_there None (Some w) h = inr refl
one_there (Some w) b h = inl refl

-- what is owed was asked for
owed_asked : Grammar → (steps : List Step) → IsLegal steps → (caps : Caps) → session steps ≡ Some caps → (key : Key)
    → is_owed caps steps key ≡ true → is_named (asked_for steps) key ≡ true
owed_asked grammar steps legal caps at key h =
    elim (or_cases _ _ h) [
      | inl apart ↦ elim (one_there (peer caps steps key) (view caps steps key) apart) [
        | inl had ↦ peer_asked grammar steps legal caps at key had
        | inr shown ↦ shown_asked caps steps key shown
      ]
      | inr again ↦ shown_asked caps steps key (and_parts _ _ again).0
    ]

-- a test that passes one of the keys
any_named : (test : Key → Bool) (keys : List Key) (key : Key) → is_named keys key ≡ true → test key ≡ true
    → list_any test keys ≡ true
any_named test [] key n e = cc
any_named test (k ∷ ks) key n e =
    elim (or_cases (same_key k key) (is_named ks key) n) [
      | inl same ↦ either _ _ (inl (ap test (same_key_is k key same) ∙ e))
      | inr later ↦ either _ _ (inr (any_named test ks key later e))
    ]

-- the batch began after these steps, and of the keys that were asked for by then it owes none any longer
pub none_left : Grammar → (caps : Caps) (steps start : List Step) → first_cut steps ≡ start → IsLegal start
    → session start ≡ Some caps → list_any (is_left caps steps) (asked_for start) ≡ false → NoKeyLeft caps steps
none_left grammar caps steps start begins legal at none key =
    elim (is_left caps steps key) as (λ b. is_left caps steps key ≡ b → b ≡ false) [
      | true ↦ λ e.
          let owed : is_owed caps start key ≡ true =
          ap (λ s. is_owed caps s key) (sym begins) ∙ (and_parts _ _ e).0 in
          sym (any_named (is_left caps steps) (asked_for start) key (owed_asked grammar start legal caps at key owed) e)
          ∙ none
      | false ↦ λ e. refl
    ] refl
