-- Lists of keys.
use Rattle.std.specs.Prelude.{ℕ, ◌+◌, ◌&&◌, ◌||◌, Bool, false, not, ⊤, List, [], ◌∷◌, if◌then◌else◌, IsTrue}
use Rattle.route_values.specs.declared.key.Key.{Key}
use Rattle.route_values.specs.Key.{same_key}

-- whether the key is among these
abbrev pub is_named : List Key → Key → Bool
is_named [] key = false
is_named (k ∷ ks) key = same_key k key || is_named ks key

-- how often the key is among these
abbrev pub times_named : List Key → Key → ℕ
times_named [] key = 0
times_named (k ∷ ks) key = (if same_key k key then 1 else 0) + times_named ks key

-- the keys pass the test, each when those before it no longer do: so they differ
abbrev pub AreSomeOf : (Key → Bool) → List Key → Type 0
AreSomeOf test [] = ⊤
AreSomeOf test (k ∷ ks) = IsTrue (test k) × AreSomeOf (λ key. test key && not (same_key k key)) ks
