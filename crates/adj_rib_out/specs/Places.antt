-- Keys at places, and the rows that they stand for.
use Rattle.std.specs.Prelude.{ℕ, ◌≡◌, ◌+◌, Bool, false, List, [], ◌∷◌, if◌then◌else◌, Option, Some, None}
use Rattle.std.specs.Prelude.{slice_index_or}
use Rattle.route_values.specs.declared.attrs.WireAttrs.{WireAttrs}
use Rattle.route_values.specs.declared.key.Key.{Key}
use Rattle.route_values.specs.Key.{same_key}
use Rattle.adj_rib_out.specs.State.{Row, Route}

-- the key at a place
abbrev pub key_at : List (Option Key) → ℕ → Option Key
key_at keys place = slice_index_or keys place None

-- whether a key stands there
abbrev pub is_key : Option Key → Key → Bool
is_key None key = false
is_key (Some k) key = same_key k key

-- the place of a key, where the places are numbered from a first one on
abbrev pub place_from : List (Option Key) → Key → ℕ → Option ℕ
place_from [] key first = None
place_from (None ∷ keys) key first = place_from keys key (first + 1)
place_from (Some k ∷ keys) key first = if same_key k key then Some first else place_from keys key (first + 1)

abbrev pub place_of : List (Option Key) → Key → Option ℕ
place_of keys key = place_from keys key 0

-- no key stands at two places
abbrev pub StandOnce : List (Option Key) → Type 0
StandOnce keys = (i j : ℕ) (key : Key) → key_at keys i ≡ Some key → key_at keys j ≡ Some key → i ≡ j

-- a key with its route and what was sent of it
abbrev pub row_of : Key → Option Route → Option WireAttrs → Row
row_of key route told = record { key = key; route = route; told = told }

-- the rows of keys, by what each place has
abbrev pub rows_from : (ℕ → Option Route) → (ℕ → Option WireAttrs) → List (Option Key) → ℕ → List (Option Row)
rows_from route told [] first = []
rows_from route told (None ∷ keys) first = None ∷ rows_from route told keys (first + 1)
rows_from route told (Some key ∷ keys) first =
    Some (row_of key (route first) (told first)) ∷ rows_from route told keys (first + 1)
