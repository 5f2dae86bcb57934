-- What a contract sees of keys that stand in a pool: the keys at their places, and the places that are noted.
use Rattle.std.specs.Prelude.{ℕ, ◌≡◌, ◌<◌, zero, suc, List, [], ◌∷◌, map, Option, Some, None, length, slice_set}
use Rattle.std.specs.Option.{option_map}
use Rattle.linked_pending.specs.Listing.{without}
use Rattle.route_values.specs.declared.key.Key.{Key}
use Rattle.adj_rib_out.specs.Places.{key_at}

-- Keys at places, the places that are noted, and how many of the places were ever given a key. Those have the lowest
-- numbers. A place can be vacant, whether it had a key or not.
pub record KeyPlaces : Type 0 where
  pub keys : List (Option Key)
  pub idle : List ℕ
  pub used : ℕ

-- the keys of a pool, whose tags say nothing
abbrev pub keys_in : List (Option (Key × ℕ)) → List (Option Key)
keys_in items = map (option_map (λ (item : Key × ℕ). item.0)) items

-- as many of them as there are places, and vacant places behind them
abbrev pub padded : List (Option Key) → ℕ → List (Option Key)
padded keys zero = []
padded [] (suc places) = None ∷ padded [] places
padded (key ∷ keys) (suc places) = key ∷ padded keys places

-- a key stands at a place that was vacant, and nothing else has changed but how many places were used
pub record AddsKey (old new : KeyPlaces) (place : ℕ) (key : Key) : Type 0 where
  pub free : key_at old.keys place ≡ None
  pub within : place < length old.keys
  pub keys : new.keys ≡ slice_set old.keys place (Some key)
  pub idle : new.idle ≡ old.idle

-- the key of a place is gone, the place isn't noted, and nothing else has changed
pub record TakesKeyOut (old new : KeyPlaces) (place : ℕ) : Type 0 where
  pub keys : new.keys ≡ slice_set old.keys place None
  pub idle : new.idle ≡ without place old.idle
  pub used : new.used ≡ old.used
