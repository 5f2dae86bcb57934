-- The texts of keys end to end.
use Rattle.std.proofs.Common.{◌≡◌, Bool, List, [], ◌∷◌, ◌++◌, append-nil}
use Rattle.std.proofs.lemmas.List.Concat.{flat_map-append}
use Rattle.route_values.specs.declared.key.Key.{Key}
use Rattle.update_grammar.specs.Prefixes.{key_text, keys_text}

-- the texts of keys and of one more
pub keys_more : (path : Bool) (keys : List Key) (key : Key)
    → keys_text path (keys ++ key ∷ []) ≡ keys_text path keys ++ key_text path key
keys_more path keys key = simp (flat_map-append, append-nil)
