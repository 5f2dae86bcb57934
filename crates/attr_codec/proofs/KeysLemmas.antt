-- The loop that reads keys.
use Rattle.std.proofs.Common.{ℕ, ◌≡◌, ◌+◌, ◌-◌, ◌<◌, ◌≤◌, Bool, List, [], ◌∷◌, ◌++◌, length, Some, None, Result, Ok}
use Rattle.std.proofs.Common.{Err, arith, ap, sym, subst}
use Rattle.std.specs.Prelude.{IfOk}
use Rattle.std.specs.Option.{ok_or}
use Rattle.answers.specs.Gives.{Gives}
use Rattle.route_values.specs.declared.addr.Family.{Family}
use Rattle.route_values.specs.declared.key.Key.{Key}
use Rattle.update_grammar.specs.Laws.{AreBytes}
use Rattle.update_grammar.specs.Pieces.{SpellsEach}
use Rattle.update_grammar.specs.Prefixes.{SpellsKey}
use Rattle.update_grammar.specs.Steps.{◌>>=◌, each}
use Rattle.update_grammar.specs.ReadPrefixes.{key_at, key_step, keys_in}
use Rattle.update_grammar.proofs.StepsLemmas.{with_front, begins_alone, goes_on, stops, is_done}
use Rattle.update_grammar.proofs.ReadPrefixLemmas.{key_shrinks, keys_shrink, keys_found, keys_only}
use Rattle.attr_codec.specs.declared.fault.KeysFault.{KeysFault}
use Rattle.attr_codec.specs.Faults.{keys_blame}

-- what is read from a place in the bytes on, behind the keys so far
abbrev pub keys_so_far : Bool → Family → List ℕ → List Key → List ℕ → Result (List Key) ℕ
keys_so_far path family whole keys rest = with_front (λ key. key ∷ []) keys
    (each (key_step path family) (length whole - length rest) rest)

-- no key is read yet
pub keys_begin : (path : Bool) (family : Family) (whole : List ℕ) (keys : List Key) → keys ≡ []
    → keys_so_far path family whole keys whole ≡ keys_in path family whole
unfolding keys_in
keys_begin path family whole keys none =
    let place : length whole - length whole ≡ 0 = omega arith in
    rw (none, place) (begins_alone (each (key_step path family) 0 whole))

-- a key is found
step_on : (path : Bool) (family : Family) (place : ℕ) (rest behind : List ℕ) (key : Key)
    → Some (key, behind) ≡ key_at path family rest
    → key_step path family place rest ≡ Ok (key, place + (length rest - length behind), behind)
step_on path family place rest behind key is = ap (λ found. ok_or found place >>= λ one.
    Ok (one.0, place + (length rest - length one.1), one.1)) (sym is)

-- the next key is read
pub keys_go_on : (path : Bool) (family : Family) (whole rest behind : List ℕ) (keys more : List Key) (key : Key)
    (total : Result (List Key) ℕ) → length rest ≤ length whole → Some (key, behind) ≡ key_at path family rest
    → more ≡ keys ++ key ∷ [] → keys_so_far path family whole keys rest ≡ total
    → keys_so_far path family whole more behind ≡ total
keys_go_on path family whole rest behind keys more key total within is pushed so_far =
    let place : ℕ = length whole - length rest in
    let less = key_shrinks path family rest (key, behind) (sym is) in
    let next : place + (length rest - length behind) ≡ length whole - length behind = omega arith in
    let on = goes_on (key_step path family) (keys_shrink path family) (λ key. key ∷ []) keys place rest
    (key, place + (length rest - length behind), behind) total (step_on path family place rest behind key is)
    so_far in
    rw (pushed, ← next) on

-- the bytes behind a key are within the whole
pub keys_shorter : (path : Bool) (family : Family) (rest behind : List ℕ) (key : Key)
    → Some (key, behind) ≡ key_at path family rest → length behind < length rest
keys_shorter path family rest behind key is = key_shrinks path family rest (key, behind) (sym is)

-- what is no key is a fault
pub keys_stop : (path : Bool) (family : Family) (whole rest : List ℕ) (keys : List Key) (total : Result (List Key) ℕ)
    → 0 < length rest → None ≡ key_at path family rest → keys_so_far path family whole keys rest ≡ total
    → total ≡ Err (length whole - length rest)
keys_stop path family whole rest keys total some is so_far =
    let place : ℕ = length whole - length rest in
    stops (key_step path family) (keys_shrink path family) (λ key. key ∷ []) keys place rest place total some
    (ap (λ found. ok_or found place >>= λ one. Ok (one.0, place + (length rest - length one.1), one.1)) (sym is))
    so_far

-- all keys are read
pub keys_end : (path : Bool) (family : Family) (whole rest : List ℕ) (keys : List Key) (total : Result (List Key) ℕ)
    → length rest ≡ 0 → keys_so_far path family whole keys rest ≡ total → total ≡ Ok keys
keys_end path family whole rest keys total none so_far = is_done (key_step path family) (λ key. key ∷ []) keys
    (length whole - length rest) rest total none so_far

-- what is read is spelled
pub keys_are_found : (path : Bool) (family : Family) (bytes : List ℕ) (answer : Result (List Key) KeysFault)
    → AreBytes bytes → Gives (λ keys. keys) keys_blame answer (keys_in path family bytes)
    → IfOk answer (λ keys. SpellsEach (SpellsKey path family) bytes keys)
keys_are_found path family bytes (Ok keys) bytes_are given = keys_found path family bytes keys bytes_are given
keys_are_found path family bytes (Err e) bytes_are given = tt

-- what is spelled is read
pub keys_are_given : (path : Bool) (family : Family) (bytes : List ℕ) (answer : Result (List Key) KeysFault)
    (keys : List Key) → SpellsEach (SpellsKey path family) bytes keys
    → Gives (λ keys. keys) keys_blame answer (keys_in path family bytes)
    → Gives (λ keys. keys) keys_blame answer (Ok keys)
keys_are_given path family bytes answer keys spelled given = subst (λ read. Gives (λ keys. keys) keys_blame answer read)
    (keys_only path family bytes keys spelled) given
