-- Prefixes that are read are those that are spelled.
use Rattle.std.proofs.Common.{ℕ, ◌≡◌, ◌+◌, ◌-◌, ◌^◌, ◌<◌, ◌≤◌, Bool, true, false, List, [], ◌∷◌, ◌++◌, length, take}
use Rattle.std.proofs.Common.{drop, nat_lt, Option, Some, None, Ok, arith, length-append, length-drop, length-take}
use Rattle.std.proofs.Common.{append_assoc, ap, sym, ◌∙◌, refl, subst, if◌then◌else◌}
use Rattle.std.specs.Option.{option_map, option_and_then, ok_or}
use Rattle.std.specs.Int.{w32, to_be_bytes, from_be_bytes}
use Rattle.std.proofs.lemmas.Bool.{ltb-false, le-ltb}
use Rattle.std.proofs.lemmas.List.{take_at, drop_at, take-append-drop}
use Rattle.std.proofs.lemmas.Option.{same_Some}
use Rattle.route_values.specs.declared.addr.Family.{Family}
use Rattle.route_values.specs.declared.key.Key.{Key}
use Rattle.route_values.specs.Addr.{bits_of}
use Rattle.route_values.specs.Prefix.{Block}
use Rattle.update_grammar.specs.Pieces.{SpellsEach}
use Rattle.update_grammar.specs.Prefixes.{bytes_for, addr_from, SpellsBlock, SpellsId, SpellsKey}
use Rattle.update_grammar.specs.Steps.{◌>>=◌}
use Rattle.update_grammar.specs.ReadPrefixes.{id_at, block_at, key_at, key_step, keys_in}
use Rattle.update_grammar.specs.Laws.{AreBytes}
use Rattle.update_grammar.proofs.ByteLemmas.{bytes_behind, wide32, number_read, number_written}
use Rattle.update_grammar.proofs.StepsLemmas.{Shrinks, Takes, Reads, each_found, each_only, bind_ok, ok_is}

-- the value of an option that is there
pub and_then_some : {A B : Type 0} (f : A → Option B) (o : Option A) (y : B) → option_and_then f o ≡ Some y
    → (x : A) × (o ≡ Some x) × (f x ≡ Some y)
and_then_some f None y is = absurd cc
and_then_some f (Some x) y is = (x, refl, is)

pub map_some : {A B : Type 0} (f : A → B) (o : Option A) (y : B) → option_map f o ≡ Some y
    → (x : A) × (o ≡ Some x) × (f x ≡ y)
map_some f None y is = absurd cc
map_some f (Some x) y is = (x, refl, cc)

pub ok_or_some : {A E : Type 0} (o : Option A) (e : E) (x : A) → ok_or o e ≡ Ok x → o ≡ Some x
ok_or_some None e x is = absurd cc
ok_or_some (Some y) e x is = cc

-- a test that holds, before something
pub unless : {A : Type 0} (b : Bool) (o : Option A) (x : A) → (if b then None else o) ≡ Some x
    → (b ≡ false) × (o ≡ Some x)
unless true o x is = absurd cc
unless false o x is = (refl, is)

-- What is read from the front of bytes: a text of it, and what stands behind it.
abbrev pub Front : {X : Type 0} → (List ℕ → X → Type 0) → List ℕ → X × List ℕ → Type 0
Front Piece bytes one = (text : List ℕ) × (bytes ≡ text ++ one.1) × Piece text one.0

-- an identifier that is read is spelled
id_found : (path : Bool) (bytes : List ℕ) (one : ℕ × List ℕ) → AreBytes bytes → id_at path bytes ≡ Some one
    → Front (SpellsId path) bytes one
id_found true bytes one are is =
    let parts = unless (nat_lt (length bytes) 4) (Some (from_be_bytes w32 bytes, drop 4 bytes)) one is in
    let long : 4 ≤ length bytes = ltb-false _ _ parts.0 in
    let spelled : Front (SpellsId true) bytes (from_be_bytes w32 bytes, drop 4 bytes) = (
      to_be_bytes w32 (from_be_bytes w32 bytes),
      sym (number_written w32 (2 ^ 32) wide32 bytes are long),
      (refl, wide32.below bytes are),
    ) in
    subst (Front (SpellsId true) bytes) (same_Some _ _ parts.1) spelled
id_found false bytes one are is = subst (Front (SpellsId false) bytes) (same_Some _ _ is) ([], refl, (refl, refl))

-- an identifier that is spelled is read
id_only : (path : Bool) (text rest : List ℕ) (id : ℕ) → SpellsId path text id
    → id_at path (text ++ rest) ≡ Some (id, rest)
id_only true text rest id spelled =
    let long : nat_lt (length (to_be_bytes w32 id ++ rest)) 4 ≡ false =
    le-ltb _ _ (omega (arith, length-append (to_be_bytes w32 id) rest)) in
    ap (λ front. id_at true (front ++ rest)) spelled.0
    ∙ rw (long, number_read w32 (2 ^ 32) wide32 id rest spelled.1, drop_at (to_be_bytes w32 id) rest 4 refl) refl
id_only false text rest id spelled = rw (spelled.0, spelled.1) refl

-- a prefix that is read is spelled
block_found : (family : Family) (bytes : List ℕ) (one : Block × List ℕ) → block_at family bytes ≡ Some one
    → Front (SpellsBlock family) bytes one
block_found family [] one is = absurd cc
block_found family (bits ∷ bytes) one is =
    let block : Block = record { addr = addr_from family bits (take (bytes_for bits) bytes); len = bits } in
    let fits = unless (nat_lt (bits_of family) bits) (if nat_lt (length bytes) (bytes_for bits) then None else Some
    (block, drop (bytes_for bits) bytes)) one is in
    let whole = unless (nat_lt (length bytes) (bytes_for bits)) (Some (block, drop (bytes_for bits) bytes)) one
    fits.1 in
    let short : bits ≤ bits_of family = ltb-false _ _ fits.0 in
    let long : bytes_for bits ≤ length bytes = ltb-false _ _ whole.0 in
    let spelled : Front (SpellsBlock family) (bits ∷ bytes) (block, drop (bytes_for bits) bytes) = (
      bits ∷ take (bytes_for bits) bytes,
      ap (λ more. bits ∷ more) (sym (take-append-drop (bytes_for bits) bytes)),
      (take (bytes_for bits) bytes, refl, short, length-take (bytes_for bits) bytes ∙ omega (arith, long), refl),
    ) in
    subst (Front (SpellsBlock family) (bits ∷ bytes)) (same_Some _ _ whole.1) spelled

-- a prefix that is spelled is read
block_only : (family : Family) (text rest : List ℕ) (b : Block) → SpellsBlock family text b
    → block_at family (text ++ rest) ≡ Some (b, rest)
block_only family text rest b spelled =
    let field : List ℕ = spelled.0 in
    let fits : nat_lt (bits_of family) b.len ≡ false = le-ltb _ _ spelled.2 in
    let long : nat_lt (length (field ++ rest)) (bytes_for b.len) ≡ false =
    le-ltb _ _ (omega (arith, length-append field rest, spelled.3)) in
    let same : addr_from family b.len (take (bytes_for b.len) (field ++ rest)) ≡ b.addr =
    ap (addr_from family b.len) (take_at field rest (bytes_for b.len) spelled.3) ∙ sym spelled.4 in
    ap (λ front. block_at family (front ++ rest)) spelled.1 ∙ rw
    (fits, long, same, drop_at field rest (bytes_for b.len) spelled.3) refl

-- a key that is read is spelled
key_found : (path : Bool) (family : Family) (bytes : List ℕ) (one : Key × List ℕ) → AreBytes bytes
    → key_at path family bytes ≡ Some one → Front (SpellsKey path family) bytes one
unfolding key_at
key_found path family bytes one are is =
    let first = and_then_some (λ id. option_map (λ block. (record { prefix = block.0; id = id.0 }, block.1))
    (block_at family id.1)) (id_at path bytes) one is in
    let second = map_some (λ block. (record { prefix = block.0; id = first.0.0 }, block.1)) (block_at family first.0.1)
    one first.2 in
    let id = id_found path bytes first.0 are first.1 in
    let block = block_found family first.0.1 second.0 second.1 in
    let whole : bytes ≡ (id.0 ++ block.0) ++ second.0.1 = id.1 ∙ ap (λ more. id.0 ++ more) block.1
    ∙ sym (append_assoc id.0 block.0 second.0.1) in
    let spelled : Front (SpellsKey path family) bytes (record { prefix = second.0.0; id = first.0.0 }, second.0.1) =
    (id.0 ++ block.0, whole, (id.0, block.0, refl, id.2, block.2)) in
    subst (Front (SpellsKey path family) bytes) second.2 spelled

-- a key that is spelled is read
pub key_only : (path : Bool) (family : Family) (text rest : List ℕ) (key : Key) → SpellsKey path family text key
    → key_at path family (text ++ rest) ≡ Some (key, rest)
unfolding key_at
key_only path family text rest key spelled =
    let whole : text ++ rest ≡ spelled.0 ++ (spelled.1 ++ rest) = ap (λ front. front ++ rest) spelled.2
    ∙ append_assoc spelled.0 spelled.1 rest in
    ap (λ bytes. key_at path family bytes) whole
    ∙ rw (
      id_only path spelled.0 (spelled.1 ++ rest) key.id spelled.3,
      block_only family spelled.1 rest key.prefix spelled.4,
    ) refl

-- a key takes at least one byte
id_shrinks : (path : Bool) (bytes : List ℕ) (one : ℕ × List ℕ) → id_at path bytes ≡ Some one
    → length one.1 ≤ length bytes
id_shrinks true bytes one is =
    let parts = unless (nat_lt (length bytes) 4) (Some (from_be_bytes w32 bytes, drop 4 bytes)) one is in
    subst (λ (o : ℕ × List ℕ). length o.1 ≤ length bytes) (same_Some _ _ parts.1) (omega (arith, length-drop 4 bytes))
id_shrinks false bytes one is = subst (λ (o : ℕ × List ℕ). length o.1 ≤ length bytes) (same_Some _ _ is) (omega arith)

block_shrinks : (family : Family) (bytes : List ℕ) (one : Block × List ℕ) → block_at family bytes ≡ Some one
    → length one.1 < length bytes
block_shrinks family bytes one is =
    let front = block_found family bytes one is in
    omega (arith, ap length front.1, length-append front.0 one.1, ap length front.2.1)

pub key_shrinks : (path : Bool) (family : Family) (bytes : List ℕ) (one : Key × List ℕ)
    → key_at path family bytes ≡ Some one → length one.1 < length bytes
unfolding key_at
key_shrinks path family bytes one is =
    let first = and_then_some (λ id. option_map (λ block. (record { prefix = block.0; id = id.0 }, block.1))
    (block_at family id.1)) (id_at path bytes) one is in
    let second = map_some (λ block. (record { prefix = block.0; id = first.0.0 }, block.1)) (block_at family first.0.1)
    one first.2 in
    let rest : second.0.1 ≡ one.1 = ap (λ (o : Key × List ℕ). o.1) second.2 in
    omega (
      arith,
      id_shrinks path bytes first.0 first.1,
      block_shrinks family first.0.1 second.0 second.1,
      ap length rest,
    )

-- the same of a step over keys
pub keys_shrink : (path : Bool) (family : Family) → Shrinks (key_step path family)
keys_shrink path family = record {
  less = λ place bytes one is.
      let first = bind_ok (ok_or (key_at path family bytes) place)
      (λ (got : Key × List ℕ). Ok (got.0, place + (length bytes - length got.1), got.1)) one is in
      let rest : first.0.1 ≡ one.2 = ap (λ (o : Key × ℕ × List ℕ). o.2) (ok_is place _ _ first.2) in
      omega (arith, key_shrinks path family bytes first.0 (ok_or_some _ _ _ first.1), ap length rest);
}

keys_taken : (path : Bool) (family : Family) → Takes AreBytes (SpellsKey path family) (key_step path family)
keys_taken path family place bytes one are is =
    let first = bind_ok (ok_or (key_at path family bytes) place)
    (λ (got : Key × List ℕ). Ok (got.0, place + (length bytes - length got.1), got.1)) one is in
    let same : (first.0.0, place + (length bytes - length first.0.1), first.0.1) ≡ one = ok_is place _ _ first.2 in
    let front = key_found path family bytes first.0 are (ok_or_some _ _ _ first.1) in
    let behind : AreBytes first.0.1 = bytes_behind front.0 first.0.1 (subst AreBytes front.1 are) in
    subst (λ (o : Key × ℕ × List ℕ). (text : List ℕ) × (bytes ≡ text ++ o.2) × SpellsKey path family text o.0
    × AreBytes o.2) same (front.0, front.1, front.2, behind)

keys_read : (path : Bool) (family : Family) → Reads (SpellsKey path family) (key_step path family)
keys_read path family place text rest key spelled = (
  place + (length (text ++ rest) - length rest),
  ap (λ (one : Option (Key × List ℕ)). ok_or one place >>= λ got.
      Ok (got.0, place + (length (text ++ rest) - length got.1), got.1)) (key_only path family text rest key spelled),
)

-- keys that are read are spelled
pub keys_found : (path : Bool) (family : Family) (bytes : List ℕ) (keys : List Key) → AreBytes bytes
    → keys_in path family bytes ≡ Ok keys → SpellsEach (SpellsKey path family) bytes keys
unfolding keys_in
keys_found path family bytes keys are is = each_found AreBytes (SpellsKey path family) (key_step path family)
    (keys_taken path family) (keys_shrink path family) 0 bytes keys are is

-- keys that are spelled are read
pub keys_only : (path : Bool) (family : Family) (bytes : List ℕ) (keys : List Key)
    → SpellsEach (SpellsKey path family) bytes keys → keys_in path family bytes ≡ Ok keys
unfolding keys_in
keys_only path family bytes keys spelled = each_only (SpellsKey path family) (key_step path family)
    (keys_read path family) (keys_shrink path family) 0 bytes keys spelled
