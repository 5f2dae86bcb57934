-- The words of commands.
use Rattle.std.proofs.Common.{ℕ, ◌≡◌, ◌==◌, ap, codes, false, get_or, List, [], ◌∷◌, length, map, refl, subst, suc}
use Rattle.std.proofs.Common.{sym, arith}
use Rattle.std.specs.Borrow.{Bor}
use Rattle.route_values.specs.Caps.{Caps}
use Rattle.exa_top.specs.CapWords.{AreCaps}
use Rattle.exa_top.specs.Loaded.{IsLoadWords}
use Rattle.exa_top.specs.Top.{IsBounded}
use Rattle.exa_top.specs.Words.{IsCommand, IsEncode}
use Rattle.exa_top.specs.declared.words.Ends.{Ends}
use Rattle.exa_top.specs.declared.words.TextCommand.{TextCommand}
use Rattle.exa_top.specs.declared.words.TextCommand.TheVariants.{Encode, EncodePlain, Check, Play, Load, Parse, Decode}
use Rattle.exa_top.specs.declared.words.TextCommand.TheVariants.{Help, Version}

pub local_as_is : (a b c a' b' c' : List ℕ) → codes "encode" ∷ a ∷ b ∷ c ∷ [] ≡ codes "encode" ∷ a' ∷ b' ∷ c' ∷ []
    → a ≡ a'
local_as_is a b c a' b' c' same = cc

pub peer_as_is : (a b c a' b' c' : List ℕ) → codes "encode" ∷ a ∷ b ∷ c ∷ [] ≡ codes "encode" ∷ a' ∷ b' ∷ c' ∷ []
    → b ≡ b'
peer_as_is a b c a' b' c' same = cc

pub local_is : (a b c a' b' c' : List ℕ) → codes "encode" ∷ a ∷ b ∷ c ∷ [] ≡ codes "encode" ∷ a' ∷ b' ∷ c' ∷ [] → c ≡ c'
local_is a b c a' b' c' same = cc

-- three words, and none behind them
pub three_words : {A : Type 0} (words second third fourth : List A) (a b c : A) → words ≡ a ∷ second
    → second ≡ b ∷ third → third ≡ c ∷ fourth → length fourth ≡ 0 → words ≡ a ∷ b ∷ c ∷ []
three_words words second third [] a b c first then last none = cc
three_words words second third (d ∷ more) a b c first then last none = absurd (omega (arith, none))

-- words that are the same begin with the same letter
pub first_letter : (words others : List (List ℕ)) → words ≡ others → get_or (get_or words 0 []) 0 0
    ≡ get_or (get_or others 0 []) 0 0
first_letter words others same = ap (λ all. get_or (get_or all 0 []) 0 0) same

behind_first : (one other : List ℕ) (words others : List (List ℕ)) → one ∷ words ≡ other ∷ others → words ≡ others
behind_first one other words others same = cc

pub decode_found : (words : List (List ℕ)) (caps : Caps) → AreCaps words caps
    → IsCommand (codes "decode" ∷ words) (Decode caps)
decode_found words caps are = (words, refl, are)

-- words behind `decode` that spell no capabilities spell no command
pub decode_none : (words : List (List ℕ)) → ((caps : Caps) → AreCaps words caps → ⊥) → (spelled : TextCommand)
    → IsCommand (codes "decode" ∷ words) spelled → ⊥
decode_none words none (Encode path) is =
    let letter : 100 ≡ 101 = first_letter _ _ is in absurd (omega (arith, letter))
decode_none words none (EncodePlain ends) is =
    let letter : 100 ≡ 101 = first_letter _ _ is.words_are in absurd (omega (arith, letter))
decode_none words none (Check path) is =
    let letter : 100 ≡ 99 = first_letter _ _ is in absurd (omega (arith, letter))
decode_none words none (Play path) is =
    let letter : 100 ≡ 112 = first_letter _ _ is in absurd (omega (arith, letter))
decode_none words none (Load count) is =
    let letter : 100 ≡ 108 = first_letter _ _ is.0 in absurd (omega (arith, letter))
decode_none words none Parse is =
    let letter : 100 ≡ 112 = first_letter _ _ is in absurd (omega (arith, letter))
decode_none words none (Decode caps) is =
    none caps (subst (λ (names : List (List ℕ)). AreCaps names caps) (sym (behind_first _ _ words is.0 is.1)) is.2)
decode_none words none Help is =
    let letter : 100 ≡ 45 = first_letter _ _ is in absurd (omega (arith, letter))
decode_none words none Version is =
    let letter : 100 ≡ 45 = first_letter _ _ is in absurd (omega (arith, letter))

-- words behind `load` that spell no count spell no command
pub load_none : (words : List (List ℕ)) → ((count : ℕ) → IsLoadWords (codes "load" ∷ words) count → ⊥)
    → (spelled : TextCommand) → IsCommand (codes "load" ∷ words) spelled → ⊥
load_none words none (Encode path) is =
    let letter : 108 ≡ 101 = first_letter _ _ is in absurd (omega (arith, letter))
load_none words none (EncodePlain ends) is =
    let letter : 108 ≡ 101 = first_letter _ _ is.words_are in absurd (omega (arith, letter))
load_none words none (Check path) is =
    let letter : 108 ≡ 99 = first_letter _ _ is in absurd (omega (arith, letter))
load_none words none (Play path) is =
    let letter : 108 ≡ 112 = first_letter _ _ is in absurd (omega (arith, letter))
load_none words none (Load count) is = none count is
load_none words none Parse is =
    let letter : 108 ≡ 112 = first_letter _ _ is in absurd (omega (arith, letter))
load_none words none (Decode caps) is =
    let letter : 108 ≡ 100 = first_letter _ _ is.1 in absurd (omega (arith, letter))
load_none words none Help is =
    let letter : 108 ≡ 45 = first_letter _ _ is in absurd (omega (arith, letter))
load_none words none Version is =
    let letter : 108 ≡ 45 = first_letter _ _ is in absurd (omega (arith, letter))

-- `encode` has one operand or those of a session
encode_many : (path next : Bor (List ℕ)) (more : List (Bor (List ℕ))) (at : List ℕ)
    → codes "encode" ∷ map (λ w. w.now) (path ∷ next ∷ more) ≡ codes "encode" ∷ at ∷ [] → ⊥
encode_many path next more at same =
    let longer : suc (suc (suc (length (map (λ w. w.now) more)))) ≡ 2 = ap length same in absurd (omega (arith, longer))

encode_two : (words second : List (Bor (List ℕ))) (path : Bor (List ℕ)) (at : List ℕ) → words ≡ path ∷ second
    → (length second == 0) ≡ false → codes "encode" ∷ map (λ w. w.now) words ≡ codes "encode" ∷ at ∷ [] → ⊥
encode_two words [] path at are more same = absurd (cc)
encode_two words (next ∷ others) path at are more same =
    encode_many path next others at
    (subst (λ (all : List (Bor (List ℕ))). codes "encode" ∷ map (λ w. w.now) all ≡ codes "encode" ∷ at ∷ []) are same)

-- words behind `encode`, more than one, that spell no session spell no command
pub encode_none : (words second : List (Bor (List ℕ))) (path : Bor (List ℕ)) → words ≡ path ∷ second
    → (length second == 0) ≡ false
    → ((ends : Ends) → IsEncode (codes "encode" ∷ map (λ w. w.now) words) ends → ⊥) → (spelled : TextCommand)
    → IsCommand (codes "encode" ∷ map (λ w. w.now) words) spelled → ⊥
encode_none words second path are more none (Encode at) is = encode_two words second path at.now are more is
encode_none words second path are more none (EncodePlain ends) is = none ends is
encode_none words second path are more none (Check at) is =
    let letter : 101 ≡ 99 = first_letter _ _ is in absurd (omega (arith, letter))
encode_none words second path are more none (Play at) is =
    let letter : 101 ≡ 112 = first_letter _ _ is in absurd (omega (arith, letter))
encode_none words second path are more none (Load count) is =
    let letter : 101 ≡ 108 = first_letter _ _ is.0 in absurd (omega (arith, letter))
encode_none words second path are more none Parse is =
    let letter : 101 ≡ 112 = first_letter _ _ is in absurd (omega (arith, letter))
encode_none words second path are more none (Decode caps) is =
    let letter : 101 ≡ 100 = first_letter _ _ is.1 in absurd (omega (arith, letter))
encode_none words second path are more none Help is =
    let letter : 101 ≡ 45 = first_letter _ _ is in absurd (omega (arith, letter))
encode_none words second path are more none Version is =
    let letter : 101 ≡ 45 = first_letter _ _ is in absurd (omega (arith, letter))

-- what a command asks for that is spelled is bounded
pub spelled_bounded : (words : List (List ℕ)) (command : TextCommand) → IsCommand words command → IsBounded command
spelled_bounded words (Encode path) is = tt
spelled_bounded words (EncodePlain ends) is = tt
spelled_bounded words (Check path) is = tt
spelled_bounded words (Play path) is = tt
spelled_bounded words (Load count) is = is.2
spelled_bounded words Parse is = tt
spelled_bounded words (Decode caps) is = tt
spelled_bounded words Help is = tt
spelled_bounded words Version is = tt
