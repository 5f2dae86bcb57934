-- What a message says that was written as it was meant.
use Rattle.std.proofs.Common.{◌≡◌, ℕ, ◌<◌, Bool, true, false, List, [], ◌∷◌, ◌++◌, length, Some, None, refl}
use Rattle.std.proofs.Common.{sym, ap, ◌∙◌, subst, arith, append-nil}
use Rattle.std.specs.Prelude.{◌||◌, if◌then◌else◌, map, nat_eq, Option, unwrap_or}
use Rattle.route_values.specs.declared.addr.Family.{Family}
use Rattle.route_values.specs.declared.addr.Family.TheVariants.{Ipv4, Ipv6}
use Rattle.route_values.specs.declared.attrs.WireAttrs.{WireAttrs}
use Rattle.route_values.specs.declared.key.Key.{Key}
use Rattle.route_values.specs.Caps.{Caps, no_caps}
use Rattle.route_values.specs.Key.{same_key}
use Rattle.update_grammar.specs.declared.effect.Effect.{Effect}
use Rattle.update_grammar.specs.declared.effect.Effect.TheVariants.{Gone, Here}
use Rattle.update_grammar.specs.Head.{Head}
use Rattle.update_grammar.specs.Head as head
use Rattle.update_grammar.specs.Laws.{SpelledEffectsAreRead, HereIsNoMarker, GoneIsNoMarker, IsMarker}
use Rattle.update_grammar.specs.Net.{later_of, last_word, effect_says, net}
use Rattle.update_grammar.specs.Packed.{named_by}
use Rattle.update_grammar.specs.Update.{Spells}
use Rattle.update_grammar.specs.Written.{written, body_of}
use Rattle.update_grammar.proofs.NetLemmas.{last_word-append}
use Rattle.peer_history.specs.Keys.{is_named}
use Rattle.peer_history.specs.Messages.{effects_read, said, marks, meant, value_given}
use Rattle.peer_history.specs.Same.{same_family}
use Rattle.peer_history.proofs.SameLemmas.{list_is, number_is}

-- the laws of the grammar that messages rest on
pub record Grammar : Type 0 where
  pub read : SpelledEffectsAreRead
  pub here_is_no_marker : HereIsNoMarker
  pub gone_is_no_marker : GoneIsNoMarker

-- an effect a key, all with one value
module _ (make : Key → Effect) (value : Option WireAttrs)
    (says : (k key : Key) → effect_says (make k) key ≡ (if same_key k key then Some value else None)) where
  word_of_all : (keys : List Key) (key : Key)
      → last_word effect_says (map make keys) key ≡ (if is_named keys key then Some value else None)
  word_of_all [] key = refl
  word_of_all (k ∷ ks) key =
      ap (λ word. later_of word (effect_says (make k) key)) (word_of_all ks key)
      ∙ ap (later_of (if is_named ks key then Some value else None)) (says k key)
      ∙ elim (is_named ks key) as (λ n. later_of (if n then Some value else None)
      (if same_key k key then Some value else None) ≡ (if same_key k key || n then Some value else None)) [
        | true ↦ elim (same_key k key) as (λ b. Some value ≡ (if b || true then Some value else None)) [
          | true ↦ refl
          | false ↦ refl
        ]
        | false ↦ elim (same_key k key) as (λ b. (if b then Some value else None)
            ≡ (if b || false then Some value else None)) [
              | true ↦ refl
              | false ↦ refl
            ]
      ]

  net_of_all : (effects : List Effect) (keys : List Key) (key : Key)
      → net (effects ++ map make keys) key ≡ (if is_named keys key then value else net effects key)
  net_of_all effects keys key =
      ap (λ word. unwrap_or word None) (last_word-append effect_says effects (map make keys) key
      ∙ ap (λ word. later_of word (last_word effect_says effects key)) (word_of_all keys key))
      ∙ elim (is_named keys key) as (λ n. unwrap_or (later_of (if n then Some value else None)
      (last_word effect_says effects key)) None ≡ (if n then value else net effects key)) [
        | true ↦ refl
        | false ↦ refl
      ]

-- the map after one more message
pub net_meant : (effects : List Effect) (h : Head) (keys : List Key) (key : Key)
    → map named_by (meant h keys) ≡ keys
    → net (effects ++ meant h keys) key ≡ (if is_named keys key then value_given h else net effects key)
net_meant effects (head.Gone family) keys key same = net_of_all (λ k. Gone k) None (λ k q. refl) effects keys key
net_meant effects (head.Here family w) keys key same =
    net_of_all (λ k. Here k w) (Some w) (λ k q. refl) effects keys key
net_meant effects (head.End family) keys key same =
    subst (λ ks. net (effects ++ []) key ≡ (if is_named ks key then None else net effects key)) same
    (let nil : effects ++ [] ≡ effects = simp append-nil in ap (λ es. net es key) nil)

-- the keys of a message that names keys
pub keys_of_all : (make : Key → Effect) → ((k : Key) → named_by (make k) ≡ k) → (keys : List Key)
    → map named_by (map make keys) ≡ keys
keys_of_all make names [] = refl
keys_of_all make names (k ∷ ks) = λ t. names k t ∷ keys_of_all make names ks t

-- a message says what it spells
pub said_is : Grammar → (caps : Caps) (bytes : List ℕ) (effects : List Effect)
    → Spells caps (body_of bytes) effects → said caps bytes ≡ effects
said_is grammar caps bytes effects spelled = ap effects_read (grammar.read caps (body_of bytes) effects spelled)

-- the families whose marker a head is for
abbrev pub head_marks : Head → Family → Bool
head_marks (head.Gone family) f = false
head_marks (head.Here family w) f = false
head_marks (head.End family) f = same_family family f

-- a text that is no marker marks no family
no_mark : (family : Family) (bytes : List ℕ) → ¬ (IsMarker bytes) → marks family bytes ≡ false
no_mark family bytes none =
    elim (marks family bytes) as (λ b. marks family bytes ≡ b → b ≡ false) [
      | true ↦ λ e. absurd (none (no_caps, family, list_is nat_eq number_is _ _ e))
      | false ↦ λ e. refl
    ] refl

-- a marker marks its family alone
end_marks : (caps : Caps) (family f : Family) → marks f (written caps (head.End family) []) ≡ same_family family f
end_marks caps Ipv4 Ipv4 = refl
end_marks caps Ipv4 Ipv6 = refl
end_marks caps Ipv6 Ipv4 = refl
end_marks caps Ipv6 Ipv6 = refl

-- keys that a head is for: a withdrawal has at least one, and a marker has none
abbrev pub AreFor : Head → List Key → Type 0
AreFor (head.Gone family) keys = 0 < length keys
AreFor (head.Here family w) keys = 0 < length keys
AreFor (head.End family) keys = keys ≡ []

-- a written message marks what it is for
pub written_marks : Grammar → (caps : Caps) (h : Head) (keys : List Key) → AreFor h keys → (f : Family)
    → marks f (written caps h keys) ≡ head_marks h f
written_marks grammar caps (head.Gone family) [] some f = absurd (omega arith)
written_marks grammar caps (head.Gone family) (k ∷ ks) some f =
    no_mark f _ (grammar.gone_is_no_marker caps family k ks)
written_marks grammar caps (head.Here family w) keys some f =
    no_mark f _ (grammar.here_is_no_marker caps family w keys)
written_marks grammar caps (head.End family) keys none f =
    ap (λ ks. marks f (written caps (head.End family) ks)) none ∙ end_marks caps family f

-- a written message names its keys
pub names_keys : (h : Head) (keys : List Key) → AreFor h keys → map named_by (meant h keys) ≡ keys
names_keys (head.Gone family) keys some = keys_of_all (λ k. Gone k) (λ k. refl) keys
names_keys (head.Here family w) keys some = keys_of_all (λ k. Here k w) (λ k. refl) keys
names_keys (head.End family) keys none = sym none
