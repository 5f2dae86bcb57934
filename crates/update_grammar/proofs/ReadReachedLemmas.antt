-- What stands behind the family in MP_REACH_NLRI and MP_UNREACH_NLRI: what is read is spelled so, and the other way
-- round.
use Rattle.std.proofs.Common.{ℕ, suc, ◌≡◌, ◌⊎◌, ◌+◌, ◌^◌, ◌<◌, ◌≤◌, true, false, ◌||◌, eqb, ltb}
use Rattle.std.proofs.Common.{List, [], ◌∷◌, ◌++◌, length, take, drop, get_or, Some, Result, Ok}
use Rattle.std.proofs.Common.{refl, sym, ap, subst, ◌∙◌, arith, append_assoc, length-append, length-drop, length-take}
use Rattle.std.proofs.Common.{inl, inr}
use Rattle.std.specs.Option.{ok_or}
use Rattle.std.specs.Int.{w32, w128, to_be_bytes, from_be_bytes}
use Rattle.std.proofs.lemmas.Bool.{eqb-true, eq-eqb, ltb-false, le-ltb, or_cases, or_left, or_right}
use Rattle.std.proofs.lemmas.List.{take_at, drop_at, take-append-drop, drop_more}
use Rattle.std.proofs.lemmas.Option.{cond_some}
use Rattle.route_values.specs.declared.addr.Addr.{Addr}
use Rattle.route_values.specs.declared.addr.Addr.TheVariants.{V4, V6}
use Rattle.route_values.specs.declared.addr.Family.{Family}
use Rattle.route_values.specs.declared.addr.Family.TheVariants.{Ipv4, Ipv6}
use Rattle.route_values.specs.Caps.{Caps}
use Rattle.route_values.specs.declared.key.Key.{Key}
use Rattle.route_values.specs.Visible.{has_path}
use Rattle.update_grammar.specs.declared.effect.Reached.{Reached}
use Rattle.update_grammar.specs.Pieces.{SpellsEach}
use Rattle.update_grammar.specs.Prefixes.{SpellsKey}
use Rattle.update_grammar.specs.Families.{SpellsHop}
use Rattle.update_grammar.specs.Steps.{◌>>=◌, blamed}
use Rattle.update_grammar.specs.ReadPrefixes.{keys_in}
use Rattle.update_grammar.specs.ReadValues.{Wrong, BadLength, BadValue}
use Rattle.update_grammar.specs.ReadFamilies.{keys_value, hop_in, reached_in}
use Rattle.update_grammar.specs.Laws.{AreBytes}
use Rattle.update_grammar.proofs.ByteLemmas.{bytes_take, bytes_drop, bytes_rest, wide32, number_read, number_written}
use Rattle.update_grammar.proofs.SixteenLemmas.{wide128}
use Rattle.update_grammar.proofs.ReadPrefixLemmas.{ok_or_some, keys_found, keys_only}
use Rattle.update_grammar.proofs.ShrinkLemmas.{unless_fault}
use Rattle.update_grammar.proofs.StepsLemmas.{bind_ok, blamed_ok, ok_is}

-- ---- the next hop

-- a next hop that is read is spelled
hop_found : (family : Family) (text : List ℕ) (hop : Addr) → AreBytes text → hop_in family text ≡ Some hop
    → SpellsHop family text hop
hop_found Ipv4 text hop are is =
    let parts = cond_some (eqb (length text) 4) (V4 (from_be_bytes w32 text)) hop is in
    (from_be_bytes w32 text, wide32.below text are, sym parts.1, sym (wide32.back text (eqb-true _ _ parts.0) are))
hop_found Ipv6 text hop are is =
    let parts = cond_some (eqb (length text) 16 || eqb (length text) 32) (V6 (from_be_bytes w128 text)) hop is in
    let lengths : (length text ≡ 16) ⊎ (length text ≡ 32) = elim
    (or_cases (eqb (length text) 16) (eqb (length text) 32) parts.0)
    [ inl short ↦ inl (eqb-true _ _ short) | inr long ↦ inr (eqb-true _ _ long) ] in
    let more : (length (drop 16 text) ≡ 0) ⊎ (length (drop 16 text) ≡ 16) =
    elim lengths [
      | inl short ↦ inl (omega (arith, length-drop 16 text))
      | inr long ↦ inr
          (omega (arith, length-drop 16 text))
    ] in
    let long : 16 ≤ length text = elim lengths [ inl short ↦ omega arith | inr long ↦ omega arith ] in (
      from_be_bytes w128 text,
      wide128.below text are,
      sym parts.1,
      drop 16 text,
      more,
      sym (number_written w128 (2 ^ 128) wide128 text are long),
    )

-- a next hop that is spelled is read
hop_only : (family : Family) (text : List ℕ) (hop : Addr) → SpellsHop family text hop → hop_in family text ≡ Some hop
hop_only Ipv4 text hop spelled =
    let n : ℕ = spelled.0 in
    let is : hop_in Ipv4 (to_be_bytes w32 n) ≡ Some (V4 n) = ap (λ (m : ℕ). Some (V4 m)) (wide32.again n spelled.1) in
    ap (hop_in Ipv4) spelled.3 ∙ is ∙ ap (λ (addr : Addr). Some addr) (sym spelled.2)
hop_only Ipv6 text hop spelled =
    let n : ℕ = spelled.0 in
    let more : List ℕ = spelled.3 in
    let whole : List ℕ = to_be_bytes w128 n ++ more in
    let tests : (eqb (length whole) 16 || eqb (length whole) 32) ≡ true =
    elim spelled.4 [
      | inl none ↦ or_left _ _ (eq-eqb (length whole) 16 (omega (arith, none, length-append (to_be_bytes w128 n) more)))
      | inr some ↦ or_right _ _ (eq-eqb (length whole) 32 (omega
          (arith, some, length-append (to_be_bytes w128 n) more)))
    ] in
    let is : hop_in Ipv6 whole ≡ Some (V6 n) = rw (tests, number_read w128 (2 ^ 128) wide128 n more spelled.1) refl in
    ap (hop_in Ipv6) spelled.5 ∙ is ∙ ap (λ (addr : Addr). Some addr) (sym spelled.2)

-- ---- what stands behind the family

-- keys that are read within a value are spelled
pub keys_value_found : (caps : Caps) (family : Family) (bytes : List ℕ) (keys : List Key) → AreBytes bytes
    → keys_value caps family bytes ≡ Ok keys → SpellsEach (SpellsKey (has_path caps family) family) bytes keys
keys_value_found caps family bytes keys are is = keys_found (has_path caps family) family bytes keys are
    (blamed_ok (λ place. BadValue) (keys_in (has_path caps family) family bytes) keys is)

-- keys that are spelled within a value are read
pub keys_value_only : (caps : Caps) (family : Family) (bytes : List ℕ) (keys : List Key)
    → SpellsEach (SpellsKey (has_path caps family) family) bytes keys → keys_value caps family bytes ≡ Ok keys
keys_value_only caps family bytes keys spelled = ap (blamed (λ place. BadValue))
    (keys_only (has_path caps family) family bytes keys spelled)

-- a next hop behind its length, a reserved byte, and prefixes
pub record IsReached (caps : Caps) (family : Family) (bytes : List ℕ) (reached : Reached) : Type 0 where
  pub hop_text : List ℕ
  pub reserved : ℕ
  pub prefixes : List ℕ
  pub text : bytes ≡ length hop_text ∷ (hop_text ++ reserved ∷ prefixes)
  pub hop : SpellsHop family hop_text reached.hop
  pub spelled : SpellsEach (SpellsKey (has_path caps family) family) prefixes reached.keys

-- bytes that are longer than their first part are it, one more byte, and others
cut : (len : ℕ) (bytes : List ℕ) → len < length bytes → bytes ≡ take len bytes
    ++ get_or bytes len 0 ∷ drop (len + 1) bytes
cut len bytes long = sym (take-append-drop len bytes) ∙ ap (λ (rest : List ℕ). take len bytes ++ rest)
    (drop_more bytes len 0 long)

-- what stands behind one more byte
behind_len : (len byte : ℕ) (bytes : List ℕ) → drop (len + 2) (byte ∷ bytes) ≡ drop (len + 1) bytes
behind_len len byte bytes =
    let step : len + 2 ≡ suc (len + 1) = omega arith in
    ap (λ n. drop n (byte ∷ bytes)) step

-- what stands behind a first part and one more byte
behind_cut : (front : List ℕ) (byte : ℕ) (rest : List ℕ) → drop (length front + 1) (front ++ byte ∷ rest) ≡ rest
behind_cut front byte rest =
    ap (λ (bytes : List ℕ). drop (length front + 1) bytes) (sym (append_assoc front (byte ∷ []) rest))
    ∙ drop_at (front ++ byte ∷ []) rest (length front + 1) (length-append front (byte ∷ []))

-- what is read behind the family is spelled
pub reached_found : (caps : Caps) (family : Family) (bytes : List ℕ) (reached : Reached) → AreBytes bytes
    → reached_in caps family bytes ≡ Ok reached → IsReached caps family bytes reached
unfolding reached_in
reached_found caps family [] reached are is = absurd cc
reached_found caps family (len ∷ bytes) reached are is =
    let behind : Addr → Result Reached Wrong = λ hop. keys_value caps family (drop (len + 2) (len ∷ bytes)) >>= λ keys.
    Ok (record { hop = hop; keys = keys }) in
    let parts = unless_fault (ltb (length (len ∷ bytes)) (len + 2)) BadLength
    (ok_or (hop_in family (take len bytes)) BadValue >>= behind) reached is in
    let first = bind_ok (ok_or (hop_in family (take len bytes)) BadValue) behind reached parts.1 in
    let second = bind_ok (keys_value caps family (drop (len + 2) (len ∷ bytes)))
    (λ keys. Ok (record { hop = first.0; keys = keys })) reached first.2 in
    let long : len + 2 ≤ length (len ∷ bytes) = ltb-false _ _ parts.0 in
    let hop_len : length (take len bytes) ≡ len = omega (arith, length-take len bytes) in
    let rest : drop (len + 2) (len ∷ bytes) ≡ drop (len + 1) bytes = behind_len len len bytes in
    let rests : AreBytes bytes = bytes_rest len bytes are in
    let keys = keys_value_found caps family (drop (len + 1) bytes) second.0 (bytes_drop (len + 1) bytes rests)
    (ap (keys_value caps family) (sym rest) ∙ second.1) in
    let whole : len ∷ bytes ≡ length (take len bytes) ∷ (take len bytes ++ get_or bytes len 0 ∷ drop (len + 1) bytes) =
    λ i. sym hop_len i ∷ cut len bytes (omega arith) i in
    let found : IsReached caps family (len ∷ bytes) (record { hop = first.0; keys = second.0 }) = record {
      hop_text = take len bytes;
      reserved = get_or bytes len 0;
      prefixes = drop (len + 1) bytes;
      text = whole;
      hop = hop_found family (take len bytes) first.0 (bytes_take len bytes rests) (ok_or_some _ _ _ first.1);
      spelled = keys;
    } in
    subst (IsReached caps family (len ∷ bytes)) (ok_is BadLength _ _ second.2) found

-- what is spelled behind the family is read
pub reached_only : (caps : Caps) (family : Family) (bytes : List ℕ) (reached : Reached)
    → IsReached caps family bytes reached → reached_in caps family bytes ≡ Ok reached
unfolding reached_in
reached_only caps family bytes reached is =
    let len : ℕ = length is.hop_text in
    let behind : List ℕ = is.hop_text ++ is.reserved ∷ is.prefixes in
    let long : ltb (length (len ∷ behind)) (len + 2) ≡ false =
    le-ltb _ _ (omega (arith, length-append is.hop_text (is.reserved ∷ is.prefixes))) in
    let hop : hop_in family (take len behind) ≡ Some reached.hop =
    ap (hop_in family) (take_at is.hop_text (is.reserved ∷ is.prefixes) len refl)
    ∙ hop_only family is.hop_text reached.hop is.hop in
    let rest : drop (len + 2) (len ∷ behind) ≡ is.prefixes = behind_len len len behind
    ∙ behind_cut is.hop_text is.reserved is.prefixes in
    let keys : keys_value caps family (drop (len + 2) (len ∷ behind)) ≡ Ok reached.keys =
    ap (keys_value caps family) rest ∙ keys_value_only caps family is.prefixes reached.keys is.spelled in
    ap (reached_in caps family) is.text ∙ rw (long, hop, keys) refl
