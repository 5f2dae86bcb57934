-- Words of items: that each spells one value, and that none is spelled where the parts spell none.
use Rattle.std.proofs.Common.{ℕ, ◌≡◌, ◌≢◌, ◌<◌, ◌^◌, ◌⊎◌, List, [], ◌∷◌, ◌++◌, All, decimal, codes}
use Rattle.std.proofs.Common.{arith, ap, sym, ◌∙◌, refl, subst, inl, inr, true, length}
use Rattle.std.proofs.Common.{Bool, false, cond, eqb, get_or, ◌||◌, ◌==◌}
use Rattle.std.proofs.lemmas.Bool.{false≢true, eq-eqb}
use Rattle.std.specs.List.{list_any}
use Rattle.std.specs.Char.{is_ascii_digit}
use Rattle.route_values.specs.declared.attrs.Aggregator.{Aggregator}
use Rattle.route_values.specs.declared.attrs.Large.{Large}
use Rattle.text_forms.specs.Addresses.{IsIpv4}
use Rattle.text_forms.specs.Numbers.{IsAsn, IsDottedAsn}
use Rattle.text_forms.proofs.AddressLemmas.{ipv4_one, ipv4_lacks}
use Rattle.text_forms.proofs.AsnLemmas.{asn_one}
use Rattle.text_forms.proofs.CutLemmas.{Lacks, first_same, lacks_from_all, lacks_none, lacks_append, lacks_decimal}
use Rattle.text_forms.proofs.CutLemmas.{dot_no_digit}
use Rattle.text_forms.proofs.DecimalLemmas.{number_one}
use Rattle.route_grammar.specs.Numbers.{IsPathId}
use Rattle.route_grammar.specs.Communities.{IsJoined, IsNamed, IsCommunity, IsLarge, IsAggregator}

-- BYTES THAT A TEXT LACKS

or_none : (first second : Bool) → (first || second) ≡ false → (first ≡ false) × (second ≡ false)
or_none true second is = absurd (false≢true (sym is))
or_none false second is = (refl, is)

-- whether a text lacks a byte can be computed
pub lacks_tested : (byte : ℕ) (text : List ℕ) → list_any (λ b. b == byte) text ≡ false → Lacks byte text
lacks_tested byte [] none = tt
lacks_tested byte (b ∷ bs) none =
    let parts = or_none (b == byte) (list_any (λ other. other == byte) bs) none in
    ((λ same. false≢true (sym parts.0 ∙ eq-eqb b byte same)), lacks_tested byte bs parts.1)

-- COLONS

pub colon_no_digit : is_ascii_digit 58 ≡ true → ⊥
colon_no_digit digit = absurd (cc)

pub colonless : (number : ℕ) → number < 2 ^ 32 → Lacks 58 (decimal number)
colonless number small = lacks_decimal 58 number colon_no_digit (omega arith)

pub ipv4_colonless : (text : List ℕ) (number : ℕ) → IsIpv4 text number → Lacks 58 text
ipv4_colonless text number is = ipv4_lacks 58 text number colon_no_digit (λ same. absurd (omega (arith, same))) is

asn_at_colonless : (text : List ℕ) (number : ℕ) → number < 2 ^ 32
    → (text ≡ decimal number) ⊎ IsDottedAsn text number → Lacks 58 text
asn_at_colonless text number small (inl plain) = subst (Lacks 58) (sym plain) (colonless number small)
asn_at_colonless text number small (inr dotted) =
    subst (Lacks 58) (sym dotted.text_is)
    (lacks_append 58 (decimal dotted.high) (46 ∷ decimal dotted.low)
    (colonless dotted.high (omega (arith, dotted.high_small)))
    ((λ same. absurd (omega (arith, same))), colonless dotted.low (omega (arith, dotted.low_small))))

pub asn_colonless : (text : List ℕ) (number : ℕ) → IsAsn text number → Lacks 58 text
asn_colonless text number is = asn_at_colonless text number is.1 is.2

pub colon_none : (text : List ℕ) (number : ℕ) (tail : List ℕ) → All (λ b. b ≢ 58) text
    → text ≡ decimal number ++ 58 ∷ tail → ⊥
colon_none text number tail lacks is =
    lacks_none 58 (decimal number) tail (subst (Lacks 58) is (lacks_from_all 58 text lacks))

-- what stands before the first `:` and behind it, where a number stands there
pub colon_cut : (text front rest : List ℕ) (number : ℕ) (tail : List ℕ) → text ≡ front ++ 58 ∷ rest
    → All (λ b. b ≢ 58) front → number < 2 ^ 32 → text ≡ decimal number ++ 58 ∷ tail
    → (front ≡ decimal number) × (tail ≡ rest)
colon_cut text front rest number tail cut lacks small is =
    let parts = first_same 58 front rest (decimal number) tail (lacks_from_all 58 front lacks)
    (colonless number small) (sym cut ∙ is) in
    (parts.0, sym parts.1)

-- PATH IDENTIFIERS, NEXT HOPS AND ORIGINS

pub no_path_id : (text : List ℕ) (id : ℕ) → ((number : ℕ) → number < 2 ^ 32 → text ≡ decimal number → ⊥)
    → ((number : ℕ) → IsIpv4 text number → ⊥) → IsPathId text id → ⊥
no_path_id text id no_number no_addr (inl is) = no_number id is.0 is.1
no_path_id text id no_number no_addr (inr is) = no_addr id is

-- no number's text is an address
pub number_or_addr : (text : List ℕ) (number addr : ℕ) → number < 2 ^ 32 → text ≡ decimal number → IsIpv4 text addr → ⊥
number_or_addr text number addr small is also =
    lacks_none 46 (decimal also.first) _
    (subst (Lacks 46) (sym is ∙ also.text_is) (lacks_decimal 46 number dot_no_digit (omega arith)))

pub path_id_one : (text : List ℕ) (other id : ℕ) → IsPathId text other → IsPathId text id → other ≡ id
path_id_one text other id (inl is) (inl also) = number_one text other id is.0 also.0 is.1 also.1
path_id_one text other id (inl is) (inr also) = absurd (number_or_addr text other id is.0 is.1 also)
path_id_one text other id (inr is) (inl also) = absurd (number_or_addr text id other also.0 also.1 is)
path_id_one text other id (inr is) (inr also) = ipv4_one text other id is also

-- COMMUNITIES

joined_one : (text : List ℕ) (other number : ℕ) → IsJoined text other → IsJoined text number → other ≡ number
joined_one text other number is also =
    let parts = first_same 58 (decimal is.high) _ (decimal also.high) _
    (colonless is.high (omega (arith, is.high_small))) (colonless also.high (omega (arith, also.high_small)))
    (sym is.word_is ∙ also.word_is) in
    let high = number_one _ is.high also.high (omega (arith, is.high_small)) (omega (arith, also.high_small))
    refl parts.0 in
    let low = number_one _ is.low also.low (omega (arith, is.low_small)) (omega (arith, also.low_small))
    refl parts.1 in
    omega (arith, is.value, also.value, high, low)

named_colonless : (text : List ℕ) (number : ℕ) → IsNamed text number → Lacks 58 text
named_colonless text number (inl is) = subst (Lacks 58) (sym is.0) (lacks_tested 58 (codes "no-export") refl)
named_colonless text number (inr (inl is)) =
    subst (Lacks 58) (sym is.0) (lacks_tested 58 (codes "no-advertise") refl)
named_colonless text number (inr (inr (inl is))) =
    subst (Lacks 58) (sym is.0) (lacks_tested 58 (codes "no-export-subconfed") refl)
named_colonless text number (inr (inr (inr is))) =
    subst (Lacks 58) (sym is.0) (lacks_tested 58 (codes "blackhole") refl)

-- names of different communities differ in their length
number_at : ℕ → ℕ
number_at n = cond (eqb n 9) 4294967041 (cond (eqb n 12) 4294967042 (cond (eqb n 19) 4294967043 4294902426))

-- or, where that is the same, in their first letter
name_code : List ℕ → ℕ
name_code text = cond (eqb (get_or text 0 0) 98) 0 (length text)

name_number : (text : List ℕ) (number : ℕ) → IsNamed text number → number ≡ number_at (name_code text)
unfolding number_at name_code
name_number text number (inl is) = is.1 ∙ sym (ap (λ (name : List ℕ). number_at (name_code name)) is.0)
name_number text number (inr (inl is)) = is.1 ∙ sym (ap (λ (name : List ℕ). number_at (name_code name)) is.0)
name_number text number (inr (inr (inl is))) = is.1 ∙ sym (ap (λ (name : List ℕ). number_at (name_code name)) is.0)
name_number text number (inr (inr (inr is))) = is.1 ∙ sym (ap (λ (name : List ℕ). number_at (name_code name)) is.0)

named_one : (text : List ℕ) (other number : ℕ) → IsNamed text other → IsNamed text number → other ≡ number
named_one text other number is also = name_number text other is ∙ sym (name_number text number also)

joined_or_named : (text : List ℕ) (other number : ℕ) → IsJoined text other → IsNamed text number → ⊥
joined_or_named text other number is also =
    lacks_none 58 (decimal is.high) (decimal is.low) (subst (Lacks 58) is.word_is (named_colonless text number also))

pub community_one : (text : List ℕ) (other number : ℕ) → IsCommunity text other → IsCommunity text number
    → other ≡ number
community_one text other number (inl is) (inl also) = joined_one text other number is also
community_one text other number (inl is) (inr also) = absurd (joined_or_named text other number is also)
community_one text other number (inr is) (inl also) = absurd (joined_or_named text number other also is)
community_one text other number (inr is) (inr also) = named_one text other number is also

-- no community is spelled where no two halves are
pub no_joined : (text high low : List ℕ) (number : ℕ) → All (λ b. b ≢ 58) high → text ≡ high ++ 58 ∷ low
    → ((upper lower : ℕ) → upper < 65536 → lower < 65536 → high ≡ decimal upper → low ≡ decimal lower → ⊥)
    → IsCommunity text number → ⊥
no_joined text high low number lacks cut none (inl is) =
    let parts = first_same 58 high low (decimal is.high) (decimal is.low) (lacks_from_all 58 high lacks)
    (colonless is.high (omega (arith, is.high_small))) (sym cut ∙ is.word_is) in
    none is.high is.low is.high_small is.low_small parts.0 parts.1
no_joined text high low number lacks cut none (inr is) =
    lacks_none 58 high low (subst (Lacks 58) cut (named_colonless text number is))

-- nor where there is no `:` and no name
pub no_named : (text : List ℕ) (number : ℕ) → All (λ b. b ≢ 58) text
    → ((other : ℕ) → IsNamed text other → ⊥) → IsCommunity text number → ⊥
no_named text number lacks none (inl is) =
    lacks_none 58 (decimal is.high) (decimal is.low) (subst (Lacks 58) is.word_is (lacks_from_all 58 text lacks))
no_named text number lacks none (inr is) = none number is

-- LARGE COMMUNITIES AND AGGREGATORS

abbrev large_of : ℕ → ℕ → ℕ → Large
large_of global first second = record { global = global; first = first; second = second }

large_same : (large other : Large) → large.global ≡ other.global → large.first ≡ other.first
    → large.second ≡ other.second → large ≡ other
large_same large other global first second =
    ap (λ (n : ℕ). large_of n large.first large.second) global
    ∙ ap (λ (n : ℕ). large_of other.global n large.second) first
    ∙ ap (λ (n : ℕ). large_of other.global other.first n) second

pub large_one : (text : List ℕ) (other large : Large) → IsLarge text other → IsLarge text large → other ≡ large
large_one text other large is also =
    let outer = first_same 58 (decimal other.global) (decimal other.first ++ 58 ∷ decimal other.second)
    (decimal large.global) (decimal large.first ++ 58 ∷ decimal large.second) (colonless other.global is.global_small)
    (colonless large.global also.global_small) (sym is.word_is ∙ also.word_is) in
    let inner = first_same 58 (decimal other.first) (decimal other.second) (decimal large.first)
    (decimal large.second) (colonless other.first is.first_small) (colonless large.first also.first_small) outer.1 in
    large_same other large
    (number_one _ other.global large.global is.global_small also.global_small refl outer.0)
    (number_one _ other.first large.first is.first_small also.first_small refl inner.0)
    (number_one _ other.second large.second is.second_small also.second_small refl inner.1)

abbrev aggregator_of : ℕ → ℕ → Aggregator
aggregator_of asn addr = record { asn = asn; addr = addr }

aggregator_same : (aggregator other : Aggregator) → aggregator.asn ≡ other.asn → aggregator.addr ≡ other.addr
    → aggregator ≡ other
aggregator_same aggregator other asn addr =
    ap (λ (n : ℕ). aggregator_of n aggregator.addr) asn ∙ ap (λ (n : ℕ). aggregator_of other.asn n) addr

pub aggregator_one : (text : List ℕ) (other aggregator : Aggregator) → IsAggregator text other
    → IsAggregator text aggregator → other ≡ aggregator
aggregator_one text other aggregator is also =
    let parts = first_same 58 is.asn is.addr also.asn also.addr (asn_colonless is.asn other.asn is.asn_is)
    (asn_colonless also.asn aggregator.asn also.asn_is) (sym is.word_is ∙ also.word_is) in
    aggregator_same other aggregator
    (asn_one also.asn other.asn aggregator.asn (subst (λ (word : List ℕ). IsAsn word other.asn) parts.0 is.asn_is)
    also.asn_is)
    (ipv4_one also.addr other.addr aggregator.addr
    (subst (λ (word : List ℕ). IsIpv4 word other.addr) parts.1 is.addr_is) also.addr_is)

pub no_aggregator : (text front back : List ℕ) (aggregator : Aggregator) → All (λ b. b ≢ 58) front
    → text ≡ front ++ 58 ∷ back → ((asn addr : ℕ) → IsAsn front asn → IsIpv4 back addr → ⊥)
    → IsAggregator text aggregator → ⊥
no_aggregator text front back aggregator lacks cut none is =
    let parts = first_same 58 front back is.asn is.addr (lacks_from_all 58 front lacks)
    (asn_colonless is.asn aggregator.asn is.asn_is) (sym cut ∙ is.word_is) in
    none aggregator.asn aggregator.addr
    (subst (λ (word : List ℕ). IsAsn word aggregator.asn) (sym parts.0) is.asn_is)
    (subst (λ (word : List ℕ). IsIpv4 word aggregator.addr) (sym parts.1) is.addr_is)

pub no_aggregator_uncut : (text : List ℕ) (aggregator : Aggregator) → All (λ b. b ≢ 58) text
    → IsAggregator text aggregator → ⊥
no_aggregator_uncut text aggregator lacks is =
    lacks_none 58 is.asn is.addr (subst (Lacks 58) is.word_is (lacks_from_all 58 text lacks))
