-- Rules by which tokens have one outcome.
use Rattle.std.proofs.Common.{ℕ, ◌≡◌, ◌⊎◌, Bool, true, false, List, Option, Some, None, refl, sym, ◌∙◌, ap, subst, inl}
use Rattle.std.proofs.Common.{inr}
use Rattle.token_reader.specs.declared.token.Place.{Place}
use Rattle.token_reader.specs.Tokens.{Token, Word, Quoted, Placed, front_token, front_place, behind_front}
use Rattle.config_model.specs.declared.fault.ConfigFault.{ConfigFault}
use Rattle.config_model.specs.declared.fault.ConfigKind.{ConfigKind}
use Rattle.config_reader.specs.Rules.{Rule, Outcome, Gives, Stops, Until, done, more, stopped, ◌>>=◌, SaysSign}
use Rattle.config_reader.specs.Rules.{by_front}
use Rattle.config_reader.specs.Rules.{either, fault_at, front, given, here, never, saying, sign, sign_or, until}
use Rattle.config_reader.specs.Words.{SaysBytes, SaysWord, IsText, any_word, keyword, word, word_ended, word_or}

-- no tokens have two outcomes
abbrev pub Decides : {V : Type 0} → Rule V → Type 0
Decides {V} R = (end : Place) (tokens : List Placed) (one other : Outcome V) → R end tokens one → R end tokens other
    → one ≡ other

pub saying_decides : {V : Type 0} (value : V) → Decides (saying value)
saying_decides value end tokens one other is also = is ∙ sym also

pub here_decides : Decides here
here_decides end tokens one other is also = is ∙ sym also

pub given_decides : {V : Type 0} (option : Option V) → Decides (given option)
given_decides (Some value) end tokens one other is also = is ∙ sym also
given_decides None end tokens one other is also = absurd is

-- THE FRONT TOKEN

-- a token says one value at most
abbrev pub SaysOne : {V : Type 0} → (Token → V → Type 0) → Type 0
SaysOne {V} Says = (token : Token) (value other : V) → Says token value → Says token other → value ≡ other

same_said : {V : Type 0} (Says : Token → V → Type 0) → SaysOne Says → (tokens : List Placed) (token token' : Token)
    (value value' : V) → front_token tokens ≡ Some token → front_token tokens ≡ Some token' → Says token value
    → Says token' value' → value ≡ value'
same_said Says only tokens token token' value value' at at' said said' =
    let same : token' ≡ token = cc in
    only token value value' said (subst (λ (t : Token). Says t value') same said')

same_kind : {V : Type 0} (wrong : V → Option ConfigKind) (value value' : V) (kind kind' : ConfigKind)
    → value ≡ value' → wrong value ≡ Some kind → wrong value' ≡ Some kind' → kind ≡ kind'
same_kind wrong value value' kind kind' same is is' =
    let one : Some kind ≡ Some kind' = sym is ∙ ap wrong same ∙ is' in cc

right_and_wrong : {V : Type 0} (wrong : V → Option ConfigKind) (value value' : V) (kind : ConfigKind)
    → value ≡ value' → wrong value ≡ None → wrong value' ≡ Some kind → ⊥
right_and_wrong wrong value value' kind same is is' =
    let no : None ≡ Some kind = sym is ∙ ap wrong same ∙ is' in cc

pub front_decides : {V : Type 0} (Says : Token → V → Type 0) (wrong : V → Option ConfigKind) → SaysOne Says
    → Decides (front Says wrong)
front_decides Says wrong only end tokens (Gives value rest) (Gives value' rest') (token, at, said, right, is)
    (token', at', said', right', is') =
    let same = same_said Says only tokens token token' value value' at at' said said' in
    ap (λ v. Gives v rest) same ∙ ap (λ r. Gives value' r) (is ∙ sym is')
front_decides Says wrong only end tokens (Gives value rest) (Stops fault) (token, at, said, right, is)
    (inl (none, fault_is)) =
    absurd (none token value at said)
front_decides Says wrong only end tokens (Gives value rest) (Stops fault) (token, at, said, right, is)
    (inr (token', value', kind, at', said', is_wrong, fault_is)) =
    absurd (right_and_wrong wrong value value' kind
    (same_said Says only tokens token token' value value' at at' said said') right is_wrong)
front_decides Says wrong only end tokens (Stops fault) (Gives value rest) (inl (none, fault_is))
    (token, at, said, right, is) =
    absurd (none token value at said)
front_decides Says wrong only end tokens (Stops fault) (Gives value rest)
    (inr (token', value', kind, at', said', is_wrong, fault_is)) (token, at, said, right, is) =
    absurd (right_and_wrong wrong value value' kind
    (same_said Says only tokens token token' value value' at at' said said') right is_wrong)
front_decides Says wrong only end tokens (Stops fault) (Stops fault') (inl (none, is)) (inl (none', is')) =
    ap Stops (is ∙ sym is')
front_decides Says wrong only end tokens (Stops fault) (Stops fault') (inl (none, is))
    (inr (token, value, kind, at, said, is_wrong, is')) =
    absurd (none token value at said)
front_decides Says wrong only end tokens (Stops fault) (Stops fault')
    (inr (token, value, kind, at, said, is_wrong, is)) (inl (none, is')) =
    absurd (none token value at said)
front_decides Says wrong only end tokens (Stops fault) (Stops fault')
    (inr (token, value, kind, at, said, is_wrong, is)) (inr (token', value', kind', at', said', is_wrong', is')) =
    let same = same_said Says only tokens token token' value value' at at' said said' in
    let kinds = same_kind wrong value value' kind kind' same is_wrong is_wrong' in
    ap Stops (is ∙ ap (λ (k : ConfigKind). fault_at k (front_place tokens end)) kinds ∙ sym is')

unit_one : (value other : Unit {0}) → value ≡ other
unit_one value other = refl

pub sign_decides : (which : ℕ) (wrong : Option ConfigKind) → Decides (sign_or which wrong)
sign_decides which wrong =
    front_decides (SaysSign which) (λ value. wrong) (λ token value other said also. unit_one value other)

-- a word spells one value at most
abbrev pub SpellsOne : {V : Type 0} → (List ℕ → V → Type 0) → Type 0
SpellsOne {V} Spells = (text : List ℕ) (value other : V) → Spells text value → Spells text other → value ≡ other

word_says_one : {V : Type 0} (Spells : List ℕ → V → Type 0) → SpellsOne Spells → SaysOne (SaysWord Spells)
word_says_one Spells only token value other (text, is, spells) (text', is', spells') =
    let same : text' ≡ text = cc in
    only text value other spells (subst (λ (t : List ℕ). Spells t other) same spells')

pub word_decides : {V : Type 0} (Spells : List ℕ → V → Type 0) (wrong : V → Option ConfigKind) → SpellsOne Spells
    → Decides (word_or Spells wrong)
word_decides Spells wrong only = front_decides (SaysWord Spells) wrong (word_says_one Spells only)

pub keyword_decides : (text : List ℕ) → Decides (keyword text)
keyword_decides text = word_decides (IsText text) never (λ word value other is also. unit_one value other)

bytes_one : SaysOne SaysBytes
bytes_one token value other (inl is) (inl is') = cc
bytes_one token value other (inl is) (inr is') = absurd (cc)
bytes_one token value other (inr is) (inl is') = absurd (cc)
bytes_one token value other (inr is) (inr is') = cc

pub any_word_decides : Decides any_word
any_word_decides = front_decides SaysBytes never bytes_one

-- RULES OF OTHERS

-- the first of two rules stops, or the second has the outcome
BindCases : {V W : Type 0} → Rule V → (V → Rule W) → Place → List Placed → Outcome W → Type 0
BindCases {V} R S end tokens outcome =
    ((fault : ConfigFault) × R end tokens (Stops fault) × (outcome ≡ Stops fault))
    ⊎ ((first : V) × (mid : List Placed) × R end tokens (Gives first mid) × S first end mid outcome)

bind_cases : {V W : Type 0} (R : Rule V) (S : V → Rule W) (end : Place) (tokens : List Placed) (outcome : Outcome W)
    → (R >>= S) end tokens outcome → BindCases R S end tokens outcome
unfolding BindCases
bind_cases R S end tokens (Gives value rest) is = inr is
bind_cases R S end tokens (Stops fault) (inl is) = inl (fault, is, refl)
bind_cases R S end tokens (Stops fault) (inr is) = inr is

cases_one : {V W : Type 0} (R : Rule V) (S : V → Rule W) → Decides R → ((first : V) → Decides (S first))
    → (end : Place) (tokens : List Placed) (one other : Outcome W) → BindCases R S end tokens one
    → BindCases R S end tokens other → one ≡ other
unfolding BindCases
cases_one R S first then end tokens one other (inl (fault, is, so)) (inl (fault', is', so')) =
    let same : fault ≡ fault' = (let both = first end tokens (Stops fault) (Stops fault') is is' in cc) in
    so ∙ ap Stops same ∙ sym so'
cases_one R S first then end tokens one other (inl (fault, is, so)) (inr (value, mid, here, behind)) =
    let no = first end tokens (Stops fault) (Gives value mid) is here in absurd (cc)
cases_one R S first then end tokens one other (inr (value, mid, here, behind)) (inl (fault, is, so)) =
    let no = first end tokens (Gives value mid) (Stops fault) here is in absurd (cc)
cases_one R S first then end tokens one other (inr (value, mid, here, behind)) (inr (value', mid', here', behind')) =
    let both = first end tokens (Gives value mid) (Gives value' mid') here here' in
    let value_is : value' ≡ value = cc in
    let mid_is : mid' ≡ mid = cc in
    then value end mid one other behind
    (subst (λ v. S v end mid other) value_is
    (subst (λ (left : List Placed). S value' end left other) mid_is behind'))

pub then_decides : {V W : Type 0} (R : Rule V) (S : V → Rule W) → Decides R → ((first : V) → Decides (S first))
    → Decides (R >>= S)
then_decides R S first then end tokens one other is also =
    cases_one R S first then end tokens one other (bind_cases R S end tokens one is)
    (bind_cases R S end tokens other also)

pub either_decides : {V : Type 0} (so : Bool) (R S : Rule V) → Decides R → Decides S → Decides (either so R S)
either_decides true R S first second end tokens one other is also = first end tokens one other is also
either_decides false R S first second end tokens one other is also = second end tokens one other is also

pub by_front_decides : {V : Type 0} (such : Option Token → Bool) (R S : Rule V) → Decides R → Decides S
    → Decides (by_front such R S)
by_front_decides such R S first second end tokens one other is also =
    either_decides (such (front_token tokens)) R S first second end tokens one other is also

pub ended_decides : {V : Type 0} (Spells : List ℕ → V → Type 0) → SpellsOne Spells → Decides (word_ended Spells)
ended_decides Spells only =
    then_decides (word Spells) (λ value. sign 59 >>= λ ended. saying value) (word_decides Spells never only)
    (λ value. then_decides (sign 59) (λ ended. saying value) (sign_decides 59 None) (λ ended. saying_decides value))

-- AGAIN AND AGAIN

UntilCases : {S : Type 0} → (Option Token → Bool) → (S → Rule S) → Place → S → List Placed → Outcome S → Type 0
UntilCases {S} ends step end known tokens outcome =
    ((ends (front_token tokens) ≡ true) × (outcome ≡ Gives known tokens))
    ⊎ (((fault : ConfigFault) × (ends (front_token tokens) ≡ false) × step known end tokens (Stops fault)
    × (outcome ≡ Stops fault))
    ⊎ ((after : S) × (mid : List Placed) × (ends (front_token tokens) ≡ false)
    × step known end tokens (Gives after mid) × Until ends step end after mid outcome))

until_cases : {S : Type 0} (ends : Option Token → Bool) (step : S → Rule S) (end : Place) (start : S)
    (tokens : List Placed) (outcome : Outcome S) → Until ends step end start tokens outcome
    → UntilCases ends step end start tokens outcome
unfolding UntilCases
until_cases ends step end start tokens outcome (done known left is) = inl (is, refl)
until_cases ends step end start tokens outcome (more known after left mid last is here behind) =
    inr (inr (after, mid, is, here, behind))
until_cases ends step end start tokens outcome (stopped known left fault is here) = inr (inl (fault, is, here, refl))

Alike : {S : Type 0} → (Option Token → Bool) → (S → Rule S) → Place → S → List Placed → Outcome S → Type 0
Alike {S} ends step end known tokens one =
    (other : Outcome S) → UntilCases ends step end known tokens other → one ≡ other

done_alike : {S : Type 0} (ends : Option Token → Bool) (step : S → Rule S) (end : Place) (known : S)
    (tokens : List Placed) → ends (front_token tokens) ≡ true → Alike ends step end known tokens (Gives known tokens)
unfolding UntilCases Alike
done_alike ends step end known tokens is other (inl (is', so)) = sym so
done_alike ends step end known tokens is other (inr (inl (fault, is', here, so))) = absurd (cc)
done_alike ends step end known tokens is other (inr (inr (after, mid, is', here, behind))) = absurd (cc)

stopped_alike : {S : Type 0} (ends : Option Token → Bool) (step : S → Rule S) (end : Place) (known : S)
    (tokens : List Placed) (fault : ConfigFault) → Decides (step known) → ends (front_token tokens) ≡ false
    → step known end tokens (Stops fault) → Alike ends step end known tokens (Stops fault)
unfolding UntilCases Alike
stopped_alike ends step end known tokens fault decides is here other (inl (is', so)) = absurd (cc)
stopped_alike ends step end known tokens fault decides is here other (inr (inl (fault', is', here', so))) =
    decides end tokens (Stops fault) (Stops fault') here here' ∙ sym so
stopped_alike ends step end known tokens fault decides is here other (inr (inr (after, mid, is', here', behind))) =
    let no = decides end tokens (Stops fault) (Gives after mid) here here' in absurd (cc)

more_alike : {S : Type 0} (ends : Option Token → Bool) (step : S → Rule S) (end : Place) (known after : S)
    (tokens mid : List Placed) (one : Outcome S) → Decides (step known) → ends (front_token tokens) ≡ false
    → step known end tokens (Gives after mid) → ((other : Outcome S) → Until ends step end after mid other
    → one ≡ other)
    → Alike ends step end known tokens one
unfolding UntilCases Alike
more_alike ends step end known after tokens mid one decides is here rest other (inl (is', so)) = absurd (cc)
more_alike ends step end known after tokens mid one decides is here rest other (inr (inl (fault, is', here', so))) =
    let no = decides end tokens (Gives after mid) (Stops fault) here here' in absurd (cc)
more_alike ends step end known after tokens mid one decides is here rest other
    (inr (inr (after', mid', is', here', behind))) =
    let both = decides end tokens (Gives after mid) (Gives after' mid') here here' in
    let after_is : after' ≡ after = cc in
    let mid_is : mid' ≡ mid = cc in
    rest other
    (subst (λ s. Until ends step end s mid other) after_is
    (subst (λ (left : List Placed). Until ends step end after' left other) mid_is behind))

until_one : {S : Type 0} (ends : Option Token → Bool) (step : S → Rule S) → ((known : S) → Decides (step known))
    → (end : Place) (start : S) (tokens : List Placed) (one other : Outcome S)
    → Until ends step end start tokens one → Until ends step end start tokens other → one ≡ other
unfolding Alike
until_one ends step decides end start tokens one other (done known left is) also =
    done_alike ends step end known left is other (until_cases ends step end known left other also)
until_one ends step decides end start tokens one other (more known after left mid last is here behind) also =
    more_alike ends step end known after left mid last (decides known) is here
    (λ another then. until_one ends step decides end after mid last another behind then) other
    (until_cases ends step end known left other also)
until_one ends step decides end start tokens one other (stopped known left fault is here) also =
    stopped_alike ends step end known left fault (decides known) is here other
    (until_cases ends step end known left other also)

pub until_decides : {S : Type 0} (ends : Option Token → Bool) (step : S → Rule S)
    → ((known : S) → Decides (step known)) → (known : S) → Decides (until ends step known)
until_decides ends step decides known end tokens one other is also =
    until_one ends step decides end known tokens one other is also
