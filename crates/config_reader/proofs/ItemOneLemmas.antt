-- The items of a route have one outcome.
use Rattle.std.proofs.Common.{ℕ, ◌≡◌, ◌⊎◌, true, false, List, [], ◌∷◌, ◌++◌, map, Option, Some, None, refl, sym, ◌∙◌}
use Rattle.std.proofs.Common.{ap}
use Rattle.std.proofs.Common.{subst, inl, inr, append_assoc, append-nil}
use Rattle.route_values.specs.declared.addr.Family.{Family}
use Rattle.token_reader.specs.declared.token.Place.{Place}
use Rattle.token_reader.specs.Tokens.{Token, Word, Placed, front_token, front_place}
use Rattle.route_grammar.specs.Answered.{Reads, Faults, tokens_of}
use Rattle.route_grammar.specs.Items.{ReadsItems, items_further}
use Rattle.route_grammar.specs.Limits.{Counted, Limits, in_force, raised}
use Rattle.route_grammar.specs.Productions.{Further, IsFault, IsRead, Production, front, other}
use Rattle.route_grammar.specs.Productions as held
use Rattle.route_grammar.proofs.AnsweredLemmas.{front_tokens_of, tokens_append}
use Rattle.config_reader.specs.Rules.{Gives, Stops, fault_at}
use Rattle.config_reader.specs.Statics.{items_at, kind_over}
use Rattle.config_reader.proofs.OneLemmas.{Decides}

-- tokens that are parted in two ways, as tokens without places
parted : (before left before' left' : List Placed) → before ++ left ≡ before' ++ left'
    → tokens_of before ++ tokens_of left ≡ tokens_of before' ++ tokens_of left'
parted before left before' left' is =
    sym (tokens_append before left) ∙ ap tokens_of is ∙ tokens_append before' left'

same_left : (before before' left left' : List Placed) → tokens_of before' ≡ tokens_of before
    → before ++ left ≡ before' ++ left' → left ≡ left'
same_left [] [] left left' same is = is
same_left [] (first ∷ others) left left' same is = absurd (cc)
same_left (first ∷ others) [] left left' same is = absurd (cc)
same_left (first ∷ others) (first' ∷ others') left left' same is =
    let less : tokens_of others' ≡ tokens_of others = cc in
    let rest : others ++ left ≡ others' ++ left' = cc in
    same_left others others' left left' less rest

-- one part is longer by some tokens, or they are the same
Parting : List Placed → List Placed → List Placed → List Placed → Type 0
Parting before left before' left' =
    ((before ≡ before') × (left ≡ left'))
    ⊎ (((next : Placed) × (more : List Placed) × (before' ≡ before ++ next ∷ more) × (left ≡ next ∷ more ++ left'))
    ⊎ ((next : Placed) × (more : List Placed) × (before ≡ before' ++ next ∷ more) × (left' ≡ next ∷ more ++ left)))

longer : (first : Placed) (before left before' left' : List Placed) → Parting before left before' left'
    → Parting (first ∷ before) left (first ∷ before') left'
unfolding Parting
longer first before left before' left' (inl (same, rest)) = inl (ap (λ l. first ∷ l) same, rest)
longer first before left before' left' (inr (inl (next, more, is, rest))) =
    inr (inl (next, more, ap (λ l. first ∷ l) is, rest))
longer first before left before' left' (inr (inr (next, more, is, rest))) =
    inr (inr (next, more, ap (λ l. first ∷ l) is, rest))

parting : (before left before' left' : List Placed) → before ++ left ≡ before' ++ left'
    → Parting before left before' left'
unfolding Parting
parting [] left [] left' is = inl (refl, is)
parting [] left (first ∷ others) left' is = inr (inl (first, others, refl, is))
parting (first ∷ others) left [] left' is = inr (inr (first, others, refl, sym is))
parting (first ∷ others) left (first' ∷ others') left' is =
    let same : first' ≡ first = cc in
    let rest : others ++ left ≡ others' ++ left' = cc in
    subst (λ (one : Placed). Parting (first ∷ others) left (one ∷ others') left') (sym same)
    (longer first others left others' left' (parting others left others' left' rest))

-- READINGS AND FAULTS

reads_one : {V : Type 0} (R : Production V) (further : Further) (limits : Limits) (tokens left left' : List Placed)
    (value value' : V) → Reads R further limits tokens left value → Reads R further limits tokens left' value'
    → (left ≡ left') × (value' ≡ value)
reads_one R further limits tokens left left' value value' (before, split, read) (before', split', read') =
    let both = sym split ∙ split' in
    let only = read.only limits (tokens_of left) (tokens_of before') (tokens_of left') value' (front_tokens_of left)
    (parted before left before' left' both) read'.found (ap further (front_tokens_of left') ∙ read'.ends) in
    (same_left before before' left left' only.0 both, only.1)

reads_or_faults : {V : Type 0} (R : Production V) (further : Further) (limits : Limits)
    (tokens left left' : List Placed) (value : V) (over : Option Counted) → Reads R further limits tokens left value
    → Faults R further limits tokens left' over → ⊥
reads_or_faults R further limits tokens left left' value over (before, split, read) (before', split', fault) =
    fault.none limits (tokens_of left') (tokens_of before) (tokens_of left) value held.in_force
    (front_tokens_of left') (parted before' left' before left (sym split' ∙ split)) read.found
    (ap further (front_tokens_of left) ∙ read.ends)

-- a fault isn't before another one
no_later : {V : Type 0} (R : Production V) (further : Further) (limits : Limits) (before more left : List Placed)
    (next : Placed) (over over' : Option Counted) (token : Option Token) → further None ≡ false
    → IsFault R further limits (tokens_of before) (Some next.token) over
    → IsFault R further limits (tokens_of (before ++ next ∷ more)) token over' → ⊥
no_later R further limits before more left next over over' token ends fault later =
    let rest = later.begins.0 in
    let all = tokens_of (before ++ next ∷ more) ++ rest in
    fault.none limits (tokens_of (next ∷ more) ++ rest) all [] later.begins.1 held.in_force refl
    (sym (append_assoc (tokens_of before) (tokens_of (next ∷ more)) rest)
    ∙ ap (λ l. l ++ rest) (sym (tokens_append before (next ∷ more)))
    ∙ sym (append-nil all)) later.begins.2 ends

-- a fault that is no element too many is no element too many
no_over : {V : Type 0} (R : Production V) (further : Further) (limits : Limits) (before : List Token)
    (token : Option Token) (which : Counted) → further None ≡ false → IsFault R further limits before token None
    → IsFault R further limits before token (Some which) → ⊥
no_over R further limits before token which ends fault over =
    let word = over.over_is.0 in
    let more = over.over_is.2.0 in
    let all = (before ++ Word word ∷ []) ++ more in
    fault.none (raised which limits) (Word word ∷ more) all [] over.over_is.2.1
    (other word which over.over_is.1 (λ same. absurd (cc))) (sym over.over_is.1)
    (sym (append_assoc before (Word word ∷ []) more) ∙ sym (append-nil all)) over.over_is.2.2 ends

same_over : {V : Type 0} (R : Production V) (further : Further) (limits : Limits) (before : List Token)
    (token : Option Token) (over over' : Option Counted) → further None ≡ false
    → IsFault R further limits before token over → IsFault R further limits before token over'
    → kind_over over ≡ kind_over over'
same_over R further limits before token None None ends fault fault' = refl
same_over R further limits before token None (Some which) ends fault fault' =
    absurd (no_over R further limits before token which ends fault fault')
same_over R further limits before token (Some which) None ends fault fault' =
    absurd (no_over R further limits before token which ends fault' fault)
same_over R further limits before token (Some which) (Some which') ends fault fault' = refl

faults_by : {V : Type 0} (R : Production V) (further : Further) (limits : Limits)
    (before left before' left' : List Placed)
    (over over' : Option Counted) → further None ≡ false
    → IsFault R further limits (tokens_of before) (front_token left) over
    → IsFault R further limits (tokens_of before') (front_token left') over' → Parting before left before' left'
    → (left ≡ left') × (kind_over over ≡ kind_over over')
unfolding Parting
faults_by R further limits before left before' left' over over' ends fault fault' (inl (same, rest)) = (
  rest,
  same_over R further limits (tokens_of before) (front_token left) over over' ends fault
      (subst (λ (l : List Placed). IsFault R further limits (tokens_of before) (front_token l) over') (sym rest)
      (subst (λ (b : List Placed). IsFault R further limits (tokens_of b) (front_token left') over') (sym same)
      fault')),
)
faults_by R further limits before left before' left' over over' ends fault fault'
    (inr (inl (next, more, is, rest))) =
    absurd (no_later R further limits before more left next over over' (front_token left') ends
    (subst (λ (l : List Placed). IsFault R further limits (tokens_of before) (front_token l) over) rest fault)
    (subst (λ (b : List Placed). IsFault R further limits (tokens_of b) (front_token left') over') is fault'))
faults_by R further limits before left before' left' over over' ends fault fault'
    (inr (inr (next, more, is, rest))) =
    absurd (no_later R further limits before' more left' next over' over (front_token left) ends
    (subst (λ (l : List Placed). IsFault R further limits (tokens_of before') (front_token l) over') rest fault')
    (subst (λ (b : List Placed). IsFault R further limits (tokens_of b) (front_token left) over) is fault))

pub items_decide : (family : Family) → Decides (items_at family)
items_decide family end tokens (Gives items rest) (Gives items' rest') is also =
    let same = reads_one (ReadsItems (Some family)) items_further in_force tokens rest rest' items items' is also in
    ap (λ i. Gives i rest) (sym same.1) ∙ ap (λ r. Gives items' r) same.0
items_decide family end tokens (Gives items rest) (Stops fault) is (left, over, faults, fault_is) =
    absurd (reads_or_faults (ReadsItems (Some family)) items_further in_force tokens rest left items over is faults)
items_decide family end tokens (Stops fault) (Gives items rest) (left, over, faults, fault_is) is =
    absurd (reads_or_faults (ReadsItems (Some family)) items_further in_force tokens rest left items over is faults)
items_decide family end tokens (Stops fault) (Stops fault') (left, over, (before, split, faults), is)
    (left', over', (before', split', faults'), is') =
    let same = faults_by (ReadsItems (Some family)) items_further in_force before left before' left' over over' refl
    faults faults' (parting before left before' left' (sym split ∙ split')) in
    ap Stops
    (is ∙ ap (λ k. fault_at k (front_place left end)) same.1
    ∙ ap (λ (l : List Placed). fault_at (kind_over over') (front_place l end)) same.0 ∙ sym is')
