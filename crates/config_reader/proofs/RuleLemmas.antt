-- Rules that are made of others, and what a reader of each answers.
use Rattle.std.proofs.Common.{ℕ, ◌≡◌, Bool, true, false, is_some, List, Option, Some, None, Result, Ok, Err, sym, refl}
use Rattle.std.proofs.Common.{subst, inl, inr}
use Rattle.token_reader.specs.declared.token.Place.{Place}
use Rattle.token_reader.specs.Tokens.{Token, Placed, front_token}
use Rattle.config_model.specs.declared.fault.ConfigKind.{ConfigKind}
use Rattle.config_model.specs.declared.fault.ConfigKind.TheVariants.{Twice}
use Rattle.config_reader.specs.declared.fault.ConfigError.{ConfigError}
use Rattle.config_reader.specs.declared.fault.ConfigError.TheVariants.{Refused, NoMemory}
use Rattle.config_reader.specs.Answered.{Answers}
use Rattle.config_reader.specs.Rules.{Rule, Outcome, Gives, Stops, Until, done, more, stopped, until}
use Rattle.config_reader.specs.Rules.{by_front, either, where_so, ◌>>=◌}

-- the end of the file stays where it is
pub same_end : {V : Type 0} (R : Rule V) (end other : Place) (tokens left : List Placed) (answer : Result V ConfigError)
    → other ≡ end → Answers R other tokens left answer → Answers R end tokens left answer
same_end R end other tokens left answer is answers =
    subst (λ (place : Place). Answers R place tokens left answer) is answers

-- what is no fault isn't so
pub not_so : (fault : ConfigKind) (so : Bool) → where_so fault so ≡ None → so ≡ false
not_so fault true is = absurd (cc)
not_so fault false is = refl

-- where a place that is found were a fault, none is
pub not_found : (place : Option ℕ) → where_so Twice (is_some place) ≡ None → place ≡ None
not_found (Some place) is = absurd (cc)
not_found None is = refl

-- ONE AFTER ANOTHER

pub goes : {V W : Type 0} (R : Rule V) (S : V → Rule W) (end : Place) (tokens mid left : List Placed) (first : V)
    (answer : Result W ConfigError) → R end tokens (Gives first mid) → Answers (S first) end mid left answer
    → Answers (R >>= S) end tokens left answer
goes R S end tokens mid left first (Ok value) here behind = (first, mid, here, behind)
goes R S end tokens mid left first (Err (Refused fault)) here behind = inr (first, mid, here, behind)
goes R S end tokens mid left first (Err NoMemory) here behind = tt

pub stops : {V W : Type 0} (R : Rule V) (S : V → Rule W) (end : Place) (tokens left other : List Placed)
    (error : ConfigError) → Answers R end tokens left (Err error) → Answers (R >>= S) end tokens other (Err error)
stops R S end tokens left other (Refused fault) here = inl here
stops R S end tokens left other NoMemory here = tt

-- where the second rule's reader has the end from the first one's
pub goes_on : {V W : Type 0} (R : Rule V) (S : V → Rule W) (end mid_end : Place) (tokens mid left : List Placed)
    (first : V) (answer : Result W ConfigError) → R end tokens (Gives first mid) → mid_end ≡ end
    → Answers (S first) mid_end mid left answer → Answers (R >>= S) end tokens left answer
goes_on R S end mid_end tokens mid left first answer here is behind =
    goes R S end tokens mid left first answer here (same_end (S first) end mid_end mid left answer is behind)

-- the second of two rules stops, or the third of three
pub second_stops : {V W X : Type 0} (R : Rule V) (S : V → Rule W) (T : V → W → Rule X) (end second : Place)
    (tokens mid left other : List Placed) (first : V) (error : ConfigError) → R end tokens (Gives first mid)
    → second ≡ end → Answers (S first) second mid left (Err error)
    → Answers (R >>= λ v. S v >>= T v) end tokens other (Err error)
second_stops R S T end second tokens mid left other first error here is late =
    goes_on R (λ v. S v >>= T v) end second tokens mid other first (Err error) here is
    (stops (S first) (T first) second mid left other error late)

pub third_stops : {V W X Y : Type 0} (R : Rule V) (S : V → Rule W) (T : V → W → Rule X) (U : V → W → X → Rule Y)
    (end second third : Place) (tokens mid next left other : List Placed) (one : V) (two : W) (error : ConfigError)
    → R end tokens (Gives one mid) → second ≡ end → S one second mid (Gives two next) → third ≡ second
    → Answers (T one two) third next left (Err error)
    → Answers (R >>= λ v. S v >>= λ w. T v w >>= U v w) end tokens other (Err error)
third_stops R S T U end second third tokens mid next left other one two error here is then also last =
    goes_on R (λ v. S v >>= λ w. T v w >>= U v w) end second tokens mid other one (Err error) here is
    (second_stops (S one) (T one) (U one) second third mid next left other two error then also last)

-- BY THE FRONT TOKEN

pub front_so : {V : Type 0} (such : Option Token → Bool) (R S : Rule V) (end : Place) (tokens left : List Placed)
    (answer : Result V ConfigError) → such (front_token tokens) ≡ true → Answers R end tokens left answer
    → Answers (by_front such R S) end tokens left answer
front_so such R S end tokens left (Ok value) is here =
    subst (λ (so : Bool). either so R S end tokens (Gives value left)) (sym is) here
front_so such R S end tokens left (Err (Refused fault)) is here =
    subst (λ (so : Bool). either so R S end tokens (Stops fault)) (sym is) here
front_so such R S end tokens left (Err NoMemory) is here = tt

pub front_not : {V : Type 0} (such : Option Token → Bool) (R S : Rule V) (end : Place) (tokens left : List Placed)
    (answer : Result V ConfigError) → such (front_token tokens) ≡ false → Answers S end tokens left answer
    → Answers (by_front such R S) end tokens left answer
front_not such R S end tokens left (Ok value) is here =
    subst (λ (so : Bool). either so R S end tokens (Gives value left)) (sym is) here
front_not such R S end tokens left (Err (Refused fault)) is here =
    subst (λ (so : Bool). either so R S end tokens (Stops fault)) (sym is) here
front_not such R S end tokens left (Err NoMemory) is here = tt

-- AGAIN AND AGAIN

pub until_done : {S : Type 0} (ends : Option Token → Bool) (step : S → Rule S) (end : Place) (known : S)
    (tokens : List Placed) → ends (front_token tokens) ≡ true
    → Answers (until ends step known) end tokens tokens (Ok known)
until_done ends step end known tokens is = done known tokens is

pub until_more : {S : Type 0} (ends : Option Token → Bool) (step : S → Rule S) (end : Place) (known after : S)
    (tokens mid left : List Placed) (answer : Result S ConfigError) → ends (front_token tokens) ≡ false
    → step known end tokens (Gives after mid) → Answers (until ends step after) end mid left answer
    → Answers (until ends step known) end tokens left answer
until_more ends step end known after tokens mid left (Ok value) is here behind =
    more known after tokens mid (Gives value left) is here behind
until_more ends step end known after tokens mid left (Err (Refused fault)) is here behind =
    more known after tokens mid (Stops fault) is here behind
until_more ends step end known after tokens mid left (Err NoMemory) is here behind = tt

pub until_stops : {S : Type 0} (ends : Option Token → Bool) (step : S → Rule S) (end : Place) (known : S)
    (tokens left other : List Placed) (error : ConfigError) → ends (front_token tokens) ≡ false
    → Answers (step known) end tokens left (Err error)
    → Answers (until ends step known) end tokens other (Err error)
until_stops ends step end known tokens left other (Refused fault) is here = stopped known tokens fault is here
until_stops ends step end known tokens left other NoMemory is here = tt
