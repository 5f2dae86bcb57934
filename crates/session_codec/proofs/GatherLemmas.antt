-- Items that stand one after another, where what they say is gathered from the front.
use Rattle.std.proofs.Common.{ℕ, ◌≡◌, ◌<◌, List, [], ◌∷◌, length, Result, Ok, Err, arith, ap, sym, ◌∙◌, refl, subst}
use Rattle.update_grammar.specs.Steps.{◌>>=◌, each}
use Rattle.update_grammar.proofs.StepsLemmas.{Step, Shrinks, bind_ok, each_none, each_one, each_fault}
use Rattle.session_codec.specs.Said.{told}

-- how it is gathered: what one item says, what all say, and two such things after one another
pub record Gathers {X M : Type 0} (op : M → M → M) (all : List X → M) (tell : X → M) : Type 0 where
  pub one : (x : X) (items : List X) → all (x ∷ items) ≡ op (tell x) (all items)
  pub joins : (a b c : M) → op (op a b) c ≡ op a (op b c)
  pub front : (a : M) → op (all []) a ≡ a
  pub behind : (a : M) → op a (all []) ≡ a

-- what was gathered in front, and then what the rest says
abbrev pub gathered : {X M E : Type 0} → (M → M → M) → (List X → M) → M → Result (List X) E → Result M E
gathered op all front read = read >>= λ items. Ok (op front (all items))

-- nothing is gathered yet
pub gather_begins : {X M E : Type 0} (op : M → M → M) (all : List X → M) (tell : X → M) → Gathers op all tell
    → (front : M) (read : Result (List X) E) → front ≡ all []
    → gathered op all front read ≡ (read >>= λ items. Ok (all items))
gather_begins op all tell law front (Ok items) none =
    ap (λ m. Ok m) (ap (λ m. op m (all items)) none ∙ law.front (all items))
gather_begins op all tell law front (Err e) none = refl

gather_one : {X M E : Type 0} (op : M → M → M) (all : List X → M) (tell : X → M) → Gathers op all tell
    → (front : M) (x : X) (read : Result (List X) E)
    → gathered op all front (read >>= λ others. Ok (x ∷ others)) ≡ gathered op all (op front (tell x)) read
gather_one op all tell law front x (Ok others) =
    ap (λ m. Ok m) (ap (op front) (law.one x others) ∙ sym (law.joins front (tell x) (all others)))
gather_one op all tell law front x (Err e) = refl

unit_is : (u : Unit {0}) → u ≡ tt
unit_is tt = refl

-- a step that is told in other words is a step
pub told_ok : {X M E : Type 0} (step : Step (Unit {0}) X E) (tell : X → M) (bytes : List ℕ) (one : M × List ℕ)
    → told step tell tt bytes ≡ Ok one
    → (x : X) × (step tt bytes ≡ Ok (x, tt, one.1)) × (tell x ≡ one.0)
told_ok {X = X} {M = M} step tell bytes one is =
    let found = bind_ok (step tt bytes) (λ (got : X × Unit {0} × List ℕ). Ok (tell got.0, got.2)) one is in
    let same : (tell found.0.0, found.0.2) ≡ one = cc found.2 in
    let rest : found.0.2 ≡ one.1 = ap (λ (o : M × List ℕ). o.1) same in
    let whole : (found.0.0, found.0.1, found.0.2) ≡ (found.0.0, tt, one.1) =
    ap (λ (u : Unit {0}). (found.0.0, u, found.0.2)) (unit_is found.0.1)
    ∙ ap (λ (r : List ℕ). (found.0.0, tt, r)) rest in
    (found.0.0, found.1 ∙ ap (λ got. Ok got) whole, ap (λ (o : M × List ℕ). o.0) same)

abbrev retold : {X M E : Type 0} → (X → M) → Result (X × Unit {0} × List ℕ) E → Result (M × List ℕ) E
retold tell read = read >>= λ one. Ok (tell one.0, one.2)

told_err : {X M E : Type 0} (tell : X → M) (read : Result (X × Unit {0} × List ℕ) E) (e : E)
    → retold tell read ≡ Err e → read ≡ Err e
told_err tell (Ok one) e is = absurd cc
told_err tell (Err d) e is = cc

-- what is said goes on behind an item
pub gather_goes_on : {X M E : Type 0} (step : Step (Unit {0}) X E) → Shrinks step
    → (op : M → M → M) (all : List X → M) (tell : X → M) → Gathers op all tell
    → (front : M) (bytes : List ℕ) (one : M × List ℕ) (total : Result M E) → told step tell tt bytes ≡ Ok one
    → gathered op all front (each step tt bytes) ≡ total
    → gathered op all (op front one.0) (each step tt one.1) ≡ total
gather_goes_on step shrinks op all tell law front bytes one total is so_far =
    let found = told_ok step tell bytes one is in
    let on : gathered op all (op front (tell found.0)) (each step tt one.1) ≡ total =
    sym (gather_one op all tell law front found.0 (each step tt one.1))
    ∙ sym (ap (gathered op all front) (each_one step shrinks tt bytes (found.0, tt, one.1) found.1)) ∙ so_far in
    subst (λ m. gathered op all (op front m) (each step tt one.1) ≡ total) found.2 on

-- what is behind an item is shorter
pub gather_shorter : {X M E : Type 0} (step : Step (Unit {0}) X E) → Shrinks step → (tell : X → M) (bytes : List ℕ)
    (one : M × List ℕ) → told step tell tt bytes ≡ Ok one → length one.1 < length bytes
gather_shorter step shrinks tell bytes one is =
    let found = told_ok step tell bytes one is in
    shrinks.less tt bytes (found.0, tt, one.1) found.1

-- it stops at a fault
pub gather_stops : {X M E : Type 0} (step : Step (Unit {0}) X E) → Shrinks step
    → (op : M → M → M) (all : List X → M) (tell : X → M) (front : M) (bytes : List ℕ) (e : E) (total : Result M E)
    → 0 < length bytes → told step tell tt bytes ≡ Err e → gathered op all front (each step tt bytes) ≡ total
    → total ≡ Err e
gather_stops step shrinks op all tell front bytes e total some is so_far =
    sym so_far ∙ ap (gathered op all front) (each_fault step shrinks tt bytes e some
    (told_err tell (step tt bytes) e is))

-- it is done where no byte is left
pub gather_ends : {X M E : Type 0} (step : Step (Unit {0}) X E) (op : M → M → M) (all : List X → M) (tell : X → M)
    → Gathers op all tell → (front : M) (bytes : List ℕ) (total : Result M E) → length bytes ≡ 0
    → gathered op all front (each step tt bytes) ≡ total → total ≡ Ok front
gather_ends step op all tell law front [] total none so_far =
    sym so_far ∙ ap (gathered op all front) (each_none step tt) ∙ ap (λ m. Ok m) (law.behind front)
gather_ends step op all tell law front (byte ∷ bytes) total none so_far = absurd (omega arith)
