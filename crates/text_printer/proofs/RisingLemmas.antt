-- Items in the order in which they are printed: each kind at most once.
use Rattle.std.proofs.Common.{ℕ, ◌≡◌, ◌==◌, ◌+◌, ◌<◌, ◌≤◌, ◌||◌, false, List, [], ◌∷◌, ◌++◌, ap, ◌∙◌, refl, arith}
use Rattle.std.proofs.Common.{ne_eqb}
use Rattle.std.proofs.Common.{if◌then◌else◌}
use Rattle.std.specs.List.{AllByRecursion}
use Rattle.route_grammar.specs.declared.items.Item.{Item}
use Rattle.route_grammar.specs.declared.kind.Kind.{Kind}
use Rattle.route_grammar.specs.Items.{kind_of, kind_code, is_among, AllDiffer}

-- the place of a kind: a path identifier comes first
abbrev pub rank_of : ℕ → ℕ
rank_of code = if code == 12 then 0 else code + 1

abbrev pub rank : Kind → ℕ
rank one = rank_of (kind_code one)

-- the kinds of the items rise, from this place on and before that one
abbrev pub Between : ℕ → ℕ → List Item → Type 0
Between from to [] = from ≤ to
Between from to (one ∷ items) = (from ≤ rank (kind_of one)) × Between (rank (kind_of one) + 1) to items

between_wider : (from mid to : ℕ) (items : List Item) → from ≤ mid → Between mid to items → Between from to items
between_wider from mid to [] wider between = omega (arith, wider, between)
between_wider from mid to (one ∷ items) wider between = let first = between.0 in
    (omega (arith, wider, first), between.1)

pub between_append : (from mid to : ℕ) (items more : List Item) → Between from mid items → Between mid to more
    → Between from to (items ++ more)
between_append from mid to [] more first second = between_wider from mid to more first second
between_append from mid to (one ∷ items) more first second =
    (first.0, between_append (rank (kind_of one) + 1) mid to items more first.1 second)

-- kinds of lower places don't have this one among them
unseen : (one : Kind) (seen : List Kind) → AllByRecursion (λ other. rank other < rank one) seen
    → is_among one seen ≡ false
unseen one [] below = refl
unseen one (other ∷ seen) below =
    let lower = below.0 in
    ap (λ test. test || is_among one seen) (ne_eqb (kind_code other) (kind_code one)
    (λ same. let ranks = ap rank_of same in omega (arith, ranks, lower)))
    ∙ unseen one seen below.1

below_wider : (from to : ℕ) (seen : List Kind) → from ≤ to → AllByRecursion (λ other. rank other < from) seen
    → AllByRecursion (λ other. rank other < to) seen
below_wider from to [] wider below = tt
below_wider from to (other ∷ seen) wider below =
    let lower = below.0 in (omega (arith, lower, wider), below_wider from to seen wider below.1)

pub rising_differ : (from to : ℕ) (seen : List Kind) (items : List Item)
    → AllByRecursion (λ other. rank other < from) seen → Between from to items → AllDiffer seen items
rising_differ from to seen [] below between = tt
rising_differ from to seen (one ∷ items) below between =
    let place : ℕ = rank (kind_of one) in
    let lower = between.0 in (
      unseen (kind_of one) seen (below_wider from place seen lower below),
      rising_differ (place + 1) to (kind_of one ∷ seen) items
          (omega arith, below_wider from (place + 1) seen (omega (arith, lower)) below) between.1,
    )
