-- The static routes of a neighbour: their keys differ, and each is at least one token.
use Rattle.std.proofs.Common.{ℕ, ◌≡◌, ◌+◌, ◌≤◌, ◌||◌, Bool, true, false, not, List, [], ◌∷◌, ◌++◌, map, length, Some}
use Rattle.std.proofs.Common.{None, if◌then◌else◌, refl, sym, ap, subst, arith, length-append}
use Rattle.std.specs.List.{AllByRecursion, IsDistinct, list_any}
use Rattle.route_values.specs.declared.key.Key.{Key}
use Rattle.route_values.specs.Key.{family_of_key, same_key}
use Rattle.token_reader.specs.declared.token.Place.{Place}
use Rattle.token_reader.specs.Tokens.{Placed}
use Rattle.config_model.specs.declared.fault.ConfigKind.TheVariants as kind
use Rattle.config_model.specs.declared.sections.StaticRoute.{StaticRoute}
use Rattle.config_model.proofs.DraftLemmas.{all_end, distinct_end}
use Rattle.config_reader.specs.Rules.{Gives, Until, done, is_sign, more}
use Rattle.config_reader.specs.Statics.{route_of, route_statement, statics_at, stood}
use Rattle.config_reader.proofs.ItemFitLemmas.{AttrsFit, items_fit}
use Rattle.config_reader.proofs.KeepLemmas.{sign_keeps}
use Rattle.config_reader.proofs.StaticLemmas.{route_shrinks}
use Rattle.config_reader.proofs.ShrinkLemmas.{saying_keeps}

abbrev RouteFits : StaticRoute → Type 0
RouteFits route = AttrsFit (family_of_key route.key) route.attrs

-- routes whose keys differ, each with a next hop of its family and lists within their limits
pub record AreRoutes (routes : List StaticRoute) : Type 0 where
  pub keys : IsDistinct same_key (map (λ (route : StaticRoute). route.key) routes)
  pub each : AllByRecursion (λ (route : StaticRoute). AttrsFit (family_of_key route.key) route.attrs) routes

or_false : (one other : Bool) → one || other ≡ false → (one ≡ false) × (other ≡ false)
or_false true other is = absurd (cc)
or_false false other is = (refl, is)

-- where none passes a test
pub any_none : {X : Type 0} (test : X → Bool) (xs : List X) → list_any test xs ≡ false
    → AllByRecursion (λ x. test x ≡ false) xs
any_none test [] is = tt
any_none test (x ∷ xs) is =
    let both = or_false (test x) (list_any test xs) is in (both.0, any_none test xs both.1)

new_key : (hop before : Bool)
    → (if not hop then Some kind.Token else if before then Some kind.Twice else None) ≡ None → before ≡ false
new_key true true is = absurd (cc)
new_key true false is = refl
new_key false before is = absurd (cc)

pub none_routes : AreRoutes []
unfolding IsDistinct
none_routes = record { keys = tt; each = tt }

with_route : (routes : List StaticRoute) (route : StaticRoute) → AreRoutes routes → stood routes route.key ≡ false
    → RouteFits route → AreRoutes (routes ++ route ∷ [])
with_route routes route are new fits = record {
  keys = distinct_end same_key (λ (one : StaticRoute). one.key) routes route are.keys
      (any_none (λ (one : StaticRoute). same_key one.key route.key) routes new);
  each = all_end (λ (one : StaticRoute). AttrsFit (family_of_key one.key) one.attrs) routes route are.each fits;
}

route_put : (routes after : List StaticRoute) (end : Place) (tokens rest : List Placed) → AreRoutes routes
    → route_statement routes end tokens (Gives after rest) → AreRoutes after
route_put routes after end tokens rest are
    (first, mid, here, (block, next, second, (items, far, third, (ended, last, closed, is)))) =
    let same : after ≡ routes ++ route_of block items ∷ [] = cc in
    subst AreRoutes (sym same)
    (with_route routes (route_of block items) are
    (new_key items.has_hop (stood routes (route_of block items).key) closed.3)
    (items_fit _ end next far items third))

routes_until : (end : Place) (routes all : List StaticRoute) (tokens rest : List Placed) → AreRoutes routes
    → Until (is_sign 125) route_statement end routes tokens (Gives all rest) → AreRoutes all
routes_until end routes all tokens rest are (done known left is) = are
routes_until end routes all tokens rest are (more known after left mid outcome is here behind) =
    routes_until end after all mid rest (route_put known after end left mid are here) behind

pub statics_are : (routes all : List StaticRoute) (end : Place) (tokens rest : List Placed) → AreRoutes routes
    → statics_at routes end tokens (Gives all rest) → AreRoutes all
statics_are routes all end tokens rest are (opened, mid, here, (read, next, second, (closed, last, third, is))) =
    let same : all ≡ read = cc in
    subst AreRoutes (sym same) (routes_until end routes read mid next are second)

-- COUNTS

route_counts : (routes after : List StaticRoute) (end : Place) (tokens rest : List Placed)
    → route_statement routes end tokens (Gives after rest)
    → length after + length rest ≤ length routes + length tokens
route_counts routes after end tokens rest
    (first, mid, here, (block, next, second, (items, far, third, (ended, last, closed, is)))) =
    let same : after ≡ routes ++ route_of block items ∷ [] = cc in
    omega (
      arith,
      ap length same,
      length-append routes (route_of block items ∷ []),
      route_shrinks routes end tokens rest after
          (first, mid, here, (block, next, second, (items, far, third, (ended, last, closed, is)))),
    )

counts_until : (end : Place) (routes all : List StaticRoute) (tokens rest : List Placed)
    → Until (is_sign 125) route_statement end routes tokens (Gives all rest)
    → length all + length rest ≤ length routes + length tokens
counts_until end routes all tokens rest (done known left is) = omega arith
counts_until end routes all tokens rest (more known after left mid outcome is here behind) =
    omega (arith, route_counts known after end left mid here, counts_until end after all mid rest behind)

pub statics_count : (routes all : List StaticRoute) (end : Place) (tokens rest : List Placed)
    → statics_at routes end tokens (Gives all rest)
    → length all + length rest ≤ length routes + length tokens
statics_count routes all end tokens rest (opened, mid, here, (read, next, second, (closed, last, third, is))) =
    let same : all ≡ read = cc in
    omega (
      arith,
      ap length same,
      sign_keeps 123 end tokens mid opened here,
      counts_until end routes read mid next second,
      sign_keeps 125 end next last closed third,
      saying_keeps read end last rest all is,
    )
