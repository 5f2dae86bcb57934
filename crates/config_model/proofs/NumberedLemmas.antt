-- Static routes that are numbered by their identifiers.
use Rattle.std.proofs.Common.{ℕ, ◌≡◌, ◌+◌, ◌<◌, ◌==◌, ◌&&◌, Bool, true, false, List, [], ◌∷◌, ◌++◌, map, length}
use Rattle.std.proofs.Common.{refl, sym, ap, subst, ◌∙◌, arith, length-append}
use Rattle.std.proofs.lemmas.Bool.{ne_eqb}
use Rattle.std.specs.List.{AllByRecursion, IsDistinct}
use Rattle.route_values.specs.declared.attrs.Attrs.{Attrs}
use Rattle.route_values.specs.declared.attrs.Hop.TheVariants.{Own}
use Rattle.route_values.specs.declared.key.Key.{Key}
use Rattle.route_values.specs.declared.settings.Settings.{Settings}
use Rattle.route_values.specs.Addr.{family_of}
use Rattle.route_values.specs.Attrs.{unwritten}
use Rattle.route_values.specs.Key.{family_of_key, same_block, same_key}
use Rattle.config_model.specs.declared.sections.StaticRoute.{StaticRoute}
use Rattle.config_model.specs.Drafts.{IsRoute}
use Rattle.config_model.proofs.DraftLemmas.{all_end, distinct_end}

-- the routes are those of a neighbour with these settings, and have the identifiers below a number
pub record AreNumbered (settings : Settings) (routes : List StaticRoute) (count : ℕ) : Type 0 where
  pub keys : IsDistinct same_key (map (λ (route : StaticRoute). route.key) routes)
  pub below : AllByRecursion (λ (route : StaticRoute). route.key.id < count) routes
  pub each : AllByRecursion (IsRoute settings) routes
  pub number : length routes ≡ count

pub none_numbered : (settings : Settings) (routes : List StaticRoute) → routes ≡ [] → AreNumbered settings routes 0
unfolding IsDistinct
none_numbered settings [] none = record { keys = tt; below = tt; each = tt; number = refl }
none_numbered settings (route ∷ routes) none = absurd (cc)

below_more : (routes : List StaticRoute) (count : ℕ) → AllByRecursion (λ (r : StaticRoute). r.key.id < count) routes
    → AllByRecursion (λ (r : StaticRoute). r.key.id < count + 1) routes
below_more [] count below = tt
below_more (route ∷ routes) count below =
    let here = below.0 in (omega arith, below_more routes count below.1)

-- a test that ends in a false one is false
and_false : (first last : Bool) → last ≡ false → first && last ≡ false
and_false true last is = is
and_false false last is = refl

-- keys of other identifiers differ
ids_apart : (a b : Key) → a.id < b.id → same_key a b ≡ false
ids_apart a b below = and_false (same_block a.prefix b.prefix) (a.id == b.id) (ne_eqb a.id b.id (omega arith))

keys_apart : (routes : List StaticRoute) (key : Key)
    → AllByRecursion (λ (r : StaticRoute). r.key.id < key.id) routes
    → AllByRecursion (λ (r : StaticRoute). same_key r.key key ≡ false) routes
keys_apart [] key below = tt
keys_apart (route ∷ routes) key below = (ids_apart route.key key below.0, keys_apart routes key below.1)

-- the next one is put behind them
pub next_numbered : (settings : Settings) (routes later : List StaticRoute) (route : StaticRoute) (count : ℕ)
    → AreNumbered settings routes count → later ≡ routes ++ route ∷ [] → route.key.id ≡ count
    → IsRoute settings route → AreNumbered settings later (count + 1)
next_numbered settings routes later route count before is id good =
    let P : List StaticRoute → Type 0 = λ l. AreNumbered settings l (count + 1) in
    let Q : ℕ → Type 0 = λ n. AllByRecursion (λ (r : StaticRoute). r.key.id < n) routes in
    let apart = keys_apart routes route.key (subst Q (sym id) before.below) in
    subst P (sym is) (record {
      keys = distinct_end same_key (λ (r : StaticRoute). r.key) routes route before.keys apart;
      below = all_end (λ (r : StaticRoute). r.key.id < count + 1) routes route (below_more routes count before.below)
          (omega (arith, id));
      each = all_end (IsRoute settings) routes route before.each good;
      number = length-append routes (route ∷ []) ∙ ap (λ n. n + 1) before.number;
    })

-- a route with the own address as its next hop and nothing else written
pub own_route : (settings : Settings) (key : Key) (attrs : Attrs) → attrs ≡ unwritten Own
    → family_of settings.local ≡ family_of_key key → IsRoute settings (record { key = key; attrs = attrs })
own_route settings key attrs is family =
    let P : Attrs → Type 0 = λ a. IsRoute settings (record { key = key; attrs = a }) in
    subst P (sym is) (record {
      family = family;
      limits = record {
        numbers = omega arith;
        communities = omega arith;
        clusters = omega arith;
        extended = omega arith;
        large = omega arith;
      };
    })
