-- The body of an UPDATE (RFC 4271, section 4.3): withdrawn prefixes and attributes, each behind its length, and then
-- announced prefixes to the end.
use Rattle.std.specs.Prelude.{ℕ, ◌≡◌, ◌^◌, ◌<◌, List, [], ◌∷◌, ◌++◌, length, map, Bool, true, false, Option, Some, None}
use Rattle.std.specs.Prelude.{unwrap_or}
use Rattle.route_values.specs.declared.addr.Addr.{Addr}
use Rattle.route_values.specs.declared.addr.Addr.TheVariants.{V4}
use Rattle.route_values.specs.declared.addr.Family.TheVariants.{Ipv4}
use Rattle.route_values.specs.declared.attrs.Aggregator.{Aggregator}
use Rattle.route_values.specs.declared.attrs.Large.{Large}
use Rattle.route_values.specs.declared.attrs.Origin.{Origin}
use Rattle.route_values.specs.declared.attrs.WireAttrs.{WireAttrs}
use Rattle.route_values.specs.Caps.{Caps}
use Rattle.route_values.specs.declared.key.Key.{Key}
use Rattle.route_values.specs.declared.path.Segment.{Segment}
use Rattle.update_grammar.specs.declared.effect.Attr.{Attr}
use Rattle.update_grammar.specs.declared.effect.Attr.TheVariants as says
use Rattle.update_grammar.specs.declared.effect.Effect.{Effect}
use Rattle.update_grammar.specs.declared.effect.Effect.TheVariants.{Gone, Here}
use Rattle.update_grammar.specs.declared.effect.Reached.{Reached}
use Rattle.update_grammar.specs.Pieces.{SpellsEach, counted}
use Rattle.update_grammar.specs.Prefixes.{SpellsKey}
use Rattle.update_grammar.specs.Meanings.{SpellsAttributes}

abbrev pub body : List ℕ → List ℕ → List ℕ → List ℕ
body withdrawn attributes announced = counted withdrawn ++ counted attributes ++ announced

pub record IsBody (bytes withdrawn attributes announced : List ℕ) : Type 0 where
  pub text : bytes ≡ body withdrawn attributes announced
  pub withdrawn_fits : length withdrawn < 2 ^ 16
  pub attributes_fit : length attributes < 2 ^ 16

-- what one attribute says of each matter
abbrev pub as_origin : Attr → Option Origin
as_origin (says.Origin origin) = Some origin
as_origin _ = None

abbrev pub as_path : Attr → Option (List Segment)
as_path (says.Path path) = Some path
as_path _ = None

abbrev pub as_next_hop : Attr → Option ℕ
as_next_hop (says.NextHop n) = Some n
as_next_hop _ = None

abbrev pub as_med : Attr → Option ℕ
as_med (says.Med n) = Some n
as_med _ = None

abbrev pub as_local_pref : Attr → Option ℕ
as_local_pref (says.LocalPref n) = Some n
as_local_pref _ = None

abbrev pub as_atomic : Attr → Option Bool
as_atomic says.Atomic = Some true
as_atomic _ = None

abbrev pub as_aggregator : Attr → Option Aggregator
as_aggregator (says.Aggregator by) = Some by
as_aggregator _ = None

abbrev pub as_communities : Attr → Option (List ℕ)
as_communities (says.Communities ns) = Some ns
as_communities _ = None

abbrev pub as_originator : Attr → Option ℕ
as_originator (says.Originator n) = Some n
as_originator _ = None

abbrev pub as_clusters : Attr → Option (List ℕ)
as_clusters (says.Clusters ns) = Some ns
as_clusters _ = None

abbrev pub as_extended : Attr → Option (List (List ℕ))
as_extended (says.Extended exts) = Some exts
as_extended _ = None

abbrev pub as_large : Attr → Option (List Large)
as_large (says.Large larges) = Some larges
as_large _ = None

abbrev pub as_reach : Attr → Option (Option Reached)
as_reach (says.Reach reached) = Some reached
as_reach _ = None

abbrev pub as_unreach : Attr → Option (Option (List Key))
as_unreach (says.Unreach keys) = Some keys
as_unreach _ = None

-- the first of two words, where there is one
abbrev pub first_of : {V : Type 0} → Option V → Option V → Option V
first_of (Some word) other = Some word
first_of None other = other

-- what the first attribute that speaks of a matter says of it
abbrev pub said_first : {V : Type 0} → (Attr → Option V) → List Attr → Option V
said_first says_of [] = None
said_first says_of (a ∷ others) = first_of (says_of a) (said_first says_of others)

-- an announcement's attributes, of which origin, path and next hop are given
abbrev pub gathered : List Attr → Addr → Origin → List Segment → WireAttrs
gathered said hop origin path = record {
  hop = hop;
  origin = origin;
  path = path;
  med = said_first as_med said;
  local_pref = said_first as_local_pref said;
  atomic = unwrap_or (said_first as_atomic said) false;
  aggregator = said_first as_aggregator said;
  communities = unwrap_or (said_first as_communities said) [];
  originator = said_first as_originator said;
  clusters = unwrap_or (said_first as_clusters said) [];
  extended = unwrap_or (said_first as_extended said) [];
  large = unwrap_or (said_first as_large said) [];
}

-- ORIGIN and AS_PATH are there
pub record HasOriginAndPath (said : List Attr) : Type 0 where
  pub origin : Origin
  pub path : List Segment
  pub origin_said : said_first as_origin said ≡ Some origin
  pub path_said : said_first as_path said ≡ Some path

-- the attributes that keys with this next hop are announced with
pub record Gathers (said : List Attr) (hop : Addr) (w : WireAttrs) : Type 0 where
  pub has : HasOriginAndPath said
  pub all : w ≡ gathered said hop has.origin has.path

-- one announcement a key
abbrev pub here_all : WireAttrs → List Key → List Effect
here_all w keys = map (λ key. Here key w) keys

-- one withdrawal a key
abbrev pub gone_all : List Key → List Effect
gone_all keys = map (λ key. Gone key) keys

-- what the prefixes behind the attributes do: they need ORIGIN, AS_PATH and NEXT_HOP
abbrev pub Announces : List Attr → List Key → List Effect → Type 0
Announces said [] effects = effects ≡ []
Announces said (k ∷ ks) effects =
    (hop : ℕ) × (w : WireAttrs) × (said_first as_next_hop said ≡ Some hop) × Gathers said (V4 hop) w
    × (effects ≡ here_all w (k ∷ ks))

-- what an MP_REACH_NLRI does, where there is one: it needs ORIGIN and AS_PATH, also for another session's family
abbrev pub Reaches : List Attr → Option (Option Reached) → List Effect → Type 0
Reaches said None effects = effects ≡ []
Reaches said (Some None) effects = HasOriginAndPath said × (effects ≡ [])
Reaches said (Some (Some reached)) effects = (w : WireAttrs) × Gathers said reached.hop w
    × (effects ≡ here_all w reached.keys)

-- the keys that an MP_UNREACH_NLRI withdraws, where there is one
abbrev pub unreached : Option (Option (List Key)) → List Key
unreached None = []
unreached (Some None) = []
unreached (Some (Some keys)) = keys

-- A body spells these effects: those of the withdrawn prefixes, of MP_UNREACH_NLRI, of MP_REACH_NLRI and of the
-- announced prefixes. Its own prefixes are IPv4 unicast whatever the capabilities.
pub record Spells (caps : Caps) (bytes : List ℕ) (effects : List Effect) : Type 0 where
  pub withdrawn : List ℕ
  pub attributes : List ℕ
  pub announced : List ℕ
  pub fields : IsBody bytes withdrawn attributes announced
  pub gone : List Key
  pub gone_spelled : SpellsEach (SpellsKey caps.ipv4_path Ipv4) withdrawn gone
  pub said : List Attr
  pub said_spelled : SpellsAttributes caps attributes said
  pub here : List Key
  pub here_spelled : SpellsEach (SpellsKey caps.ipv4_path Ipv4) announced here
  pub reached : List Effect
  pub reaches : Reaches said (said_first as_reach said) reached
  pub news : List Effect
  pub announces : Announces said here news
  pub all : effects ≡ gone_all gone ++ gone_all (unreached (said_first as_unreach said)) ++ reached ++ news
