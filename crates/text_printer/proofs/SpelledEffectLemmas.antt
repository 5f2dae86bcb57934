-- The effects that the body of an UPDATE spells have keys and attributes in range, each next hop of its key's family.
use Rattle.std.proofs.Common.{ℕ, ◌≡◌, Option, Some, None, List, [], ◌∷◌, ◌++◌, length, refl, sym, subst}
use Rattle.std.specs.List.{AllByRecursion}
use Rattle.std.specs.Prelude.{IfSome, unwrap_or}
use Rattle.std.specs.Int.{w16, to_be_bytes}
use Rattle.route_values.specs.declared.addr.Addr.{Addr}
use Rattle.route_values.specs.declared.addr.Addr.TheVariants.{V4}
use Rattle.route_values.specs.declared.addr.Family.{Family}
use Rattle.route_values.specs.declared.addr.Family.TheVariants.{Ipv4}
use Rattle.route_values.specs.declared.attrs.Origin.{Origin}
use Rattle.route_values.specs.declared.attrs.WireAttrs.{WireAttrs}
use Rattle.route_values.specs.declared.key.Key.{Key}
use Rattle.route_values.specs.declared.path.Segment.{Segment}
use Rattle.route_values.specs.Caps.{Caps}
use Rattle.update_grammar.specs.declared.effect.Attr.{Attr}
use Rattle.update_grammar.specs.declared.effect.Attr.TheVariants as says
use Rattle.update_grammar.specs.declared.effect.Effect.{Effect}
use Rattle.update_grammar.specs.declared.effect.Reached.{Reached}
use Rattle.update_grammar.specs.Laws.{AreBytes as AreOctets}
use Rattle.update_grammar.specs.Pieces.{counted}
use Rattle.update_grammar.specs.Update.{as_path, as_next_hop, as_med, as_local_pref, as_aggregator, as_communities}
use Rattle.update_grammar.specs.Update.{as_originator, as_clusters, as_extended, as_large, as_reach, as_unreach}
use Rattle.update_grammar.specs.Update.{first_of}
use Rattle.update_grammar.specs.Update.{said_first, gathered, Gathers, here_all, gone_all, Announces, Reaches}
use Rattle.update_grammar.specs.Update.{unreached}
use Rattle.update_grammar.specs.Update.{Spells}
use Rattle.update_grammar.specs.Values.{IsNumber, IsSegment, IsAggregator, IsLarge, IsExt}
use Rattle.update_grammar.specs.Written.{IsHop, IsSendable}
use Rattle.update_grammar.proofs.ByteLemmas.{bytes_front, bytes_behind}
use Rattle.update_grammar.proofs.PiecesLemmas.{all_append}
use Rattle.text_printer.specs.Laws.{IsKey, AreBytes, IsEffect}
use Rattle.text_printer.proofs.SpelledAttrLemmas.{IsReach, IsReachOf, AreKeysOf, IsFit, bytes_at, all_fit}
use Rattle.text_printer.proofs.SpelledKeyLemmas.{IsKeyOf, keys_of, any_keys}

-- ---- what is said first is in range

first_of_fit : {V : Type 0} (Fit : V → Type 0) (word other : Option V) → IfSome word Fit → IfSome other Fit
    → IfSome (first_of word other) Fit
first_of_fit Fit (Some word) other first more = first
first_of_fit Fit None other first more = more

first_fit : {V : Type 0} (says_of : Attr → Option V) (Fit : V → Type 0)
    → ((one : Attr) → IsFit one → IfSome (says_of one) Fit) → (said : List Attr) → AllByRecursion IsFit said
    → IfSome (said_first says_of said) Fit
first_fit says_of Fit each [] fit = tt
first_fit says_of Fit each (one ∷ said) fit =
    first_of_fit Fit (says_of one) (said_first says_of said) (each one fit.0)
    (first_fit says_of Fit each said fit.1)

list_fit : {V : Type 0} (Fit : V → Type 0) (word : Option (List V)) → IfSome word (AllByRecursion Fit)
    → AllByRecursion Fit (unwrap_or word [])
list_fit Fit None fit = tt
list_fit Fit (Some values) fit = fit

path_fit : (one : Attr) → IsFit one → IfSome (as_path one) (AllByRecursion IsSegment)
path_fit (says.Path path) fit = fit
path_fit _ fit = tt

next_hop_fit : (one : Attr) → IsFit one → IfSome (as_next_hop one) IsNumber
next_hop_fit (says.NextHop n) fit = fit
next_hop_fit _ fit = tt

med_fit : (one : Attr) → IsFit one → IfSome (as_med one) IsNumber
med_fit (says.Med n) fit = fit
med_fit _ fit = tt

local_pref_fit : (one : Attr) → IsFit one → IfSome (as_local_pref one) IsNumber
local_pref_fit (says.LocalPref n) fit = fit
local_pref_fit _ fit = tt

aggregator_fit : (one : Attr) → IsFit one → IfSome (as_aggregator one) IsAggregator
aggregator_fit (says.Aggregator by) fit = fit
aggregator_fit _ fit = tt

communities_fit : (one : Attr) → IsFit one → IfSome (as_communities one) (AllByRecursion IsNumber)
communities_fit (says.Communities ns) fit = fit
communities_fit _ fit = tt

originator_fit : (one : Attr) → IsFit one → IfSome (as_originator one) IsNumber
originator_fit (says.Originator n) fit = fit
originator_fit _ fit = tt

clusters_fit : (one : Attr) → IsFit one → IfSome (as_clusters one) (AllByRecursion IsNumber)
clusters_fit (says.Clusters ns) fit = fit
clusters_fit _ fit = tt

extended_fit : (one : Attr) → IsFit one → IfSome (as_extended one) (AllByRecursion IsExt)
extended_fit (says.Extended exts) fit = fit.0
extended_fit _ fit = tt

extended_bytes : (one : Attr) → IsFit one → IfSome (as_extended one) (AllByRecursion AreBytes)
extended_bytes (says.Extended exts) fit = fit.1
extended_bytes _ fit = tt

large_fit : (one : Attr) → IsFit one → IfSome (as_large one) (AllByRecursion IsLarge)
large_fit (says.Large larges) fit = fit
large_fit _ fit = tt

reach_fit : (one : Attr) → IsFit one → IfSome (as_reach one) IsReachOf
reach_fit (says.Reach reached) fit = fit
reach_fit _ fit = tt

unreach_fit : (one : Attr) → IsFit one → IfSome (as_unreach one) AreKeysOf
unreach_fit (says.Unreach keys) fit = fit
unreach_fit _ fit = tt

-- ---- the attributes of an announcement

abbrev IsSent : Family → WireAttrs → Type 0
IsSent family sent = IsSendable family sent × AllByRecursion AreBytes sent.extended

gathered_fit : (family : Family) (said : List Attr) (hop : Addr) (origin : Origin) (path : List Segment)
    → AllByRecursion IsFit said → IsHop family hop → said_first as_path said ≡ Some path
    → IsSent family (gathered said hop origin path)
gathered_fit family said hop origin path fit hop_is path_said = (
  record {
    hop = hop_is;
    path = subst (λ (word : Option (List Segment)). IfSome word (AllByRecursion IsSegment)) path_said
        (first_fit as_path (AllByRecursion IsSegment) path_fit said fit);
    med = first_fit as_med IsNumber med_fit said fit;
    local_pref = first_fit as_local_pref IsNumber local_pref_fit said fit;
    aggregator = first_fit as_aggregator IsAggregator aggregator_fit said fit;
    communities = list_fit IsNumber (said_first as_communities said)
        (first_fit as_communities (AllByRecursion IsNumber) communities_fit said fit);
    originator = first_fit as_originator IsNumber originator_fit said fit;
    clusters = list_fit IsNumber (said_first as_clusters said)
        (first_fit as_clusters (AllByRecursion IsNumber) clusters_fit said fit);
    extended = list_fit IsExt (said_first as_extended said)
        (first_fit as_extended (AllByRecursion IsExt) extended_fit said fit);
    large = list_fit IsLarge (said_first as_large said)
        (first_fit as_large (AllByRecursion IsLarge) large_fit said fit);
  },
  list_fit AreBytes (said_first as_extended said)
      (first_fit as_extended (AllByRecursion AreBytes) extended_bytes said fit),
)

gathers_fit : (family : Family) (said : List Attr) (hop : Addr) (sent : WireAttrs) → AllByRecursion IsFit said
    → IsHop family hop → Gathers said hop sent → IsSent family sent
gathers_fit family said hop sent fit hop_is gathers =
    let has = gathers.has in
    subst (λ (one : WireAttrs). IsSent family one) (sym gathers.all)
    (gathered_fit family said hop has.origin has.path fit hop_is has.path_said)

-- ---- effects

gone_are : (keys : List Key) → AllByRecursion IsKey keys → AllByRecursion IsEffect (gone_all keys)
gone_are [] are = tt
gone_are (key ∷ keys) are = (are.0, gone_are keys are.1)

here_are : (family : Family) (sent : WireAttrs) (keys : List Key) → IsSent family sent
    → AllByRecursion (IsKeyOf family) keys → AllByRecursion IsEffect (here_all sent keys)
here_are family sent [] is are = tt
here_are family sent (key ∷ keys) is are =
    let first = are.0 in (
      (first.key_is, subst (λ (one : Family). IsSendable one sent) (sym first.of_family) is.0, is.1),
      here_are family sent keys is are.1,
    )

-- no effects are such effects
none_are : (effects : List Effect) → effects ≡ [] → AllByRecursion IsEffect effects
none_are effects is = subst (λ (some : List Effect). AllByRecursion IsEffect some) (sym is) tt

reaches_are : (said : List Attr) (word : Option (Option Reached)) (effects : List Effect)
    → AllByRecursion IsFit said → IfSome word IsReachOf → Reaches said word effects → AllByRecursion IsEffect effects
reaches_are said None effects fit word_is is = none_are effects is
reaches_are said (Some None) effects fit word_is is = none_are effects is.1
reaches_are said (Some (Some reached)) effects fit word_is (sent, gathers, is) =
    let reach : IsReach reached = word_is in
    subst (λ (some : List Effect). AllByRecursion IsEffect some) (sym is)
    (here_are reach.family sent reached.keys
    (gathers_fit reach.family said reached.hop sent fit reach.hop gathers) reach.keys)

announces_are : (said : List Attr) (keys : List Key) (effects : List Effect) → AllByRecursion IsFit said
    → AllByRecursion (IsKeyOf Ipv4) keys → Announces said keys effects → AllByRecursion IsEffect effects
announces_are said [] effects fit are is = none_are effects is
announces_are said (key ∷ keys) effects fit are (hop, sent, hop_said, gathers, is) =
    let small : IsNumber hop = subst (λ (word : Option ℕ). IfSome word IsNumber) hop_said
    (first_fit as_next_hop IsNumber next_hop_fit said fit) in
    let hop_is : IsHop Ipv4 (V4 hop) = record { of_family = refl; fits = small } in
    subst (λ (some : List Effect). AllByRecursion IsEffect some) (sym is)
    (here_are Ipv4 sent (key ∷ keys) (gathers_fit Ipv4 said (V4 hop) sent fit hop_is gathers) are)

unreached_are : (word : Option (Option (List Key))) → IfSome word AreKeysOf → AllByRecursion IsKey (unreached word)
unreached_are None is = tt
unreached_are (Some None) is = tt
unreached_are (Some (Some keys)) is = is

-- bytes behind their number
counted_are : (bytes : List ℕ) → AreOctets (counted bytes) → AreOctets bytes
counted_are bytes are = bytes_behind (to_be_bytes w16 (length bytes)) bytes are

pub effects_are : (caps : Caps) (body : List ℕ) (effects : List Effect) → AreBytes body → Spells caps body effects
    → AllByRecursion IsEffect effects
effects_are caps body effects are spelled =
    let fields = spelled.fields in
    let attributes = spelled.said_spelled in
    let both : List ℕ = counted spelled.withdrawn ++ counted spelled.attributes in
    let all : AreOctets (both ++ spelled.announced) = subst AreOctets fields.text (bytes_at body are) in
    let front = bytes_front both spelled.announced all in
    let announced = bytes_behind both spelled.announced all in
    let withdrawn = counted_are spelled.withdrawn
    (bytes_front (counted spelled.withdrawn) (counted spelled.attributes) front) in
    let said_bytes = counted_are spelled.attributes
    (bytes_behind (counted spelled.withdrawn) (counted spelled.attributes) front) in
    let fit = all_fit caps attributes.raws spelled.said (subst AreOctets attributes.text said_bytes) attributes.meant in
    let gone = any_keys Ipv4 spelled.gone (keys_of caps.ipv4_path Ipv4 spelled.withdrawn spelled.gone withdrawn
    spelled.gone_spelled) in
    let here = keys_of caps.ipv4_path Ipv4 spelled.announced spelled.here announced spelled.here_spelled in
    let unreach = said_first as_unreach spelled.said in
    let gone_effects = gone_are spelled.gone gone in
    let unreached_effects = gone_are (unreached unreach)
    (unreached_are unreach (first_fit as_unreach AreKeysOf unreach_fit spelled.said fit)) in
    let reached_effects = reaches_are spelled.said (said_first as_reach spelled.said) spelled.reached fit
    (first_fit as_reach IsReachOf reach_fit spelled.said fit) spelled.reaches in
    let news_effects = announces_are spelled.said spelled.here spelled.news fit here spelled.announces in
    subst (λ (some : List Effect). AllByRecursion IsEffect some) (sym spelled.all)
    (all_append IsEffect _ spelled.news
    (all_append IsEffect _ spelled.reached
    (all_append IsEffect (gone_all spelled.gone) (gone_all (unreached unreach)) gone_effects unreached_effects)
    reached_effects) news_effects)
