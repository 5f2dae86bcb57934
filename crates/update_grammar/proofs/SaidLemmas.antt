-- What an announcement's attributes say, gathered again.
use Rattle.std.proofs.Common.{ℕ, ◌≡◌, Bool, true, false, List, [], ◌∷◌, ap, ◌∙◌, refl, Option, Some, None, eqb}
use Rattle.std.proofs.Common.{if◌then◌else◌}
use Rattle.std.specs.Option.{unwrap_or}
use Rattle.std.specs.List.{flat_map, AllByRecursion}
use Rattle.route_values.specs.declared.attrs.WireAttrs.{WireAttrs}
use Rattle.update_grammar.specs.declared.effect.Attr.{Attr}
use Rattle.update_grammar.specs.declared.effect.Attr.TheVariants as says
use Rattle.update_grammar.specs.declared.effect.Reached.{Reached}
use Rattle.update_grammar.specs.Update.{said_first, first_of, gathered, Gathers, HasOriginAndPath, as_origin, as_path}
use Rattle.update_grammar.specs.Update.{as_next_hop, as_med, as_local_pref, as_atomic, as_aggregator, as_communities}
use Rattle.update_grammar.specs.Update.{as_originator, as_clusters, as_extended, as_large, as_reach, as_unreach}
use Rattle.update_grammar.proofs.GroupLemmas.{code_of, said_if, said_some, said_when}
use Rattle.update_grammar.proofs.JoinLemmas.{Sees, group_answers}

-- the codes of an announcement's attributes
abbrev pub announced_codes : List ℕ
announced_codes = 1 ∷ 2 ∷ 3 ∷ 4 ∷ 5 ∷ 6 ∷ 7 ∷ 8 ∷ 9 ∷ 10 ∷ 14 ∷ 16 ∷ 32 ∷ []

-- what the attributes of an announcement say by their codes, with NEXT_HOP or MP_REACH_NLRI or both
unfoldable pub said_group : WireAttrs → Option ℕ → Option (Option Reached) → ℕ → List Attr
said_group w hop reach code =
    if eqb code 1 then (says.Origin w.origin ∷ []) else
    if eqb code 2 then (says.Path w.path ∷ []) else
    if eqb code 3 then said_if says.NextHop hop else
    if eqb code 4 then said_if says.Med w.med else
    if eqb code 5 then said_if says.LocalPref w.local_pref else
    if eqb code 6 then said_when says.Atomic w.atomic else
    if eqb code 7 then said_if says.Aggregator w.aggregator else
    if eqb code 8 then said_some says.Communities w.communities else
    if eqb code 9 then said_if says.Originator w.originator else
    if eqb code 10 then said_some says.Clusters w.clusters else
    if eqb code 14 then said_if says.Reach reach else
    if eqb code 16 then said_some says.Extended w.extended else
    if eqb code 32 then said_some says.Large w.large else []

-- what an announcement's attributes say in the order of their codes
unfoldable pub said_of : WireAttrs → Option ℕ → Option (Option Reached) → List Attr
said_of w hop reach = flat_map (said_group w hop reach) announced_codes

-- each group has attributes of its code alone
abbrev pub IsTold : WireAttrs → Option ℕ → Option (Option Reached) → Type 0
IsTold w hop reach = AllByRecursion (λ code. AllByRecursion (λ attr. code_of attr ≡ code) (said_group w hop reach code))
    announced_codes

-- a matter that is there is the answer to the question for it
first_if : {V : Type 0} (asks : Attr → Option V) (say : V → Attr) → ((v : V) → asks (say v) ≡ Some v)
    → (matter : Option V) → said_first asks (said_if say matter) ≡ matter
first_if asks say seen None = refl
first_if asks say seen (Some v) = ap (λ word. first_of word None) (seen v)

-- a list is the answer to the question for it, where no answer means the empty list
first_some : {V : Type 0} (asks : Attr → Option (List V)) (say : List V → Attr)
    → ((vs : List V) → asks (say vs) ≡ Some vs) → (items : List V)
    → unwrap_or (said_first asks (said_some say items)) [] ≡ items
first_some asks say seen [] = refl
first_some asks say seen (v ∷ vs) = ap (λ word. unwrap_or (first_of word None) []) (seen (v ∷ vs))

-- a mark is the answer to the question for it, where no answer means that it doesn't stand
first_when : (stands : Bool) → unwrap_or (said_first as_atomic (said_when says.Atomic stands)) false ≡ stands
first_when true = refl
first_when false = refl

-- each question is answered by the attribute of its code alone
sees_origin : Sees as_origin 1
sees_origin (says.Origin origin) differ = absurd (differ refl)
sees_origin _ differ = refl

sees_path : Sees as_path 2
sees_path (says.Path path) differ = absurd (differ refl)
sees_path _ differ = refl

sees_next_hop : Sees as_next_hop 3
sees_next_hop (says.NextHop n) differ = absurd (differ refl)
sees_next_hop _ differ = refl

sees_med : Sees as_med 4
sees_med (says.Med n) differ = absurd (differ refl)
sees_med _ differ = refl

sees_local_pref : Sees as_local_pref 5
sees_local_pref (says.LocalPref n) differ = absurd (differ refl)
sees_local_pref _ differ = refl

sees_atomic : Sees as_atomic 6
sees_atomic says.Atomic differ = absurd (differ refl)
sees_atomic _ differ = refl

sees_aggregator : Sees as_aggregator 7
sees_aggregator (says.Aggregator by) differ = absurd (differ refl)
sees_aggregator _ differ = refl

sees_communities : Sees as_communities 8
sees_communities (says.Communities ns) differ = absurd (differ refl)
sees_communities _ differ = refl

sees_originator : Sees as_originator 9
sees_originator (says.Originator n) differ = absurd (differ refl)
sees_originator _ differ = refl

sees_clusters : Sees as_clusters 10
sees_clusters (says.Clusters ns) differ = absurd (differ refl)
sees_clusters _ differ = refl

sees_reach : Sees as_reach 14
sees_reach (says.Reach reached) differ = absurd (differ refl)
sees_reach _ differ = refl

sees_unreach : Sees as_unreach 15
sees_unreach (says.Unreach keys) differ = absurd (differ refl)
sees_unreach _ differ = refl

sees_extended : Sees as_extended 16
sees_extended (says.Extended exts) differ = absurd (differ refl)
sees_extended _ differ = refl

sees_large : Sees as_large 32
sees_large (says.Large larges) differ = absurd (differ refl)
sees_large _ differ = refl

-- attributes that say each matter of w are gathered to w
gathered_is : (said : List Attr) (w : WireAttrs) → said_first as_med said ≡ w.med
    → said_first as_local_pref said ≡ w.local_pref → unwrap_or (said_first as_atomic said) false ≡ w.atomic
    → said_first as_aggregator said ≡ w.aggregator → unwrap_or (said_first as_communities said) [] ≡ w.communities
    → said_first as_originator said ≡ w.originator → unwrap_or (said_first as_clusters said) [] ≡ w.clusters
    → unwrap_or (said_first as_extended said) [] ≡ w.extended → unwrap_or (said_first as_large said) [] ≡ w.large
    → w ≡ gathered said w.hop w.origin w.path
gathered_is said w med local_pref atomic aggregator communities originator clusters extended large =
    rw (med, local_pref, atomic, aggregator, communities, originator, clusters, extended, large) refl

-- origin and path are those of w, where they are said
abbrev pub origin_and_path : (w : WireAttrs) (hop : Option ℕ) (reach : Option (Option Reached))
    → said_first as_origin (said_of w hop reach) ≡ Some w.origin
    → said_first as_path (said_of w hop reach) ≡ Some w.path
    → HasOriginAndPath (said_of w hop reach)
origin_and_path w hop reach origin_said path_said = record {
  origin = w.origin;
  path = w.path;
  origin_said = origin_said;
  path_said = path_said;
}

-- origin and path are there
pub has_origin_and_path : (w : WireAttrs) (hop : Option ℕ) (reach : Option (Option Reached)) → IsTold w hop reach
    → HasOriginAndPath (said_of w hop reach)
unfolding said_of said_group
has_origin_and_path w hop reach told =
    origin_and_path w hop reach (group_answers as_origin 1 (said_group w hop reach) sees_origin announced_codes told)
    (group_answers as_path 2 (said_group w hop reach) sees_path announced_codes told)

-- each matter of w is gathered again
said_gathered : (w : WireAttrs) (hop : Option ℕ) (reach : Option (Option Reached)) → IsTold w hop reach
    → w ≡ gathered (said_of w hop reach) w.hop w.origin w.path
unfolding said_of said_group
said_gathered w hop reach told =
    let groups : ℕ → List Attr = said_group w hop reach in
    gathered_is
    (said_of w hop reach)
    w
    (group_answers as_med 4 groups sees_med announced_codes told ∙ first_if as_med says.Med (λ v. refl) w.med)
    (group_answers as_local_pref 5 groups sees_local_pref announced_codes told
    ∙ first_if as_local_pref says.LocalPref (λ v. refl) w.local_pref)
    (ap (λ word. unwrap_or word false) (group_answers as_atomic 6 groups sees_atomic announced_codes told)
    ∙ first_when w.atomic)
    (group_answers as_aggregator 7 groups sees_aggregator announced_codes told
    ∙ first_if as_aggregator says.Aggregator (λ v. refl) w.aggregator)
    (ap (λ word. unwrap_or word []) (group_answers as_communities 8 groups sees_communities announced_codes told)
    ∙ first_some as_communities says.Communities (λ vs. refl) w.communities)
    (group_answers as_originator 9 groups sees_originator announced_codes told
    ∙ first_if as_originator says.Originator (λ v. refl) w.originator)
    (ap (λ word. unwrap_or word []) (group_answers as_clusters 10 groups sees_clusters announced_codes told)
    ∙ first_some as_clusters says.Clusters (λ vs. refl) w.clusters)
    (ap (λ word. unwrap_or word []) (group_answers as_extended 16 groups sees_extended announced_codes told)
    ∙ first_some as_extended says.Extended (λ vs. refl) w.extended)
    (ap (λ word. unwrap_or word []) (group_answers as_large 32 groups sees_large announced_codes told)
    ∙ first_some as_large says.Large (λ vs. refl) w.large)

-- an announcement's attributes are gathered again
pub said_gathers : (w : WireAttrs) (hop : Option ℕ) (reach : Option (Option Reached)) → IsTold w hop reach
    → Gathers (said_of w hop reach) w.hop w
unfolding said_of said_group
said_gathers w hop reach told =
    let groups : ℕ → List Attr = said_group w hop reach in
    record {
      has = origin_and_path w hop reach (group_answers as_origin 1 groups sees_origin announced_codes told)
          (group_answers as_path 2 groups sees_path announced_codes told);
      all = said_gathered w hop reach told;
    }

-- an announcement's NEXT_HOP is the answer to the question for it
pub next_hop_said : (w : WireAttrs) (hop : Option ℕ) (reach : Option (Option Reached)) → IsTold w hop reach
    → said_first as_next_hop (said_of w hop reach) ≡ hop
unfolding said_of said_group
next_hop_said w hop reach told = group_answers as_next_hop 3 (said_group w hop reach) sees_next_hop announced_codes told
    ∙ first_if as_next_hop says.NextHop (λ v. refl) hop

-- and so is its MP_REACH_NLRI
pub reach_said : (w : WireAttrs) (hop : Option ℕ) (reach : Option (Option Reached)) → IsTold w hop reach
    → said_first as_reach (said_of w hop reach) ≡ reach
unfolding said_of said_group
reach_said w hop reach told = group_answers as_reach 14 (said_group w hop reach) sees_reach announced_codes told
    ∙ first_if as_reach says.Reach (λ v. refl) reach

-- an announcement has no MP_UNREACH_NLRI
pub unreach_said : (w : WireAttrs) (hop : Option ℕ) (reach : Option (Option Reached)) → IsTold w hop reach
    → said_first as_unreach (said_of w hop reach) ≡ None
unfolding said_of said_group
unreach_said w hop reach told = group_answers as_unreach 15 (said_group w hop reach) sees_unreach announced_codes told
