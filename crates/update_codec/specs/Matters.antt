-- What attributes say, each matter by itself.
use Rattle.std.specs.Prelude.{List, [], ◌∷◌, ◌++◌, true, false, Option, Some, None, unwrap_or, ok_or, Result, Ok}
use Rattle.route_values.specs.declared.addr.Addr.{Addr}
use Rattle.route_values.specs.declared.addr.Addr.TheVariants.{V4}
use Rattle.route_values.specs.declared.attrs.Origin.{Origin}
use Rattle.route_values.specs.declared.attrs.WireAttrs.{WireAttrs}
use Rattle.route_values.specs.declared.key.Key.{Key}
use Rattle.route_values.specs.declared.path.Segment.{Segment}
use Rattle.update_grammar.specs.declared.effect.Attr.{Attr}
use Rattle.update_grammar.specs.declared.effect.Attr.TheVariants as says
use Rattle.update_grammar.specs.declared.effect.Effect.{Effect}
use Rattle.update_grammar.specs.declared.effect.Reached.{Reached}
use Rattle.update_grammar.specs.declared.fault.UpdateFault.{UpdateFault}
use Rattle.update_grammar.specs.declared.fault.UpdateFault.TheVariants as fault
use Rattle.update_grammar.specs.Codes.{code_origin, code_as_path, code_next_hop}
use Rattle.update_grammar.specs.Steps.{◌>>=◌}
use Rattle.update_grammar.specs.Update.{here_all, said_first, as_origin, as_path, as_next_hop, as_med, as_local_pref}
use Rattle.update_grammar.specs.Update.{as_atomic, as_aggregator, as_communities, as_originator, as_clusters}
use Rattle.update_grammar.specs.Update.{as_extended, as_large, as_reach, as_unreach}
use Rattle.update_codec.specs.declared.reading.matters.Matters.{Matters}
use Rattle.update_codec.specs.declared.reading.matters.Told.{Told}

-- what the first attribute that speaks of a matter says of it
abbrev pub matters_of : List Attr → Matters
matters_of said = record {
  origin = said_first as_origin said;
  path = said_first as_path said;
  next_hop = said_first as_next_hop said;
  med = said_first as_med said;
  local_pref = said_first as_local_pref said;
  atomic = unwrap_or (said_first as_atomic said) false;
  aggregator = said_first as_aggregator said;
  communities = unwrap_or (said_first as_communities said) [];
  originator = said_first as_originator said;
  clusters = unwrap_or (said_first as_clusters said) [];
  extended = unwrap_or (said_first as_extended said) [];
  large = unwrap_or (said_first as_large said) [];
}

-- and what attributes carry themselves
abbrev pub told_of : List Attr → Told
told_of said =
    record { matters = matters_of said; reach = said_first as_reach said; unreach = said_first as_unreach said }

-- what is told with an attribute before the others
abbrev pub with_attr : Attr → Told → Told
with_attr (says.Origin origin) t = record t { matters = record t.matters { origin = Some origin } }
with_attr (says.Path path) t = record t { matters = record t.matters { path = Some path } }
with_attr (says.NextHop n) t = record t { matters = record t.matters { next_hop = Some n } }
with_attr (says.Med n) t = record t { matters = record t.matters { med = Some n } }
with_attr (says.LocalPref n) t = record t { matters = record t.matters { local_pref = Some n } }
with_attr says.Atomic t = record t { matters = record t.matters { atomic = true } }
with_attr (says.Aggregator by) t = record t { matters = record t.matters { aggregator = Some by } }
with_attr (says.Communities ns) t = record t { matters = record t.matters { communities = ns } }
with_attr (says.Originator n) t = record t { matters = record t.matters { originator = Some n } }
with_attr (says.Clusters ns) t = record t { matters = record t.matters { clusters = ns } }
with_attr (says.Reach reach) t = record t { reach = Some reach }
with_attr (says.Unreach unreach) t = record t { unreach = Some unreach }
with_attr (says.Extended exts) t = record t { matters = record t.matters { extended = exts } }
with_attr (says.Large larges) t = record t { matters = record t.matters { large = larges } }

-- ORIGIN and AS_PATH, which announcements need
abbrev pub needed_in : Matters → Result (Origin × List Segment) UpdateFault
needed_in m = do
  origin ← ok_or m.origin (fault.MissingAttr code_origin)
  path ← ok_or m.path (fault.MissingAttr code_as_path)
  Ok (origin, path)

-- an announcement's attributes, of which next hop, origin and path are given
abbrev pub attrs_in : Matters → Addr → Origin → List Segment → WireAttrs
attrs_in m hop origin path = record {
  hop = hop;
  origin = origin;
  path = path;
  med = m.med;
  local_pref = m.local_pref;
  atomic = m.atomic;
  aggregator = m.aggregator;
  communities = m.communities;
  originator = m.originator;
  clusters = m.clusters;
  extended = m.extended;
  large = m.large;
}

abbrev pub here_in : Matters → Addr → List Key → Origin × List Segment → List Effect
here_in m hop keys both = here_all (attrs_in m hop both.0 both.1) keys

-- what an MP_REACH_NLRI announces
abbrev pub reached_from : Matters → Option (Option Reached) → Result (List Effect) UpdateFault
reached_from m None = Ok []
reached_from m (Some None) = needed_in m >>= λ both. Ok []
reached_from m (Some (Some reached)) = needed_in m >>= λ both. Ok (here_in m reached.hop reached.keys both)

-- what the prefixes behind the attributes announce
abbrev pub announced_from : Matters → List Key → Result (List Effect) UpdateFault
announced_from m [] = Ok []
announced_from m (key ∷ keys) = do
  both ← needed_in m
  hop ← ok_or m.next_hop (fault.MissingAttr code_next_hop)
  Ok (here_in m (V4 hop) (key ∷ keys) both)

-- both, the MP_REACH_NLRI first
abbrev pub all_from : Matters → Option (Option Reached) → List Key → Result (List Effect) UpdateFault
all_from m reach keys = do
  reached ← reached_from m reach
  behind ← announced_from m keys
  Ok (reached ++ behind)
