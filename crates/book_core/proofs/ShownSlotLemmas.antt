-- Routes that are shown, slot by slot and key by key.
use Rattle.std.proofs.Common.{◌≡◌, ℕ, ◌+◌, ◌<◌, ◌≤◌, zero, suc, Bool, not, List, [], ◌∷◌, ◌++◌, length, Some, None}
use Rattle.std.proofs.Common.{take, get_or, refl, sym, ap, ◌∙◌, arith}
use Rattle.std.proofs.lemmas.List.{append-nil, flat_map_more, length-append, take_all, take_more}
use Rattle.std.proofs.lemmas.List.Concat.{flat_map-append}
use Rattle.std.proofs.lemmas.Option.{slice_get_read}
use Rattle.std.specs.List.{flat_map}
use Rattle.std.specs.Option.{option_map, option_to_list}
use Rattle.std.specs.Prelude.{Option}
use Rattle.ack_queue.specs.declared.reply.Shown.{Shown}
use Rattle.route_values.specs.declared.addr.Addr.{Addr}
use Rattle.route_values.specs.declared.attrs.Attrs.{Attrs}
use Rattle.route_values.specs.declared.key.Key.{Key}
use Rattle.route_values.specs.declared.settings.Settings.{Settings}
use Rattle.route_values.specs.Prefix.{Block}
use Rattle.route_values.specs.Sent.{hop_sent}
use Rattle.route_values.specs.Settings.{side_of}
use Rattle.adj_rib_out.specs.declared.entry.Owner.{Owner as Keeper}
use Rattle.adj_rib_out.specs.declared.entry.Owner.TheVariants as keeper
use Rattle.adj_rib_out.specs.State as table
use Rattle.peer_book.specs.Stands as of_peer
use Rattle.peer_history.specs.Steps.{Step}
use Rattle.peer_history.specs.Table.{Route, is_of_helper, want}
use Rattle.book_history.specs.Bounds.{numbers_from}
use Rattle.book_history.specs.Shows.{shown_as}
use Rattle.book_core.specs.declared.peering.Peering.{Peering}
use Rattle.book_core.specs.Carrying.{is_among}
use Rattle.book_core.specs.Showing.{is_fixed, shown_below, shown_each, shown_if, shown_one, AllStand}

-- ---- slot by slot

numbers_last : (first many : ℕ) → numbers_from first (suc many) ≡ numbers_from first many ++ (first + many) ∷ []
numbers_last first zero = ap (λ (n : ℕ). n ∷ []) (let same : first ≡ first + 0 = omega arith in same)
numbers_last first (suc many) =
    ap (λ (ns : List ℕ). first ∷ ns) (numbers_last (suc first) many
    ∙ ap (λ (n : ℕ). numbers_from (suc first) many ++ n ∷ [])
    (let same : suc first + many ≡ first + suc many = omega arith in same))

-- what is shown of one slot more
pub shown_next : (n : ℕ) (chosen : List Bool) (within : Option Block) (steps : ℕ → List Step)
    → shown_below (n + 1) chosen within steps
    ≡ shown_below n chosen within steps ++ shown_if (is_among chosen n) within (steps n)
shown_next n chosen within steps =
    let of_slot : ℕ → List Shown = λ m. shown_if (is_among chosen m) within (steps m) in
    ap (λ (many : ℕ). flat_map of_slot (numbers_from 0 many)) (let same : n + 1 ≡ suc n = omega arith in same)
    ∙ ap (flat_map of_slot) (numbers_last 0 n)
    ∙ flat_map-append of_slot (numbers_from 0 n) ((0 + n) ∷ [])
    ∙ ap (λ (last : List Shown). flat_map of_slot (numbers_from 0 n) ++ last)
    (append-nil (of_slot (0 + n)) ∙ ap of_slot (let same : 0 + n ≡ n = omega arith in same))

-- the slot at a place stands
pub slot_stands : (peers : List Peering) (n : ℕ) (peering : Peering) (steps : ℕ → List Step) → n < length peers
    → peering ≡ get_or peers n peering → AllStand steps peers → of_peer.Stands (steps n) peering.slot
slot_stands peers n peering steps below at stand =
    stand n peering (slice_get_read peers (length peers) n peering refl below at)

pub count_next : (peers : List Peering) (chosen : List Bool) (within : Option Block) (n own count sum : ℕ)
    (so : Bool) (peering : Peering) → n < length peers → peering ≡ get_or peers n peering → so ≡ is_among chosen n
    → ((steps : List Step) → of_peer.Stands steps peering.slot → own ≡ length (shown_if so within steps))
    → sum ≡ count + own
    → ((steps : ℕ → List Step) → AllStand steps peers → count ≡ length (shown_below n chosen within steps))
    → (steps : ℕ → List Step) → AllStand steps peers → sum ≡ length (shown_below (n + 1) chosen within steps)
count_next peers chosen within n own count sum so peering below at is told adds counted steps stand =
    let here : own ≡ length (shown_if (is_among chosen n) within (steps n)) =
    told (steps n) (slot_stands peers n peering steps below at stand)
    ∙ ap (λ (b : Bool). length (shown_if b within (steps n))) is in
    let before = counted steps stand in
    let whole = ap length (shown_next n chosen within steps) in
    let split = length-append (shown_below n chosen within steps) (shown_if (is_among chosen n) within (steps n)) in
    omega (arith, adds, here, before, whole, split)

pub list_next : (peers : List Peering) (chosen : List Bool) (within : Option Block) (n : ℕ)
    (before after : List Shown) (so : Bool) (peering : Peering) → n < length peers → peering ≡ get_or peers n peering
    → so ≡ is_among chosen n
    → ((steps : List Step) → of_peer.Stands steps peering.slot → after ≡ before ++ shown_if so within steps)
    → ((steps : ℕ → List Step) → AllStand steps peers → before ≡ shown_below n chosen within steps)
    → (steps : ℕ → List Step) → AllStand steps peers → after ≡ shown_below (n + 1) chosen within steps
list_next peers chosen within n before after so peering below at is adds listed steps stand =
    adds (steps n) (slot_stands peers n peering steps below at stand)
    ∙ ap (λ (b : Bool). before ++ shown_if b within (steps n)) is
    ∙ ap (λ (routes : List Shown). routes ++ shown_if (is_among chosen n) within (steps n)) (listed steps stand)
    ∙ sym (shown_next n chosen within steps)

-- ---- key by key

pub each_next : (settings : Settings) (steps : List Step) (keys : List Key) (place : ℕ) (key : Key)
    (start before after : List Shown) → place < length keys → key ≡ get_or keys place key
    → before ≡ start ++ shown_each settings steps (take place keys)
    → after ≡ before ++ shown_one settings steps key
    → after ≡ start ++ shown_each settings steps (take (place + 1) keys)
each_next settings steps keys place key start before after below at listed adds =
    adds
    ∙ ap (λ (routes : List Shown). routes ++ shown_one settings steps key) listed
    ∙ flat_map_more (shown_one settings steps) start (take place keys) key
    ∙ ap (λ (ks : List Key). start ++ shown_each settings steps ks)
    (ap (λ (k : Key). take place keys ++ k ∷ []) at ∙ sym (take_more keys place key below))

pub each_all : (settings : Settings) (steps : List Step) (keys : List Key) (place : ℕ) (start after : List Shown)
    → length keys ≤ place → after ≡ start ++ shown_each settings steps (take place keys)
    → after ≡ start ++ shown_each settings steps keys
each_all settings steps keys place start after whole listed =
    listed ∙ ap (λ (ks : List Key). start ++ shown_each settings steps ks) (take_all place keys whole)

-- ---- one route

owner_fixed : (owner : Keeper) (attrs : Attrs) → is_fixed owner ≡ not (is_of_helper (Some (record {
  attrs = attrs;
  owner = of_peer.owner_of owner;
})))
owner_fixed keeper.Static attrs = refl
owner_fixed keeper.Helper attrs = refl

abbrev shown_by : Settings → Key → Addr → Bool → Shown
shown_by settings key hop fixed = record { peer = settings.peer; key = key; hop = hop; fixed = fixed }

pub shown_is : (settings : Settings) (key : Key) (route : table.Route) (hop : Addr) (fixed : Bool)
    → hop ≡ hop_sent route.written.hop (side_of settings) → fixed ≡ is_fixed route.owner
    → shown_by settings key hop fixed ≡ shown_as settings key (of_peer.asked route)
shown_is settings key route hop fixed hop_is fixed_is =
    ap (λ (h : Addr). shown_by settings key h fixed) hop_is
    ∙ ap (shown_by settings key (hop_sent route.written.hop (side_of settings)))
    (fixed_is ∙ owner_fixed route.owner route.written)

module _ (settings : Settings) (steps : List Step) (key : Key) (before : List Shown) where
  pub one_more : (route : table.Route) (one : Shown) (after : List Shown)
      → Some (of_peer.asked route) ≡ want steps key → one ≡ shown_as settings key (of_peer.asked route)
      → after ≡ before ++ one ∷ [] → after ≡ before ++ shown_one settings steps key
  one_more route one after told is adds =
      adds ∙ ap (λ (s : Shown). before ++ s ∷ []) is
      ∙ ap (λ (r : Option Route). before ++ option_to_list (option_map (shown_as settings key) r)) told

  pub none_more : None ≡ want steps key → before ≡ before ++ shown_one settings steps key
  none_more told =
      sym (append-nil before)
      ∙ ap (λ (r : Option Route). before ++ option_to_list (option_map (shown_as settings key) r)) told
