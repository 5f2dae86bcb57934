-- A key of the table is given a route, or loses it.
use Rattle.std.proofs.Common.{◌≡◌, ◌==◌, ℕ, ◌+◌, ◌<◌, Bool, true, false, List, cond}
use Rattle.std.proofs.Common.{Option, Some, None, length, refl, sym, ap, ap₂, subst, ◌∙◌, arith}
use Rattle.std.specs.Option.{option_map, option_and_then}
use Rattle.std.specs.Prelude.{◌%◌, is_some, IsSome, IsTrue, slice_set, ◌||◌, ◌&&◌, not}
use Rattle.std.proofs.lemmas.Bool.{false≢true, eq-eqb, ne_eqb, eqb-true}
use Rattle.std.proofs.lemmas.List.{length-set}
use Rattle.linked_pending.specs.Links.{link}
use Rattle.route_values.specs.declared.key.Key.{Key}
use Rattle.route_values.specs.Key.{same_key}
use Rattle.route_values.proofs.KeyLemmas.{same_key_is}
use Rattle.adj_rib_out.specs.declared.chosen.Chosen.{Chosen}
use Rattle.adj_rib_out.specs.declared.entry.Owner.{Owner}
use Rattle.slot_batches.specs.Slots.{Slots}
use Rattle.route_values.specs.declared.attrs.Attrs.{Attrs}
use Rattle.adj_rib_out.specs.State.{State, Route, route_at, is_ready, value_at, route_of}
use Rattle.adj_rib_out.specs.Calls.{Sets}
use Rattle.adj_rib_out.specs.Nodes.{is_kept, is_node, nodes}
use Rattle.adj_rib_out.specs.Places.{key_at, place_of}
use Rattle.adj_rib_out.specs.Kept.{Parts, Values, IsTable, seen, route_by, route_in, chosen_at, shown_number}
use Rattle.adj_rib_out.specs.Kept.{written_under, chosen_of}
use Rattle.adj_rib_out.proofs.RowLemmas.{found, within, changed, some_is, none_some}
use Rattle.adj_rib_out.proofs.PartLemmas.{route_seen, ready_seen, value_seen}
use Rattle.adj_rib_out.proofs.NumberLemmas.{shown_below, shown_is}
use Rattle.adj_rib_out.proofs.KeepLemmas.{set_at, ready_kept, told_kept}
use Rattle.adj_rib_out.proofs.NodeLemmas.{count_changed, one}
use Rattle.adj_rib_out.proofs.SeenNodeLemmas.{node_by, kept_by, node_seen, kept_seen, nodes_seen, no_node}

pub route_if : (values : Values) (test : Bool) (r s : Option Chosen)
    → route_in values (cond test r s) ≡ cond test (route_in values r) (route_in values s)
route_if values true r s = refl
route_if values false r s = refl

module _ (p : Parts) (table : IsTable p) (key : Key) (place : ℕ) (here : place_of p.keys key ≡ Some place)
    (r : Option Chosen) (valid : (c : Chosen) → r ≡ Some c → IsSome (written_under p.values c.value)) where
  -- the table behind the change
  abbrev pub behind : Parts
  behind = record p {
    routes = slice_set p.routes place r;
    slots = record p.slots { nows = slice_set p.slots.nows place (shown_number p.caps p.values key r) };
  }

  pub key_here : key_at p.keys place ≡ Some key
  key_here = found p.keys key place here

  pub within_nows : place < length p.slots.nows
  within_nows = subst (λ n. place < n) (sym table.nows_length) (within p.keys key place key_here)

  pub within_routes : place < length p.routes
  within_routes = subst (λ n. place < n) (sym table.routes_length) (within p.keys key place key_here)

  now_is : (i : ℕ) → link behind.slots.nows i
      ≡ cond (i == place) (shown_number p.caps p.values key r) (link p.slots.nows i)
  now_is i = set_at p.slots.nows place i (shown_number p.caps p.values key r) 0 within_nows

  chosen_is : (i : ℕ) → chosen_at behind.routes i ≡ cond (i == place) r (chosen_at p.routes i)
  chosen_is i = set_at p.routes place i r None within_routes

  elsewhere : (i : ℕ) → key_at p.keys i ≡ None → (i == place) ≡ false
  elsewhere i none = ne_eqb i place (λ same.
      none_some (sym none ∙ subst (λ (j : ℕ). key_at p.keys j ≡ Some key) (sym same) key_here))

  shows : (i : ℕ) (k : Key) → key_at p.keys i ≡ Some k → link behind.slots.nows i
      ≡ shown_number p.caps p.values k (chosen_at behind.routes i)
  shows i k stands = now_is i ∙ (elim (i == place) as (λ test. (i == place) ≡ test
      → cond test (shown_number p.caps p.values key r) (link p.slots.nows i)
      ≡ shown_number p.caps p.values k (cond test r (chosen_at p.routes i))) [
        | true ↦ λ same. ap (λ (j : Key). shown_number p.caps p.values j r) (some_is (sym key_here
            ∙ subst (λ (j : ℕ). key_at p.keys j ≡ Some k) (eqb-true i place same) stands))
        | false ↦ λ differs. (table.taken i k stands).now
      ] refl) ∙ ap (shown_number p.caps p.values k) (sym (chosen_is i))

  keeps_chosen : (i : ℕ) (c : Chosen) → cond (i == place) r (chosen_at p.routes i) ≡ Some c
      → IsSome (written_under p.values c.value)
  keeps_chosen i c = elim (i == place) as (λ test. cond test r (chosen_at p.routes i) ≡ Some c
      → IsSome (written_under p.values c.value)) [
        | true ↦ λ is. valid c is
        | false ↦ λ is. table.chosen i c is
      ]

  pub set_kept : IsTable behind
  set_kept = record {
    once = table.once;
    kept = table.kept;
    room = table.room;
    nows_length = length-set _ _ _ ∙ table.nows_length;
    sents_length = table.sents_length;
    routes_length = length-set _ _ _ ∙ table.routes_length;
    vacant = λ i none. record {
      now = subst (λ n. n < 2) (sym (now_is i ∙ ap (λ (t : Bool). cond t (shown_number p.caps p.values key r)
          (link p.slots.nows i)) (elsewhere i none))) (table.vacant i none).now;
      sent = (table.vacant i none).sent ∙ sym (now_is i ∙ ap (λ (t : Bool). cond t
          (shown_number p.caps p.values key r) (link p.slots.nows i)) (elsewhere i none));
      chosen = chosen_is i ∙ ap (λ (t : Bool). cond t r (chosen_at p.routes i)) (elsewhere i none)
          ∙ (table.vacant i none).chosen;
    };
    taken = λ i k stands. record { now = shows i k stands; sent = (table.taken i k stands).sent };
    chosen = λ i c is. keeps_chosen i c (sym (chosen_is i) ∙ is);
    left = table.left;
    left_once = table.left_once;
    left_together = table.left_together;
    down = table.down;
    ipv4_stale = table.ipv4_stale;
    ipv6_stale = table.ipv6_stale;
  }

  pub set_sets : Sets (seen p) (seen behind) key (route_in p.values r)
  set_sets = record {
    side = refl;
    routes = λ k. route_seen behind k
        ∙ changed p.keys table.once key place here (route_by p) (route_by behind) (route_in p.values r)
        (λ i. ap (route_in p.values) (chosen_is i) ∙ route_if p.values (i == place) r (chosen_at p.routes i)) k
        ∙ ap (cond (same_key key k) (route_in p.values r)) (sym (route_seen p k));
    ready = ready_kept p behind refl refl;
    session = record { session = refl; told = told_kept p behind refl refl refl };
    batch = record { left = refl; markers = refl };
  }

  node_is : (i : ℕ) → node_by behind i ≡ (is_some (route_in p.values (cond (i == place) r (chosen_at p.routes i)))
      || kept_by p i)
  node_is i = ap (λ (o : Option Chosen). is_some (route_in p.values o) || kept_by p i) (chosen_is i)

  pub set_counts : nodes (seen behind) + one (is_node (seen p) key)
      ≡ nodes (seen p) + one (is_some (route_in p.values r) || is_kept (seen p) key)
  set_counts =
      let changes = count_changed (node_by p) (node_by behind) p.keys 0 place place key key_here (omega arith)
      (λ i ne. node_is i ∙ ap (λ (t : Bool). is_some (route_in p.values (cond t r (chosen_at p.routes i)))
      || kept_by p i) (ne_eqb i place ne)) in
      let old = nodes_seen p table in
      let new = nodes_seen behind set_kept in
      let was = ap one (node_seen p table key place here) in
      let is = ap one (node_is place ∙ ap (λ (t : Bool). is_some (route_in p.values
      (cond t r (chosen_at p.routes place)))
      || kept_by p place) (eq-eqb place place refl)
      ∙ ap (λ (b : Bool). is_some (route_in p.values r) || b) (sym (kept_seen p table key place here))) in
      omega arith

-- a key that gets a route is a node then
pub added : (new old : ℕ) (is_node kept : Bool) → new + one is_node ≡ old + one (true || kept)
    → new ≡ old + cond is_node 0 1
added new old true kept counts = omega arith
added new old false kept counts = omega arith

-- a key that loses its route stays a node where it is kept
pub removed : (new old : ℕ) (route kept : Bool) → new + one (route || kept) ≡ old + one (false || kept)
    → new + cond ((route || kept) && not kept) 1 0 ≡ old
removed new old true true counts = omega arith
removed new old true false counts = omega arith
removed new old false true counts = omega arith
removed new old false false counts = omega arith

-- a key that stands ready has a place
pub not_ready : (p : Parts) (state : State) (key : Key) → seen p ≡ state → IsTrue (is_ready state key)
    → place_of p.keys key ≡ None → ⊥
not_ready p state key view ready none = false≢true (sym (subst (λ (s : State). is_ready s key ≡ false) view
    (ready_seen p key ∙ ap is_some none)) ∙ ready)

mapped : {X Y Z : Type 0} (f : X → Y) (g : Y → Z) (o : Option X) → option_map (λ x. g (f x)) o
    ≡ option_map g (option_map f o)
mapped f g None = refl
mapped f g (Some x) = refl

pub some_mapped : {X Y : Type 0} (f : X → Y) (o : Option X) → is_some (option_map f o) ≡ is_some o
some_mapped f None = refl
some_mapped f (Some x) = refl

-- the route of a value that stands ready
module _ (p : Parts) (state : State) (view : seen p ≡ state) (value : ℕ) (owner : Owner) where
  pub route_set : route_in p.values (Some (chosen_of value owner))
      ≡ option_map (λ written. route_of state.side written owner) (value_at state value)
  route_set = subst (λ (s : State). route_in p.values (Some (chosen_of value owner))
      ≡ option_map (λ written. route_of s.side written owner) (value_at s value)) view
      (mapped (λ (x : Attrs × ℕ). x.0) (λ (w : Attrs). route_of p.values.side w owner) (written_under p.values value)
      ∙ ap (option_map (λ (w : Attrs). route_of p.values.side w owner)) (sym (value_seen p value)))

  pub value_ready : IsSome (value_at state value) → IsSome (written_under p.values value)
  value_ready ready = sym (some_mapped (λ (x : Attrs × ℕ). x.0) (written_under p.values value))
      ∙ ap is_some (sym (value_seen p value)) ∙ subst (λ (s : State). is_some (value_at s value) ≡ true) (sym view)
      ready

  pub route_some : IsSome (value_at state value)
      → is_some (route_in p.values (Some (chosen_of value owner))) ≡ true
  route_some ready = some_mapped (λ (x : Attrs × ℕ). route_of p.values.side x.0 owner) (written_under p.values value)
      ∙ value_ready ready

module _ (p : Parts) (table : IsTable p) (key : Key) (state : State) (view : seen p ≡ state) (place : ℕ)
    (here : place_of p.keys key ≡ Some place) (r : Option Chosen)
    (valid : (c : Chosen) → r ≡ Some c → IsSome (written_under p.values c.value)) (number : ℕ)
    (shown : number ≡ shown_number p.caps p.values key r) where
  pub below_room : number < p.slots.room
  below_room =
      let below = shown_below p.values table.kept p.caps key r in
      let room = table.room place key (found p.keys key place here) in
      omega arith

  pub same_parity : number % 2 ≡ link p.slots.nows place % 2
  same_parity =
      let taken = table.taken place key (key_here p table key place here r valid) in
      ap (λ (n : ℕ). n % 2) shown ∙ (shown_is p.values table.kept p.caps key r).parity_is
      ∙ sym (ap (λ (n : ℕ). n % 2) taken.now
      ∙ (shown_is p.values table.kept p.caps key (chosen_at p.routes place)).parity_is)

  module _ (routes : List (Option Chosen)) (chose : routes ≡ slice_set p.routes place r) (slots : Slots)
      (show : slots ≡ record p.slots { nows = slice_set p.slots.nows place number }) where
    abbrev pub made : Parts
    made = record p { routes = routes; slots = slots }

    made_is : behind p table key place here r valid ≡ made
    made_is = ap₂ (λ (rs : List (Option Chosen)) (s : Slots). record p { routes = rs; slots = s }) (sym chose)
        (sym (show ∙ ap (λ (n : ℕ). record p.slots { nows = slice_set p.slots.nows place n }) shown))

    pub made_kept : IsTable made
    made_kept = subst IsTable made_is (set_kept p table key place here r valid)

    pub made_sets : Sets state (seen made) key (route_in p.values r)
    made_sets = subst (λ (s : State). Sets s (seen made) key (route_in p.values r)) view
        (subst (λ (q : Parts). Sets (seen p) (seen q) key (route_in p.values r)) made_is
        (set_sets p table key place here r valid))

    pub made_counts : nodes (seen made) + one (is_node state key)
        ≡ nodes state + one (is_some (route_in p.values r) || is_kept state key)
    made_counts = subst (λ (s : State). nodes (seen made) + one (is_node s key)
        ≡ nodes s + one (is_some (route_in p.values r) || is_kept s key)) view
        (subst (λ (q : Parts). nodes (seen q) + one (is_node (seen p) key)
        ≡ nodes (seen p) + one (is_some (route_in p.values r) || is_kept (seen p) key)) made_is
        (set_counts p table key place here r valid))

    pub made_route : (route : Option Route) → route_in p.values r ≡ route → Sets state (seen made) key route
    made_route route is = subst (λ (o : Option Route). Sets state (seen made) key o) is made_sets

    pub made_added : is_some (route_in p.values r) ≡ true
        → nodes (seen made) ≡ nodes state + cond (is_node state key) 0 1
    made_added some = added (nodes (seen made)) (nodes state) (is_node state key) (is_kept state key)
        (subst (λ (t : Bool). nodes (seen made) + one (is_node state key)
        ≡ nodes state + one (t || is_kept state key)) some made_counts)

    pub made_removed : is_some (route_in p.values r) ≡ false
        → nodes (seen made) + cond (is_node state key && not (is_kept state key)) 1 0 ≡ nodes state
    made_removed none = removed (nodes (seen made)) (nodes state) (is_some (route_at state key)) (is_kept state key)
        (subst (λ (t : Bool). nodes (seen made) + one (is_node state key)
        ≡ nodes state + one (t || is_kept state key)) none made_counts)

-- a key without a row has no route to lose
module _ (p : Parts) (table : IsTable p) (key : Key) (state : State) (view : seen p ≡ state)
    (none : place_of p.keys key ≡ None) where
  pub nothing_set : Sets state state key None
  nothing_set = subst (λ (s : State). Sets s s key None) view (record {
    side = refl;
    routes = λ k. elim (same_key key k) as (λ t. same_key key k ≡ t
        → route_at (seen p) k ≡ cond t None (route_at (seen p) k)) [
          | true ↦ λ same. subst (λ (j : Key). route_at (seen p) j ≡ None) (same_key_is key k same)
              (route_seen p key ∙ ap (option_and_then (route_by p)) none)
          | false ↦ λ differs. refl
        ] refl;
    ready = ready_kept p p refl refl;
    session = record { session = refl; told = λ k. refl };
    batch = record { left = refl; markers = refl };
  })

  pub nothing_counts : nodes state + cond (is_node state key && not (is_kept state key)) 1 0 ≡ nodes state
  nothing_counts = subst (λ (s : State). nodes s + cond (is_node s key && not (is_kept s key)) 1 0 ≡ nodes s) view
      (subst (λ (t : Bool). nodes (seen p) + cond (t && not (is_kept (seen p) key)) 1 0 ≡ nodes (seen p))
      (sym (no_node p table key none)) (omega arith))
