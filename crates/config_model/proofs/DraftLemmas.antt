-- A draft with a further section is a draft.
use Rattle.std.proofs.Common.{ℕ, ◌≡◌, ◌+◌, ◌<◌, ◌≤◌, Bool, true, false, cond, List, [], ◌∷◌, ◌++◌, map, length}
use Rattle.std.proofs.Common.{Some, None, refl, sym, subst, ◌∙◌, arith, length-append}
use Rattle.std.specs.Prelude.{position}
use Rattle.std.specs.List.{AllByRecursion, IsDistinct, position_from}
use Rattle.std.proofs.lemmas.Iterator.Adapters.{position_from-zero}
use Rattle.std.proofs.lemmas.List.Sums.{sum_by-append}
use Rattle.route_values.specs.Key.{same_addr}
use Rattle.config_model.specs.declared.sections.Process.{Process}
use Rattle.config_model.specs.declared.sections.Neighbor.{Neighbor}
use Rattle.config_model.specs.Sections.{Sections, sections, same_name, place_of_name, place_of_peer, routes_in}
use Rattle.config_model.specs.Drafts.{IsNeighbor, IsDraft, with_process, with_neighbor}

-- ---- where nothing is found

-- the step, by whether the first one passes
none_step : {X : Type 0} (test : X → Bool) (i : ℕ) (x : X) (xs : List X) (passes : Bool) → test x ≡ passes
    → cond passes (Some i) (position_from test (i + 1) xs) ≡ None
    → (position_from test (i + 1) xs ≡ None → AllByRecursion (λ y. test y ≡ false) xs)
    → AllByRecursion (λ y. test y ≡ false) (x ∷ xs)
none_step test i x xs true is none rest = absurd (cc)
none_step test i x xs false is none rest = (is, rest none)

-- where no place is found from some number on, none passes
none_passes : {X : Type 0} (test : X → Bool) (i : ℕ) (xs : List X) → position_from test i xs ≡ None
    → AllByRecursion (λ y. test y ≡ false) xs
none_passes test i [] none = tt
none_passes test i (x ∷ xs) none = none_step test i x xs (test x) refl none (none_passes test (i + 1) xs)

-- where no place is found, none passes
all_apart : {X : Type 0} (test : X → Bool) (xs : List X) → position test xs ≡ None
    → AllByRecursion (λ y. test y ≡ false) xs
all_apart test xs none = none_passes test 0 xs (sym (position_from-zero test xs) ∙ none)

-- ---- one more at the end

pub all_end : {X : Type 0} (P : X → Type 0) (xs : List X) (x : X) → AllByRecursion P xs → P x
    → AllByRecursion P (xs ++ x ∷ [])
all_end P [] x all last = (last, tt)
all_end P (y ∷ ys) x all last = (all.0, all_end P ys x all.1 last)

-- the keys with one more are apart from a key, where they were and the new one is
apart_end : {X K : Type 0} (same : K → K → Bool) (key : X → K) (k : K) (xs : List X) (x : X)
    → AllByRecursion (λ other. same k other ≡ false) (map key xs) → same k (key x) ≡ false
    → AllByRecursion (λ other. same k other ≡ false) (map key (xs ++ x ∷ []))
apart_end same key k [] x all last = (last, tt)
apart_end same key k (y ∷ ys) x all last = (all.0, apart_end same key k ys x all.1 last)

-- keys that differ, with one that is apart from each
pub distinct_end : {X K : Type 0} (same : K → K → Bool) (key : X → K) (xs : List X) (x : X)
    → IsDistinct same (map key xs) → AllByRecursion (λ y. same (key y) (key x) ≡ false) xs
    → IsDistinct same (map key (xs ++ x ∷ []))
unfolding IsDistinct
distinct_end same key [] x distinct new = (tt, tt)
distinct_end same key (y ∷ ys) x distinct new =
    (apart_end same key (key y) ys x distinct.0 new.0, distinct_end same key ys x distinct.1 new.1)

-- ---- drafts

-- no sections are a draft
pub empty_is_draft : (processes : List Process) (neighbors : List Neighbor) → processes ≡ [] → neighbors ≡ []
    → IsDraft (sections processes neighbors)
unfolding IsDistinct
empty_is_draft [] [] no_process no_neighbor = record {
  names = tt;
  peers = tt;
  each = tt;
  few_processes = omega arith;
  few_neighbors = omega arith;
  few_routes = omega arith;
}
empty_is_draft [] (neighbor ∷ neighbors) no_process no_neighbor = absurd (cc)
empty_is_draft (process ∷ processes) neighbors no_process no_neighbor = absurd (cc)

process_added : (s : Sections) (process : Process) → IsDraft s
    → place_of_name s.processes process.name.items ≡ None → length s.processes < 16
    → IsDraft (with_process s process)
process_added s process draft new room =
    let name : Process → List ℕ = λ p. p.name.items in
    let apart = all_apart (λ (p : Process). same_name p.name.items process.name.items) s.processes new in
    record {
      names = distinct_end same_name name s.processes process draft.names apart;
      peers = draft.peers;
      each = draft.each;
      few_processes = omega (arith, length-append s.processes (process ∷ []));
      few_neighbors = draft.few_neighbors;
      few_routes = draft.few_routes;
    }

neighbor_added : (s : Sections) (neighbor : Neighbor) → IsDraft s
    → place_of_peer s.neighbors neighbor.settings.peer ≡ None → IsNeighbor neighbor → length s.neighbors < 64
    → routes_in s.neighbors + length neighbor.statics ≤ 4194304
    → IsDraft (with_neighbor s neighbor)
neighbor_added s neighbor draft new section room routes =
    let apart = all_apart (λ (n : Neighbor). same_addr n.settings.peer neighbor.settings.peer) s.neighbors new in
    let count : Neighbor → ℕ = λ n. length n.statics in
    record {
      names = draft.names;
      peers = distinct_end same_addr (λ (n : Neighbor). n.settings.peer) s.neighbors neighbor draft.peers apart;
      each = all_end IsNeighbor s.neighbors neighbor draft.each section;
      few_processes = draft.few_processes;
      few_neighbors = omega (arith, length-append s.neighbors (neighbor ∷ []));
      few_routes = omega (arith, sum_by-append count s.neighbors (neighbor ∷ []), routes);
    }

-- ---- the same, of sections that are seen as a value

pub process_put : (s value : Sections) (later : List Process) (process : Process) → s ≡ value → IsDraft s
    → place_of_name value.processes process.name.items ≡ None → length value.processes < 16
    → later ≡ s.processes ++ process ∷ [] → IsDraft (sections later s.neighbors)
process_put s value later process is draft new room put =
    let New : Sections → Type 0 = λ v. place_of_name v.processes process.name.items ≡ None in
    let Room : Sections → Type 0 = λ v. length v.processes < 16 in
    let Draft : List Process → Type 0 = λ l. IsDraft (sections l s.neighbors) in
    subst Draft (sym put) (process_added s process draft (subst New (sym is) new) (subst Room (sym is) room))

pub neighbor_put : (s value : Sections) (later : List Neighbor) (neighbor : Neighbor) → s ≡ value → IsDraft s
    → place_of_peer value.neighbors neighbor.settings.peer ≡ None → IsNeighbor neighbor → length value.neighbors < 64
    → routes_in value.neighbors + length neighbor.statics ≤ 4194304
    → later ≡ s.neighbors ++ neighbor ∷ [] → IsDraft (sections s.processes later)
neighbor_put s value later neighbor is draft new section room routes put =
    let New : Sections → Type 0 = λ v. place_of_peer v.neighbors neighbor.settings.peer ≡ None in
    let Room : Sections → Type 0 = λ v. length v.neighbors < 64 in
    let Routes : Sections → Type 0 = λ v. routes_in v.neighbors + length neighbor.statics ≤ 4194304 in
    let Draft : List Neighbor → Type 0 = λ l. IsDraft (sections s.processes l) in
    subst Draft (sym put) (neighbor_added s neighbor draft (subst New (sym is) new) section (subst Room (sym is) room)
    (subst Routes (sym is) routes))
