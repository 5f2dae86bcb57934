-- The tests of selection and of processes decide what config_model defines.
use Rattle.std.proofs.Common.{◌≡◌, ℕ, ◌<◌, Bool, true, List, [], ◌∷◌, Some, None, refl, sym, ap, ◌∙◌, subst}
use Rattle.std.proofs.Common.{arith, inl, inr, eqb-true, eq-eqb, length}
use Rattle.std.specs.Prelude.{◌||◌, ◌⊎◌, map, nat_eq, zero, suc, Option, Any, IfSome, IsSomeAnd}
use Rattle.std.specs.Prelude.{slice_get}
use Rattle.std.specs.Bool.{Decides}
use Rattle.std.specs.Cmp.{booleans_Decides}
use Rattle.std.specs.Cmp.Lexicographic.{pointwise}
use Rattle.std.specs.List.{list_any, slice_index_or}
use Rattle.std.specs.Option.{option_and_then, option_map}
use Rattle.std.proofs.lemmas.Bool.{and_from}
use Rattle.std.proofs.lemmas.Bool.Decides.{Decides-and, Decides-or, Decides-at, Decides-like}
use Rattle.std.proofs.lemmas.Option.{slice_get-map}
use Rattle.route_values.specs.declared.addr.Family.{Family}
use Rattle.route_values.specs.declared.pick.Pick.{Pick}
use Rattle.route_values.specs.declared.settings.Settings.{Settings}
use Rattle.route_values.specs.Addr.{family_of}
use Rattle.route_values.specs.Key.{same_addr}
use Rattle.route_values.specs.Pick.{IsMatch, IsPicked}
use Rattle.route_values.proofs.KeyLemmas.{same_addr_is, same_addr-self}
use Rattle.arrayvec.specs.ArrayVec.{ArrayVec}
use Rattle.config_model.specs.declared.sections.Neighbor.{Neighbor}
use Rattle.config_model.specs.declared.sections.Process.{Process}
use Rattle.config_model.specs.Sections.{same_name}
use Rattle.config_model.specs.Selected.{Hears, IsSelected}
use Rattle.peer_history.specs.Same.{same_family}
use Rattle.peer_history.proofs.SameLemmas.{same_family_is, same_family-self, list_is, number_is}
use Rattle.book_history.specs.DecisionLaws.{SlotsAreDecided, FilesAreDecided, ProcessesAreDecided}
use Rattle.book_history.specs.Helpers.{same_process}
use Rattle.book_history.specs.Selecting.{is_so, is_match, is_picked, has_own_hop, is_selected}
use Rattle.book_history.specs.Slots.{neighbor_at, slot}

-- a test of two values decides whether they are the same
abbrev IsTest : {A : Type 0} → (A → A → Bool) → Type 0
IsTest {A = A} same = (a b : A) → Decides (same a b) (a ≡ b)

numbers_tell : IsTest nat_eq
numbers_tell a b = (eqb-true a b, eq-eqb a b)

addrs_tell : IsTest same_addr
addrs_tell a b = (same_addr_is a b, λ e. subst (λ c. same_addr a c ≡ true) e (same_addr-self a))

families_tell : IsTest same_family
families_tell a b = (same_family_is a b, λ e. subst (λ c. same_family a c ≡ true) e (same_family-self a))

name_self : (a : List ℕ) → same_name a a ≡ true
name_self [] = refl
name_self (x ∷ xs) = and_from (nat_eq x x) (pointwise nat_eq xs xs) (eq-eqb x x refl) (name_self xs)

names_tell : IsTest same_name
names_tell a b = (list_is nat_eq number_is a b, λ e. subst (λ c. same_name a c ≡ true) e (name_self a))

-- one of a list passes a test
any_decides : {X : Type 0} (test : X → Bool) (P : X → Type 0) → ((x : X) → Decides (test x) (P x)) → (xs : List X)
    → Decides (list_any test xs) (Any P xs)
any_decides test P each [] = (λ e. cc, λ found. let lt = found.2 in absurd (omega arith))
any_decides test P each (x ∷ xs) =
    let rest = any_decides test P each xs in
    let here : P x → Any P (x ∷ xs) = λ p. (0, x, omega arith, refl, p) in
    let behind : Any P xs → Any P (x ∷ xs) =
    λ found. let lt = found.2 in (suc found.0, found.1, omega arith, found.3, found.4) in
    let where_it_is : Any P (x ∷ xs) → P x ⊎ Any P xs = λ found. first_or_later P x xs found.0 found.1 found.2 found.3
    found.4 in
    Decides-like (test x || list_any test xs) (λ either. elim either [ inl p ↦ here p | inr q ↦ behind q ])
    where_it_is (Decides-or (test x) (list_any test xs) (each x) rest)
  where
    first_or_later : {X : Type 0} (P : X → Type 0) (x : X) (xs : List X) (k : ℕ) (y : X) → k < length (x ∷ xs)
        → slice_index_or (x ∷ xs) k y ≡ y → P y → P x ⊎ Any P xs
    first_or_later P x xs zero y lt is p = inl (subst P (sym is) p)
    first_or_later P x xs (suc k) y lt is p = inr (k, y, omega arith, is, p)

-- a qualifier
so_decides : {A : Type 0} (same : A → A → Bool) → IsTest same → (written : Option A) (setting : A)
    → Decides (is_so same written setting) (IfSome written (λ w. w ≡ setting))
so_decides same tells None setting = (λ e. tt, λ p. refl)
so_decides same tells (Some w) setting = tells w setting

match_decides : (pick : Pick) (settings : Settings) → Decides (is_match pick settings) (IsMatch pick settings)
match_decides pick settings =
    let peer = addrs_tell pick.peer settings.peer in
    let local = so_decides same_addr addrs_tell pick.local settings.local in
    let local_as = so_decides nat_eq numbers_tell pick.local_as settings.local_as in
    let peer_as = so_decides nat_eq numbers_tell pick.peer_as settings.peer_as in
    let router_id = so_decides nat_eq numbers_tell pick.router_id settings.router_id in
    Decides-like (is_match pick settings)
    (λ h. record { peer = h.0.0.0.0; local = h.0.0.0.1; local_as = h.0.0.1; peer_as = h.0.1; router_id = h.1 })
    (λ m. ((((m.peer, m.local), m.local_as), m.peer_as), m.router_id))
    (Decides-and _ _ (Decides-and _ _ (Decides-and _ _ (Decides-and _ _ peer local) local_as) peer_as) router_id)

picked_decides : (picks : List Pick) (settings : Settings)
    → Decides (is_picked picks settings) (IsPicked picks settings)
picked_decides [] settings = (λ e. inl refl, λ p. refl)
picked_decides (p ∷ ps) settings =
    Decides-like (is_picked (p ∷ ps) settings) (λ found. inr found)
    (λ either. elim either [ inl e ↦ cc | inr found ↦ found ])
    (any_decides (λ pick. is_match pick settings) (λ pick. IsMatch pick settings)
    (λ pick. match_decides pick settings) (p ∷ ps))

hop_decides : (family : Option Family) (settings : Settings)
    → Decides (has_own_hop family settings) (IfSome family (λ wanted. wanted ≡ family_of settings.local))
hop_decides None settings = (λ e. tt, λ p. refl)
hop_decides (Some family) settings = families_tell family (family_of settings.local)

hears_decides : (neighbor : Neighbor) (process : List ℕ)
    → Decides (list_any (λ (name : ArrayVec ℕ). same_name name.items process) neighbor.processes)
    (Hears neighbor process)
hears_decides neighbor process =
    any_decides (λ name. same_name name.items process) (λ name. name.items ≡ process)
    (λ name. names_tell name.items process) neighbor.processes

pub slots_are_decided : SlotsAreDecided
slots_are_decided process neighbor pick family =
    Decides-like (is_selected (Some process) pick family (Some neighbor))
    (λ h. record { hears = h.0.0; picked = h.0.1; hop = h.1 }) (λ s. ((s.hears, s.picked), s.hop))
    (Decides-and _ _ (Decides-and _ _ (hears_decides neighbor process.name.items)
    (picked_decides pick neighbor.settings)) (hop_decides family neighbor.settings))

-- the slots of a file are its sections
file_slot : {A : Type 0} (sections : List A) (n : ℕ) → slot (map Some sections) n ≡ slice_get sections n
file_slot sections n =
    ap (option_and_then (λ held. held)) (slice_get-map Some sections n) ∙ held_once (slice_get sections n)
  where
    held_once : {A : Type 0} (held : Option A) → option_and_then (λ one. one) (option_map Some held) ≡ held
    held_once None = refl
    held_once (Some one) = refl

selected_at : (process : Process) (pick : List Pick) (family : Option Family) (neighbor : Option Neighbor)
    → Decides (is_selected (Some process) pick family neighbor)
    (IsSomeAnd neighbor (λ one. IsSelected one process.name.items pick family))
selected_at process pick family None = (λ e. cc, λ none. absurd none)
selected_at process pick family (Some neighbor) = slots_are_decided process neighbor pick family

pub files_are_decided : FilesAreDecided
files_are_decided cfg h n process pick family at =
    Decides-at _ _ (ap (λ held. is_selected held pick family (neighbor_at cfg [] n)) at
    ∙ ap (is_selected (Some process) pick family) (file_slot cfg.neighbors n))
    (selected_at process pick family (slice_get cfg.neighbors n))

pub processes_are_decided : ProcessesAreDecided
processes_are_decided old new =
    let name = names_tell old.name.items new.name.items in
    let run = names_tell old.run.items new.run.items in
    let both = Decides-and _ _ (Decides-and _ _ (Decides-and _ _ name run) (booleans_Decides old.json new.json))
    (booleans_Decides old.respawn new.respawn) in
    Decides-like (same_process old new)
    (λ h. λ t. record {
      name = record { items = h.0.0.0 t };
      run = record { items = h.0.0.1 t };
      json = h.0.1 t;
      respawn = h.1 t;
    })
    (λ e. (
      (
        (ap (λ (p : Process). p.name.items) e, ap (λ (p : Process). p.run.items) e),
        ap (λ (p : Process). p.json) e,
      ),
      ap (λ (p : Process). p.respawn) e,
    )) both
