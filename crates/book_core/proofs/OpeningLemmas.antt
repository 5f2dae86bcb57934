-- The slots at the opening.
use Rattle.std.proofs.Common.{◌≡◌, ℕ, ◌+◌, zero, suc, List, [], ◌∷◌, ◌++◌, length, map, Some, None, refl, sym, ap, ◌∙◌}
use Rattle.std.proofs.Common.{subst, arith, inl, inr}
use Rattle.std.proofs.lemmas.List.{length-append}
use Rattle.std.proofs.lemmas.Option.{same_Some, slice_get_past, slice_get_read, slice_get_within}
use Rattle.std.specs.Prelude.{slice_get, IfSome, Option}
use Rattle.std.specs.Borrow.{Bor}
use Rattle.std.specs.List.{AllByRecursion}
use Rattle.std.specs.Option.{option_copied}
use Rattle.std.specs.Slice.{IsItemAt}
use Rattle.config_model.specs.declared.sections.Neighbor.{Neighbor}
use Rattle.config_model.specs.Sections.{Sections}
use Rattle.helper_book.specs.Seen.{Seen as Helper}
use Rattle.peer_book.specs.Stands as of_peer
use Rattle.book_history.specs.PeerSteps.{exchanged}
use Rattle.book_history.specs.Slots.{slot}
use Rattle.book_core.specs.declared.peering.Peering.{Peering}
use Rattle.book_core.specs.Opening.{Opens, OpensHelper}
use Rattle.book_core.specs.Stands.{HelpersStand, PeersStand, names_heard}
use Rattle.book_core.proofs.BelowLemmas.{at_or_below}
use Rattle.book_core.proofs.SettleLemmas.{get_before, get_last}

-- ---- lists that grow by one element at a time

module _ {A : Type 0} (P : ℕ → A → Type 0) where
  -- what holds of each element by its number
  abbrev pub EachIs : List A → Type 0
  EachIs xs = (n : ℕ) (x : A) → slice_get xs n ≡ Some x → P n x

  pub each_none : EachIs []
  each_none n x at = absurd (let no_way : ◌≡◌ {A = Option A} None (Some x) = at in cc)

  pub each_next : (xs : List A) (n : ℕ) (x : A) → length xs ≡ n → P n x → EachIs xs → EachIs (xs ++ x ∷ [])
  each_next xs n x count holds each m y at =
      let long = length-append xs (x ∷ []) in
      let inside = slice_get_within (xs ++ x ∷ []) m y at in
      elim (at_or_below m n (omega (arith, inside, long, count))) [
        | inl same ↦
            let one : x ≡ y =
            same_Some _ _ (sym (get_last xs x) ∙ ap (slice_get (xs ++ x ∷ [])) (count ∙ sym same) ∙ at) in
            subst (λ k. P k y) (sym same) (subst (P n) one holds)
        | inr under ↦ each m y (sym (get_before xs x m (omega (arith, under, count))) ∙ at)
      ]

  pub count_next : (xs : List A) (n : ℕ) (x : A) → length xs ≡ n → length (xs ++ x ∷ []) ≡ n + 1
  count_next xs n x count = length-append xs (x ∷ []) ∙ ap (λ k. k + 1) count

-- what a slice lends at a place is what is there
pub got : {A : Type 0} (xs : List A) (i : ℕ) (lent : Option (Bor A)) → IsItemAt xs i lent
    → option_copied lent ≡ slice_get xs i
got xs i None is = sym (slice_get_past xs i is.3)
got xs i (Some x) is = sym (slice_get_read xs (length xs) i x.now refl is.3.0 is.1)

-- what holds of all holds at each place
pub all_at : {A : Type 0} (P : A → Type 0) (xs : List A) → AllByRecursion P xs → (n : ℕ) → IfSome (slice_get xs n) P
all_at P [] all n = tt
all_at P (x ∷ xs) all zero = all.0
all_at P (x ∷ xs) all (suc n) = all_at P xs all.1 n

-- ---- what stands in the slots

slot_all : {A : Type 0} (xs : List A) (n : ℕ) → slot (map Some xs) n ≡ slice_get xs n
slot_all [] n = refl
slot_all (x ∷ xs) zero = refl
slot_all (x ∷ xs) (suc n) = slot_all xs n

pub peers_opened : (cfg : Sections) (peers : List Peering)
    → ((n : ℕ) (is : Peering) → slice_get peers n ≡ Some is → Opens (slice_get cfg.neighbors n) is)
    → PeersStand cfg [] peers
peers_opened cfg peers each = λ n is there.
    let opens = each n is there in
    let same = sym (slot_all cfg.neighbors n) in
    record {
      slot = subst (λ (held : Option Neighbor). of_peer.Stands (exchanged None held) is.slot) same opens.slot;
      names = opens.names ∙ ap names_heard same;
    }

pub helpers_opened : (cfg : Sections) (helpers : List Helper)
    → ((h : ℕ) (is : Helper) → slice_get helpers h ≡ Some is → OpensHelper (slice_get cfg.processes h) is)
    → HelpersStand cfg [] helpers
helpers_opened cfg helpers each = λ h is there. each h is there cfg h (sym (slot_all cfg.processes h))
