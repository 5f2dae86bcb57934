-- Items that add entries to a history, looked at around one of them.
use Rattle.std.proofs.Common.{ℕ, ◌≡◌, ◌≢◌, ◌<◌, ◌+◌, zero, suc, List, [], ◌∷◌, ◌++◌, Some, refl, sym, ap, ◌∙◌, subst}
use Rattle.std.proofs.Common.{append_assoc, arith}
use Rattle.std.proofs.lemmas.Option.{same_Some}
use Rattle.std.specs.Prelude.{slice_get}
use Rattle.std.specs.List.{AllByRecursion}
use Rattle.book_history.specs.Entries.{History}
use Rattle.text_history.specs.Adding.{Adding}
use Rattle.text_history.specs.Encodes.{numbered}

-- what each addition keeps, all of them keep
pub kept : {A : Type 0} (Adds : History → A → History → Type 0) (Is : A → Type 0) (P : History → Type 0)
    → ((K : History) (item : A) (added : History) → Is item → Adds K item added → P K → P (added ++ K))
    → (start : History) (items : List A) (H : History) → AllByRecursion Is items → Adding Adds start items H
    → P start → P H
kept Adds Is P keeps start [] H are is p = subst P (sym is) p
kept Adds Is P keeps start (item ∷ items) H are (added, adds, rest) p =
    kept Adds Is P keeps (added ++ start) items H are.1 rest (keeps start item added are.0 adds p)

-- additions leave what was there
pub record GrewFrom (start H : History) : Type 0 where
  pub more : History
  pub is : H ≡ more ++ start

pub grown : {A : Type 0} (Adds : History → A → History → Type 0) (start : History) (items : List A) (H : History)
    → Adding Adds start items H → GrewFrom start H
grown Adds start [] H is = record { more = []; is = is }
grown Adds start (item ∷ items) H (added, adds, rest) =
    let grew = grown Adds (added ++ start) items H rest in
    record { more = grew.more ++ added; is = grew.is ∙ sym (append_assoc grew.more added start) }

-- what came before an item, by it, and after it
pub record Around {A : Type 0} (Adds : History → A → History → Type 0) (start : History) (before : List A) (item : A)
    (after : List A) (H : History) : Type 0 where
  pub mid : History
  pub added : History
  pub front : Adding Adds start before mid
  pub adds : Adds mid item added
  pub rest : Adding Adds (added ++ mid) after H

pub around : {A : Type 0} (Adds : History → A → History → Type 0) (start : History) (before : List A) (item : A)
    (after : List A) (H : History) → Adding Adds start (before ++ item ∷ after) H
    → Around Adds start before item after H
around Adds start [] item after H (added, adds, rest) =
    record { mid = start; added = added; front = refl; adds = adds; rest = rest }
around Adds start (first ∷ before) item after H (more, adds, rest) =
    let behind = around Adds (more ++ start) before item after H rest in record {
      mid = behind.mid;
      added = behind.added;
      front = (more, adds, behind.front);
      adds = behind.adds;
      rest = behind.rest;
    }

-- an item with another number
abbrev pub IsOther : {A : Type 0} → ℕ → ℕ × A → Type 0
IsOther n item = item.0 ≢ n

-- numbered items of which one alone has this number
pub record AreNumbered {A : Type 0} (n : ℕ) (one : A) (items : List (ℕ × A)) : Type 0 where
  pub before : List (ℕ × A)
  pub after : List (ℕ × A)
  pub items_are : items ≡ before ++ (n, one) ∷ after
  pub others_before : AllByRecursion (IsOther n) before
  pub others_after : AllByRecursion (IsOther n) after

later_others : {A : Type 0} (n k : ℕ) (items : List A) → n < k → AllByRecursion (IsOther n) (numbered k items)
later_others n k [] above = tt
later_others n k (item ∷ items) above =
    ((λ e. absurd (omega (arith, e, above))), later_others n (k + 1) items (omega (arith, above)))

pub numbered_at : {A : Type 0} (k : ℕ) (items : List A) (j n : ℕ) (one : A) → slice_get items j ≡ Some one
    → n ≡ k + j → AreNumbered n one (numbered k items)
numbered_at k [] j n one at is = cc
numbered_at k (item ∷ items) zero n one at is = record {
  before = [];
  after = numbered (k + 1) items;
  items_are =
      let same : k ≡ n = omega (arith, is) in
      let own : item ≡ one = same_Some _ _ at in
      λ t. (same t, own t) ∷ numbered (k + 1) items;
  others_before = tt;
  others_after = later_others n (k + 1) items (omega (arith, is));
}
numbered_at k (item ∷ items) (suc j) n one at is =
    let rest = numbered_at (k + 1) items j n one at (omega (arith, is)) in record {
      before = (k, item) ∷ rest.before;
      after = rest.after;
      items_are = ap (λ those. (k, item) ∷ those) rest.items_are;
      others_before = ((λ e. absurd (omega (arith, e, is))), rest.others_before);
      others_after = rest.others_after;
    }
