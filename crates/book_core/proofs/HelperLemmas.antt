-- An entry of one helper slot, or of none.
use Rattle.std.proofs.Common.{◌≡◌, ℕ, ◌<◌, zero, suc, true, false, not, List, [], ◌∷◌, length, Some, None}
use Rattle.std.proofs.Common.{refl, sym, ap, ◌∙◌, subst, arith, eqb-true, ne_eqb}
use Rattle.std.proofs.lemmas.Bool.{eqb-false}
use Rattle.std.specs.Prelude.{◌==◌, get_or, slice_get, slice_set, IsTrue}
use Rattle.std.proofs.lemmas.List.{length-set}
use Rattle.std.proofs.lemmas.Option.{same_Some, slice_get_read}
use Rattle.config_model.specs.Sections.{Sections}
use Rattle.helper_book.specs.Apart.{is_apart}
use Rattle.helper_book.specs.Seen.{Seen as Helper}
use Rattle.helper_book.specs.Stands as of_helper
use Rattle.helper_book.proofs.ApartLemmas.{others_leave}
use Rattle.book_history.specs.declared.outcomes.Reload.TheVariants as reload
use Rattle.book_history.specs.declared.outcomes.Verdict.TheVariants as verdict
use Rattle.book_history.specs.Entries.{Entry, History}
use Rattle.book_history.specs.Entries.Entry.{LineEntered, RepliesTaken, HelperDeaf, HelperGone, SpawnAsked, Reloaded}
use Rattle.book_history.specs.Legal.{Allows}
use Rattle.book_core.specs.Quiet.{is_of_helper, is_quiet, ends_daemon, due_behind}
use Rattle.book_core.specs.Seen.{Seen, IsWhole}
use Rattle.book_core.specs.Stands.{HelpersStand, Stands}
use Rattle.book_core.proofs.HeldLemmas.{daemon_on, held_quiet}
use Rattle.book_core.proofs.QuietLemmas.{quiet_peers}

module _ {A : Type 0} where
  -- what stands in a list that was changed at one place
  pub get_set_same : (xs : List A) (n : ℕ) (v w : A) → slice_get (slice_set xs n v) n ≡ Some w → v ≡ w
  get_set_same [] n v w at = cc
  get_set_same (x ∷ xs) zero v w at = same_Some _ _ at
  get_set_same (x ∷ xs) (suc n) v w at = get_set_same xs n v w at

  pub get_set_put : (xs : List A) (n : ℕ) (v : A) → n < length xs → slice_get (slice_set xs n v) n ≡ Some v
  get_set_put [] n v within = absurd (omega (arith, within))
  get_set_put (x ∷ xs) zero v within = refl
  get_set_put (x ∷ xs) (suc n) v within = get_set_put xs n v (omega (arith, within))

  pub get_set_other : (xs : List A) (n m : ℕ) (v : A) → (n == m) ≡ false
      → slice_get (slice_set xs n v) m ≡ slice_get xs m
  get_set_other [] n m v other = refl
  get_set_other (x ∷ xs) zero zero v other = cc
  get_set_other (x ∷ xs) zero (suc m) v other = refl
  get_set_other (x ∷ xs) (suc n) zero v other = refl
  get_set_other (x ∷ xs) (suc n) (suc m) v other =
      get_set_other xs n m v (ne_eqb n m (λ same. eqb-false (suc n) (suc m) other (ap suc same)))

-- one helper slot's number isn't another's
not_same : (h k j : ℕ) → (j == h) ≡ true → (h == k) ≡ false → not (j == k) ≡ true
not_same h k j same other =
    ap not (subst (λ i. (i == k) ≡ false) (sym (eqb-true j h same)) other)

-- an entry of one helper slot is no concern of another
pub apart_from : (h k : ℕ) (entry : Entry) → is_of_helper h entry ≡ true → (h == k) ≡ false
    → IsTrue (is_apart k entry)
apart_from h k (LineEntered j inc line reading verdict.Ended) of_it other = refl
apart_from h k (LineEntered j inc line reading verdict.Busy) of_it other = refl
apart_from h k (LineEntered j inc line reading given) of_it other = not_same h k j of_it other
apart_from h k (RepliesTaken j inc given) of_it other = not_same h k j of_it other
apart_from h k (HelperDeaf j inc) of_it other = not_same h k j of_it other
apart_from h k (HelperGone j inc) of_it other = not_same h k j of_it other
apart_from h k (SpawnAsked j now given) of_it other = not_same h k j of_it other
apart_from h k (Reloaded new reload.Ok) of_it other = absurd (let never : false ≡ true = of_it in cc)
apart_from h k entry of_it other = absurd (let never : false ≡ true = of_it in cc)

-- the helper slots behind an entry that is no concern of any
pub helpers_apart : (cfg : Sections) (H : History) (entry : Entry) (helpers : List Helper)
    → ((h : ℕ) → IsTrue (is_apart h entry)) → HelpersStand cfg H helpers → HelpersStand cfg (entry ∷ H) helpers
helpers_apart cfg H entry helpers apart stand = λ h helper at.
    others_leave cfg H h helper entry (apart h) (stand h helper at)

-- the helper slots behind an entry of one of them
pub helper_changed : (cfg : Sections) (H : History) (entry : Entry) (helpers : List Helper) (h : ℕ) (new : Helper)
    → is_of_helper h entry ≡ true → of_helper.Stands cfg (entry ∷ H) h new → HelpersStand cfg H helpers
    → HelpersStand cfg (entry ∷ H) (slice_set helpers h new)
helper_changed cfg H entry helpers h new of_it own stand = λ k helper at.
    elim (h == k) as (λ so. (h == k) ≡ so → of_helper.Stands cfg (entry ∷ H) k helper) [
      | true ↦ λ same.
          let one : h ≡ k = eqb-true h k same in
          let is : new ≡ helper =
          get_set_same helpers h new helper
          (subst (λ i. slice_get (slice_set helpers h new) i ≡ Some helper) (sym one) at) in
          subst (λ i. of_helper.Stands cfg (entry ∷ H) i helper) one
          (subst (λ s. of_helper.Stands cfg (entry ∷ H) h s) is own)
      | false ↦ λ other.
          others_leave cfg H k helper entry (apart_from h k entry of_it other)
          (stand k helper (sym (get_set_other helpers h k new other) ∙ at))
    ] refl

-- the slots are all there behind a change of one helper slot
pub whole_helper : (old : Seen) (h : ℕ) (new : Helper) → IsWhole old
    → IsWhole (record old { helpers = slice_set old.helpers h new })
whole_helper old h new whole = record {
  helpers = length-set old.helpers h new ∙ whole.helpers;
  peers = whole.peers;
}

-- A helper slot did what an entry of it alone says: the book stands behind the entry.
pub helper_did : (cfg : Sections) (H : History) (entry : Entry) (old : Seen) (h : ℕ) (was new : Helper)
    → is_of_helper h entry ≡ true → is_quiet entry ≡ true → ends_daemon entry ≡ false → due_behind entry ≡ None
    → h < length old.helpers → was ≡ get_or old.helpers h was
    → (of_helper.Stands cfg H h was → Allows cfg H entry × of_helper.Stands cfg (entry ∷ H) h new)
    → Stands cfg H old
    → Allows cfg H entry × Stands cfg (entry ∷ H) (record old { helpers = slice_set old.helpers h new })
helper_did cfg H entry old h was new of_it quiet on silent within is did stands =
    let found : slice_get old.helpers h ≡ Some was =
    slice_get_read old.helpers (length old.helpers) h was refl within is in
    let own = did (stands.helpers h was found) in
    let after : Seen = record old { helpers = slice_set old.helpers h new } in (
      own.0,
      record {
        helpers = helper_changed cfg H entry old.helpers h new of_it own.1 stands.helpers;
        peers = quiet_peers cfg H entry old.peers quiet stands.peers;
        daemon = daemon_on H entry old after on silent refl refl stands.daemon;
        held = held_quiet cfg H entry quiet own.0 stands.held;
      },
    )

-- A quiet entry that is no concern of any helper slot: the book stands behind it as it is.
pub quiet_did : (cfg : Sections) (H : History) (entry : Entry) (book : Seen) → is_quiet entry ≡ true
    → ((h : ℕ) → IsTrue (is_apart h entry)) → ends_daemon entry ≡ false → due_behind entry ≡ None
    → Allows cfg H entry → Stands cfg H book → Stands cfg (entry ∷ H) book
quiet_did cfg H entry book quiet apart on silent allowed stands = record {
  helpers = helpers_apart cfg H entry book.helpers apart stands.helpers;
  peers = quiet_peers cfg H entry book.peers quiet stands.peers;
  daemon = daemon_on H entry book book on silent refl refl stands.daemon;
  held = held_quiet cfg H entry quiet allowed stands.held;
}
