-- Starts of a helper.
use Rattle.std.proofs.Common.{◌≡◌, ℕ, ◌+◌, ◌-◌, ◌<◌, ◌≤◌, Bool, true, false, not, List, [], ◌∷◌, ◌++◌, Some, None}
use Rattle.std.proofs.Common.{refl}
use Rattle.std.proofs.Common.{sym, ap}
use Rattle.std.proofs.Common.{◌∙◌, cond, subst, arith, eq-eqb}
use Rattle.std.specs.Prelude.{◌==◌, ◌||◌, if◌then◌else◌, nat_lt, max, Option}
use Rattle.std.specs.List.{count_by}
use Rattle.std.proofs.lemmas.Bool.Decides.{Decides-ltb}
use Rattle.std.proofs.lemmas.List.Sums.{sum_by_push}
use Rattle.arrayvec.specs.ArrayVec.{ArrayVec}
use Rattle.config_model.specs.declared.sections.Process.{Process}
use Rattle.config_model.specs.Sections.{Sections}
use Rattle.respawn_window.specs.Starts.{greatest, raised, window, with_start}
use Rattle.book_history.specs.declared.outcomes.Spawn.{Spawn}
use Rattle.book_history.specs.declared.outcomes.Spawn.TheVariants as spawn
use Rattle.book_history.specs.Bounds.{max_incarnations, max_starts}
use Rattle.book_history.specs.Entries.{History}
use Rattle.book_history.specs.Entries.Entry.{SpawnAsked}
use Rattle.book_history.specs.HelperLaws.{IncarnationsCount, StartsAreFew}
use Rattle.book_history.specs.Helpers.{child, is_given_up, is_present, starts, starts_counted}
use Rattle.book_history.specs.Legal.{gives_up, is_spent, process_started, started}
use Rattle.book_history.specs.Slots.{process_at}
use Rattle.book_history.specs.Verdicts.{is_stopping}

-- the second of two answers, where the first one isn't this
pub second_is : {A : Type 0} (so : Bool) (x y v : A) → (x ≡ v → ⊥) → (if so then x else y) ≡ v
    → (so ≡ false) × (y ≡ v)
second_is true x y v other h = absurd (other h)
second_is false x y v other h = (refl, h)

pub neither : (a b : Bool) → (a || b) ≡ false → (a ≡ false) × (b ≡ false)
neither true b h = cc
neither false b h = (refl, h)

pub not_false : (a : Bool) → not a ≡ false → a ≡ true
not_false true h = refl
not_false false h = cc

-- what is known of a start
record IsStart (cfg : Sections) (H : History) (h now inc : ℕ) : Type 0 where
  pub inc_is : inc ≡ starts_counted h H + 1
  pub few : window (starts cfg h H) now < max_starts

abbrev inc_of : Spawn → ℕ
inc_of (spawn.Go inc run) = inc
inc_of _ = 0

process_start : (cfg : Sections) (H : History) (h now inc : ℕ) (run : ArrayVec ℕ) (process : Option Process)
    → process_started cfg H h now process ≡ spawn.Go inc run → IsStart cfg H h now inc
process_start cfg H h now inc run None e = cc
process_start cfg H h now inc run (Some process) e =
    let absent = second_is (is_present (child cfg h H)) _ _ _ (λ r. cc) e in
    let goes = second_is (gives_up cfg H h now process) _ _ _ (λ r. cc) absent.1 in
    let one = neither (is_given_up cfg h H || not (nat_lt (window (starts cfg h H) now) max_starts)
    || is_spent process (starts cfg h H)) (starts_counted h H == max_incarnations) goes.0 in
    let two = neither (is_given_up cfg h H || not (nat_lt (window (starts cfg h H) now) max_starts))
    (is_spent process (starts cfg h H)) one.0 in
    let three = neither (is_given_up cfg h H) (not (nat_lt (window (starts cfg h H) now) max_starts)) two.0 in
    record {
      inc_is = sym (ap inc_of goes.1);
      few = (Decides-ltb (window (starts cfg h H) now) max_starts).0
          (not_false (nat_lt (window (starts cfg h H) now) max_starts) three.1);
    }

is_start : (cfg : Sections) (H : History) (h now inc : ℕ) (run : ArrayVec ℕ)
    → spawn.Go inc run ≡ started cfg H h now → IsStart cfg H h now inc
is_start cfg H h now inc run e =
    let goes = second_is (is_stopping H) _ _ _ (λ r. cc) (sym e) in
    process_start cfg H h now inc run (process_at cfg H h) goes.1

pub incarnations_count : IncarnationsCount
incarnations_count cfg H h now inc run legal = (is_start cfg H h now inc run legal.0).inc_is

greatest_push : (ms : List ℕ) (m : ℕ) → greatest (ms ++ m ∷ []) ≡ max (greatest ms) m
greatest_push [] m = omega arith
greatest_push (n ∷ ms) m = let rest = greatest_push ms m in omega (arith, rest)

-- a moment that was raised already counts as it is
raised_again : (ms : List ℕ) (now : ℕ) → raised (ms ++ raised ms now ∷ []) now ≡ raised ms now
raised_again ms now = let last = greatest_push ms (raised ms now) in omega (arith, last)

one_or_none : (so : Bool) → cond so 1 0 ≤ 1
one_or_none true = omega arith
one_or_none false = omega arith

pub starts_are_few : StartsAreFew
starts_are_few cfg H h now inc run legal =
    let few = (is_start cfg H h now inc run legal.0).few in
    let ms = starts cfg h H in
    let near : ℕ → ℕ → Bool = λ from m. nat_lt (from - m) 60000 in
    let own : starts cfg h (SpawnAsked h now (spawn.Go inc run) ∷ H) ≡ ms ++ raised ms now ∷ [] =
    ap (λ so. with_start so ms now) (eq-eqb h h refl) in
    let more : window (ms ++ raised ms now ∷ []) now
    ≡ count_by (near (raised ms now)) ms + cond (near (raised ms now) (raised ms now)) 1 0 =
    ap (λ from. count_by (near from) (ms ++ raised ms now ∷ [])) (raised_again ms now)
    ∙ sum_by_push (λ m. cond (near (raised ms now) m) 1 0) ms (raised ms now) in
    let one = one_or_none (near (raised ms now) (raised ms now)) in
    let at_most : window (ms ++ raised ms now ∷ []) now ≤ max_starts = omega (arith, more, one, few) in
    subst (λ moments. window moments now ≤ max_starts) (sym own) at_most
