use Rattle.std.proofs.Common.{ℕ, List, [], ◌∷◌, ◌++◌, ◌≡◌, ◌-◌, ◌<◌, ◌≤◌, length, get_or, refl, sym, ap, subst, ◌∙◌}
use Rattle.std.proofs.Common.{arith}
use Rattle.std.proofs.lemmas.Bool.{eqb-true, eqb-false}
use Rattle.respawn_window.specs.Starts.{raised, Remembers}
use Rattle.respawn_window.proofs.StartsLemmas.{asked_few, asked_near, asked_far, moment_of}
use Rattle.respawn_window.proofs.window.Window.ask.Goals as goal

pub returns-then-not-is_full-clause-recorded : goal.returns-then-not-is_full-clause-recorded
returns-then-not-is_full-clause-recorded c = λ starts is.
    let kept : List ℕ = c.self.inside.starts.items in
    let other : length kept ≡ 5 → ⊥ = eqb-false (length kept) 5 (sym c.is_full.ensures.value ∙ c.if-not-is_full.true) in
    let few : length kept < 5 = omega (arith, other, c.is_full.ensures.fits) in
    let at = moment_of kept c.deref.result.now c.args.now c.latest.result c.max-now.result c.max-now.ensures
    c.latest.ensures c.deref.ensures.0 in
    subst (Remembers (starts ++ raised starts c.args.now ∷ [])) (sym c.push.ensures.items)
    (asked_few starts kept c.args.now c.max-now.result (subst (Remembers starts) (sym c.self.view_is) is) at few)

pub returns-then-saturating_sub-lt-SPAN-clause-allowed : goal.returns-then-saturating_sub-lt-SPAN-clause-allowed
returns-then-saturating_sub-lt-SPAN-clause-allowed c = λ starts is.
    let kept : List ℕ = c.self.inside.starts.items in
    let full : length kept ≡ 5 = eqb-true (length kept) 5 (sym c.is_full.ensures.value ∙ c.if-not-is_full.false) in
    let at = moment_of kept c.deref.result.now c.args.now c.latest.result c.max-now.result c.max-now.ensures
    c.latest.ensures c.deref.ensures.0 in
    let first : get_or c.deref-2.result.now 0 0 ≡ get_or kept 0 0 =
    ap (λ (xs : List ℕ). get_or xs 0 0) c.deref-2.ensures.0 in
    let near : c.max-now.result - get_or kept 0 0 < 60000 = omega
    (arith, c.saturating_sub.ensures, c.if-saturating_sub-lt-SPAN.true) in
    let many = asked_near starts kept c.args.now c.max-now.result (subst (Remembers starts) (sym c.self.view_is) is) at
    full near in
    (λ yes. absurd cc, λ few. absurd (omega arith))

pub returns-clause-allowed : goal.returns-clause-allowed
returns-clause-allowed c = λ starts is.
    let kept : List ℕ = c.self.inside.starts.items in
    let full : length kept ≡ 5 = eqb-true (length kept) 5 (sym c.is_full.ensures.value ∙ c.if-not-is_full.false) in
    let at = moment_of kept c.deref.result.now c.args.now c.latest.result c.max-now.result c.max-now.ensures
    c.latest.ensures c.deref.ensures.0 in
    let first : get_or c.deref-2.result.now 0 0 ≡ get_or kept 0 0 =
    ap (λ (xs : List ℕ). get_or xs 0 0) c.deref-2.ensures.0 in
    let far : 60000 ≤ c.max-now.result - get_or kept 0 0 = omega
    (arith, c.saturating_sub.ensures, c.if-saturating_sub-lt-SPAN.false) in
    let parts = asked_far starts kept c.args.now c.max-now.result (subst (Remembers starts) (sym c.self.view_is) is) at
    full far in
    (λ yes. parts.0, λ few. refl)

pub returns-clause-recorded : goal.returns-clause-recorded
returns-clause-recorded c = λ starts is.
    let kept : List ℕ = c.self.inside.starts.items in
    let full : length kept ≡ 5 = eqb-true (length kept) 5 (sym c.is_full.ensures.value ∙ c.if-not-is_full.false) in
    let at = moment_of kept c.deref.result.now c.args.now c.latest.result c.max-now.result c.max-now.ensures
    c.latest.ensures c.deref.ensures.0 in
    let first : get_or c.deref-2.result.now 0 0 ≡ get_or kept 0 0 =
    ap (λ (xs : List ℕ). get_or xs 0 0) c.deref-2.ensures.0 in
    let far : 60000 ≤ c.max-now.result - get_or kept 0 0 = omega
    (arith, c.saturating_sub.ensures, c.if-saturating_sub-lt-SPAN.false) in
    let parts = asked_far starts kept c.args.now c.max-now.result (subst (Remembers starts) (sym c.self.view_is) is) at
    full far in
    subst (Remembers (starts ++ raised starts c.args.now ∷ []))
    (sym (c.push-2.ensures.items ∙ ap (λ (xs : List ℕ). xs ++ c.max-now.result ∷ []) c.remove.ensures.items))
    parts.1
